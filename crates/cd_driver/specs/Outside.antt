-- What is known of the outside at one moment.
use Rattle.cd_base.specs.FilesState.{FilesState}
use Rattle.cd_base.specs.SinkState.{SinkState}

-- the files, and the sinks for output and for errors
pub record Outside : Type 0 where
  pub files : FilesState
  pub out : SinkState
  pub err : SinkState

abbrev pub outside : FilesState → SinkState → SinkState → Outside
outside files out err = record { files = files; out = out; err = err }
