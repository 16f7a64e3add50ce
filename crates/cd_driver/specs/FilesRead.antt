-- What a call leaves of what is known of files.
use Rattle.std.specs.Prelude.{◌≡◌, ◌⊎◌, List, []}
use Rattle.cd_base.specs.FilesState.{FilesState, FailsToRead}
use Rattle.cd_model.specs.AllOf.{AnyOf}
use Rattle.cd_replies.specs.Bytes.{Bytes}
use Rattle.cd_driver.specs.Command.{Command, ParseAs, files_of}

-- it stays as it was; or a fault was counted at a file that the words' command reads, which is the
-- last at which one came
abbrev pub ReadsFilesOf : List Bytes → (old new : FilesState) → Type 0
ReadsFilesOf words old new = (new ≡ old)
    ⊎ ((command : Command) × ParseAs words command × AnyOf (FailsToRead old new) (files_of command))

-- the words name no file that is read
abbrev pub NamesNoFile : List Bytes → Type 0
NamesNoFile words = (command : Command) → ParseAs words command → files_of command ≡ []
