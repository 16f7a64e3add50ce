-- What putting one text leaves, and the status that it ends with.
use Rattle.cd_base.specs.declared.status.Status.{Status}
use Rattle.cd_base.specs.declared.status.Status.TheVariants.{WriteFault, NoMemory}
use Rattle.cd_base.specs.SinkState.{SinkState, Puts, PutsPrefix, FailsToPut}
use Rattle.cd_replies.specs.Bytes.{Bytes}

pub data Put (text : Bytes) (status : Status) (old new : SinkState) : Status → Type 0 where
  whole : Puts old new text → Put text status old new status
  refused : FailsToPut old new text → Put text status old new WriteFault
  cut : PutsPrefix old new text → Put text status old new NoMemory
