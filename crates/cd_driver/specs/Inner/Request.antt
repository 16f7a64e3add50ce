-- What the code makes of words.
use Rattle.std.specs.Prelude.{ℕ, List}
use Rattle.cd_driver.specs.declared.request.Request.{Request}
use Rattle.cd_driver.specs.declared.request.Request.TheVariants.{Sub as AsksSub}
use Rattle.cd_driver.specs.declared.request.Request.TheVariants.{SubTypes as AsksSubTypes}
use Rattle.cd_driver.specs.declared.request.Request.TheVariants.{Member as AsksMember}
use Rattle.cd_driver.specs.declared.request.Request.TheVariants.{Check as AsksCheck}
use Rattle.cd_driver.specs.declared.request.Request.TheVariants.{Run as AsksRun}
use Rattle.cd_driver.specs.declared.request.Request.TheVariants.{Work as AsksWork}
use Rattle.cd_replies.specs.Bytes.{Bytes}
use Rattle.cd_driver.specs.Command.{Sub, SubTypes, Member, Check, Work, IsSize, ParseAs, ParseAsRun}

-- the words give the command that the request stands for
abbrev pub StandsFor : List Bytes → Request → Type 0
StandsFor words (AsksSub first second) = ParseAs words (Sub first.now second.now)
StandsFor words (AsksSubTypes file first second) =
    ParseAs words (SubTypes file.now first.now second.now)
StandsFor words (AsksMember file document type) =
    ParseAs words (Member file.now document.now type.now)
StandsFor words (AsksCheck file) = ParseAs words (Check file.now)
StandsFor words (AsksRun file document units) = ParseAsRun words units file.now document.now
StandsFor words (AsksWork size) = ParseAs words (Work size)

-- the word is a size
abbrev pub WritesSize : Bytes → Type 0
WritesSize word = (size : ℕ) × IsSize word size
