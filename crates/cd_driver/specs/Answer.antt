-- The answers of the program.
use Rattle.std.specs.Prelude.{◌≡◌, List, Some, ◌⊎◌}
use Rattle.cd_syntax.specs.TypeTree.{NoDeclaration}
use Rattle.cd_model.specs.AllOf.{AllOf}
use Rattle.cd_replies.specs.Bytes.{Bytes}
use Rattle.cd_driver.specs.Command.{Command, Sub, SubTypes, Member, Check, Run, RunSteps, Work}
use Rattle.cd_driver.specs.Command.{ParseAs, AreNoCommand, files_of}
use Rattle.cd_replies.specs.Reply.{Reply, usage}
use Rattle.cd_replies.specs.Disk.{Disk}
use Rattle.cd_checking.specs.CheckAnswer.{CheckAnswer}
use Rattle.cd_member.specs.MemberAnswer.{MemberAnswer}
use Rattle.cd_running.specs.RunAnswer.{RunAnswer, UNITS}
use Rattle.cd_sub.specs.SubAnswer.{SubAnswer, SubTypesAnswer}
use Rattle.cd_running.specs.WorkAnswer.{WorkAnswer}

-- the answers to a command, where the files are these
abbrev pub AnswerOf : Command → Disk → Reply → Type 0
AnswerOf (Sub text1 text2) disk reply = SubAnswer NoDeclaration text1 text2 reply
AnswerOf (SubTypes file text1 text2) disk reply = SubTypesAnswer disk file text1 text2 reply
AnswerOf (Member file document text) disk reply = MemberAnswer disk file document text reply
AnswerOf (Check file) disk reply = CheckAnswer disk file reply
AnswerOf (Run file document) disk reply = RunAnswer disk UNITS file document reply
AnswerOf (RunSteps units file document) disk reply = RunAnswer disk units file document reply
AnswerOf (Work size) disk reply = WorkAnswer size reply

-- the answers to words: those that have no listed form get the usage line
abbrev pub Answer : List Bytes → Disk → Reply → Type 0
Answer words disk reply = (AreNoCommand words × (reply ≡ usage))
    ⊎ ((command : Command) × ParseAs words command × AnswerOf command disk reply)

-- the file can't be read, or is known
abbrev pub IsKnown : Disk → Bytes → Type 0
IsKnown disk file = (disk.unreadable ≡ Some file)
    ⊎ ((bytes : Bytes) × (disk.known file ≡ Some bytes))

-- each file that the words' command reads is known
abbrev pub FileIsKnown : List Bytes → Disk → Type 0
FileIsKnown words disk = (command : Command) → ParseAs words command
    → AllOf (IsKnown disk) (files_of command)
