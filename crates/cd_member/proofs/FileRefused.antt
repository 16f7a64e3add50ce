-- What refuses the file of declarations is an answer.
use Rattle.cd_replies.specs.Bytes.{Bytes}
use Rattle.cd_replies.specs.Disk.{Disk, FileRefusal}
use Rattle.cd_replies.specs.Reply.{Reply}
use Rattle.cd_replies.specs.Texts.{RefusesDeclarations}
use Rattle.cd_member.specs.MemberAnswer.{MemberAnswer, file_refused}

abbrev pub Answers : (document text : Bytes) → (file : Bytes) → Disk → Reply → Type 0
Answers document text file disk reply = MemberAnswer disk file document text reply

pub is_refused : (document text : Bytes) (file : Bytes) (disk : Disk) (reply : Reply) → FileRefusal RefusesDeclarations disk file reply
    → Answers document text file disk reply
is_refused document text file disk reply refusal = file_refused reply refusal
