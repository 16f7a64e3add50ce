-- Each answer of `member` is a reply.
use Rattle.std.specs.Prelude.{codes}
use Rattle.cd_model.specs.Written.{Written}
use Rattle.cd_replies.specs.Bytes.{Bytes}
use Rattle.cd_replies.specs.Reply.{Reply}
use Rattle.cd_replies.specs.Disk.{Disk}
use Rattle.cd_replies.specs.Texts.{RefusesDeclarations}
use Rattle.cd_replies.specs.Documents.{RefusesDocument}
use Rattle.cd_member.specs.MemberAnswer.{DocumentAnswer, document_refused, yes, no}
use Rattle.cd_member.specs.MemberAnswer.{MemberAnswer, file_refused, type_refused, on_document}
use Rattle.cd_replies.proofs.Replies.{IsReply, refusal_is_reply, file_is_reply}

document_is_reply : (disk : Disk) (document : Bytes) (type : Written) (reply : Reply) → DocumentAnswer disk document type reply → IsReply reply
document_is_reply disk document type _ (document_refused reply refusal) = file_is_reply RefusesDocument disk document reply refusal
document_is_reply disk document type _ (yes v writes inside) = record { text = λ out err. cc; status = λ is. cc }
document_is_reply disk document type _ (no v writes outside) = record { text = λ out err. cc; status = λ is. cc }

pub member_is_reply : (disk : Disk) (file document text : Bytes) (reply : Reply) → MemberAnswer disk file document text reply → IsReply reply
member_is_reply disk file document text _ (file_refused reply refusal) = file_is_reply RefusesDeclarations disk file reply refusal
member_is_reply disk file document text _ (type_refused declared declares found stands) = refusal_is_reply (codes "T") text found
member_is_reply disk file document text _ (on_document declared declares type reads reply answers) = document_is_reply disk document type reply answers
