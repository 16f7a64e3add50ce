-- Each answer of `sub` is a reply.
use Rattle.std.specs.Prelude.{codes}
use Rattle.cd_syntax.specs.TypeTree.{Declarations}
use Rattle.cd_replies.specs.Bytes.{Bytes}
use Rattle.cd_replies.specs.Reply.{Reply}
use Rattle.cd_replies.specs.Texts.{RefusesDeclarations}
use Rattle.cd_replies.specs.Disk.{Disk}
use Rattle.cd_sub.specs.SubAnswer.{SubAnswer, yes, no, first_refused, second_refused}
use Rattle.cd_sub.specs.SubAnswer.{SubTypesAnswer, file_refused, on_texts}
use Rattle.cd_replies.proofs.Replies.{IsReply, refusal_is_reply, file_is_reply}

pub sub_is_reply : (declared : Declarations) (text1 text2 : Bytes) (reply : Reply) → SubAnswer declared text1 text2 reply → IsReply reply
sub_is_reply declared text1 text2 _ (yes first second is1 is2 within) = record { text = λ out err. cc; status = λ is. cc }
sub_is_reply declared text1 text2 _ (no first second is1 is2 element is inside outside) = record { text = λ out err. cc; status = λ is. cc }
sub_is_reply declared text1 text2 _ (first_refused found stands) = refusal_is_reply (codes "T1") text1 found
sub_is_reply declared text1 text2 _ (second_refused first is1 found stands) = refusal_is_reply (codes "T2") text2 found

pub sub_types_is_reply : (disk : Disk) (file text1 text2 : Bytes) (reply : Reply) → SubTypesAnswer disk file text1 text2 reply → IsReply reply
sub_types_is_reply disk file text1 text2 _ (file_refused reply refusal) = file_is_reply RefusesDeclarations disk file reply refusal
sub_types_is_reply disk file text1 text2 _ (on_texts text has declared declares reply answers) = sub_is_reply declared text1 text2 reply answers
