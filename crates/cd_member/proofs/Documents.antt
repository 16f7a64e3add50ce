-- What is reported of a document, by its text and its value.
use Rattle.std.proofs.Common.{◌≡◌, Bool, true, false, Result}
use Rattle.std.specs.Prelude.{IfOk, if◌then◌else◌, codes}
use Rattle.std.specs.Str.{chars}
use Rattle.std.specs.declared.alloc.AllocError.{AllocError}
use Rattle.cd_base.specs.declared.status.Status.TheVariants.{Done, No}
use Rattle.cd_sets.specs.declared.node_id.NodeId.{NodeId}
use Rattle.cd_model.specs.Formula.{Graph}
use Rattle.cd_model.specs.Interfaces.{Interfaces, value_in_node}
use Rattle.cd_model.specs.StandsFor.{StandsFor}
use Rattle.cd_model.specs.Thing.{Thing, IsValue}
use Rattle.cd_model.specs.Written.{Written}
use Rattle.cd_documents.specs.Reading.{WritesValue}
use Rattle.cd_replies.specs.Bytes.{Bytes}
use Rattle.cd_replies.specs.Disk.{Disk, HasText, refused}
use Rattle.cd_replies.specs.Message.{IsSaidOfText, reply_of}
use Rattle.cd_replies.specs.Reply.{Reply, says, refusal}
use Rattle.cd_replies.specs.declared.message.Message.{Message}
use Rattle.cd_replies.specs.declared.refusal.RefusalError.{RefusalError}
use Rattle.cd_replies.specs.Documents.{RefusesDocument}
use Rattle.cd_replies.specs.Refusals.{IfRefused}
use Rattle.cd_replies.proofs.Messages.{replies, refusal_replies}
use Rattle.cd_member.specs.MemberAnswer.{DocumentAnswer, document_refused, yes, no}

module _ (document text : Bytes) (graph : Graph) (id : NodeId) where
  -- an answer where the document has this text and the node stands for the type
  abbrev Answers : Reply → Type 0
  Answers reply = (disk : Disk) → HasText disk document text → (type : Written) → StandsFor graph id type
      → DocumentAnswer disk document type reply

  -- so it is refused
  pub document_is_refused : (error : RefusalError) → IfRefused error (RefusesDocument text) → (r : Result Message AllocError)
      → IfOk r (λ message. IsSaidOfText document text error (reply_of message)) → IfOk r (λ message. Answers (reply_of message))
  document_is_refused error is r said =
      refusal_replies r document text error (RefusesDocument text) Answers said is
      (λ found stands disk has type node. document_refused (refusal document text found) (refused text has found stands))

  -- its value is in the type or outside, as it is in the node
  answered : (v : Thing) → WritesValue (chars text) v → IsValue v → (inside : Bool) → ((interfaces : Interfaces) → value_in_node graph interfaces v id inside)
      → Answers (if inside then says Done (codes "yes") else says No (codes "no"))
  answered v writes value true is = λ disk has type stands.
      yes v (record { text = text; has = has; writes = writes }) (λ interfaces. (stands.values interfaces v true value).0 (is interfaces))
  answered v writes value false is = λ disk has type stands.
      no v (record { text = text; has = has; writes = writes }) (λ interfaces. (stands.values interfaces v false value).0 (is interfaces))

  pub document_is_answered : (v : Thing) → WritesValue (chars text) v → IsValue v → (inside : Bool)
      → ((interfaces : Interfaces) → value_in_node graph interfaces v id inside) → (r : Result Message AllocError)
      → IfOk r (λ message. reply_of message ≡ if inside then says Done (codes "yes") else says No (codes "no"))
      → IfOk r (λ message. Answers (reply_of message))
  document_is_answered v writes value inside is r said =
      replies r (if inside then says Done (codes "yes") else says No (codes "no")) Answers said (answered v writes value inside is)
