-- The answers of `member`.
use Rattle.std.specs.Prelude.{codes}
use Rattle.cd_base.specs.declared.status.Status.TheVariants.{Done, No}
use Rattle.cd_syntax.specs.TypeTree.{Declarations}
use Rattle.cd_model.specs.Thing.{Thing}
use Rattle.cd_model.specs.Written.{Written}
use Rattle.cd_replies.specs.Bytes.{Bytes}
use Rattle.cd_replies.specs.Reply.{Reply, says, refusal}
use Rattle.cd_replies.specs.Texts.{ReadsAs, Declares, RefusesType, RefusesDeclarations}
use Rattle.cd_replies.specs.Disk.{Disk, HasText, FileRefusal}
use Rattle.cd_replies.specs.Documents.{RefusesDocument, FileWrites, IsValueIn, IsValueOutside}
use Rattle.cd_replies.specs.declared.refusal.Refusal.{Refusal}

-- the file of this name has a text, which declares these types
pub record FileDeclares (disk : Disk) (file : Bytes) (declared : Declarations) : Type 0 where
  pub text : Bytes
  pub has : HasText disk file text
  pub declares : Declares text declared

-- the answers on a document, where the type is this
pub data DocumentAnswer (disk : Disk) (document : Bytes) (type : Written) : Reply → Type 0 where
  document_refused : (reply : Reply) → FileRefusal RefusesDocument disk document reply
      → DocumentAnswer disk document type reply
  -- yes: the value of the document is in the type
  yes : (v : Thing) → FileWrites disk document v → IsValueIn v type
      → DocumentAnswer disk document type (says Done (codes "yes"))
  -- no: it is outside
  no : (v : Thing) → FileWrites disk document v → IsValueOutside v type
      → DocumentAnswer disk document type (says No (codes "no"))

-- the answers of `member`: the file of declarations is taken first, then the type text, which sees
-- them, then the document
pub data MemberAnswer (disk : Disk) (file document text : Bytes) : Reply → Type 0 where
  file_refused : (reply : Reply) → FileRefusal RefusesDeclarations disk file reply
      → MemberAnswer disk file document text reply
  type_refused : (declared : Declarations) → FileDeclares disk file declared → (found : Refusal)
      → RefusesType declared text found
      → MemberAnswer disk file document text (refusal (codes "T") text found)
  on_document : (declared : Declarations) → FileDeclares disk file declared → (type : Written)
      → ReadsAs declared text type
      → (reply : Reply) → DocumentAnswer disk document type reply
      → MemberAnswer disk file document text reply
