-- Messages that give an answer.
use Rattle.std.proofs.Common.{◌≡◌, Result, Ok, Err}
use Rattle.std.specs.Prelude.{IfOk, String, string_bytes, true, false}
use Rattle.std.specs.Global.{Global}
use Rattle.std.specs.declared.alloc.AllocError.{AllocError}
use Rattle.cd_base.specs.FilesState.{FilesState}
use Rattle.cd_syntax.specs.TypeTree.{Declarations}
use Rattle.cd_sets.specs.declared.node_id.NodeId.{NodeId}
use Rattle.cd_model.specs.Formula.{Graph}
use Rattle.cd_replies.specs.Bytes.{Bytes}
use Rattle.cd_replies.specs.Reply.{Reply, cannot_read}
use Rattle.cd_replies.specs.Naming.{StandsForText}
use Rattle.cd_replies.specs.Texts.{RefusesDeclarations}
use Rattle.cd_replies.specs.Disk.{Disk, HasText, unreadable, known_disk, unreadable_disk}
use Rattle.cd_replies.proofs.Messages.{replies, nothing_said}
use Rattle.cd_replies.proofs.FilesEncountered.{has_text, encountered_same, FaultMet, failed, granted, fault_encountered}
use Rattle.cd_sub.specs.SubAnswer.{SubAnswer, yes, no, SubTypesAnswer, file_refused}
use Rattle.cd_sub.specs.Inner.Comparing.{ComparesNodes, within, outside}
use Rattle.cd_replies.specs.Message.{IsAnswer, reply_of}
use Rattle.cd_replies.specs.File.{IsFileRead, IsSaidOfFile, said_of}
use Rattle.cd_replies.specs.declared.file.FileError.{FileError}
use Rattle.cd_replies.specs.declared.file.FileError.TheVariants.{Fault, Memory}
use Rattle.cd_replies.specs.declared.message.Message.{Message}

-- what is reported of two nodes, which stand for what texts read as, is the answer
pub compared : (graph : Graph) (declared : Declarations) (text1 text2 : Bytes) (first second : NodeId) → StandsForText graph first declared text1
    → StandsForText graph second declared text2 → (r : Result Message AllocError)
    → IfOk r (λ message. ComparesNodes graph first second (reply_of message))
    → IfOk r (λ message. SubAnswer declared text1 text2 (reply_of message))
compared graph declared text1 text2 first second is1 is2 (Ok message) compares = by_reply (reply_of message) compares
  where
    by_reply : (reply : Reply) → ComparesNodes graph first second reply → SubAnswer declared text1 text2 reply
    by_reply _ (within all) =
        yes is1.type is2.type is1.reads is2.reads
        (λ is element inside. (is2.stands.elements is true element).0 (all is element ((is1.stands.elements is true element).1 inside)))
    by_reply _ (outside element is is_in is_out) =
        no is1.type is2.type is1.reads is2.reads element is
        ((is1.stands.elements element true is).0 is_in) ((is2.stands.elements element false is).0 is_out)
compared graph declared text1 text2 first second is1 is2 (Err error) compares = tt

-- what is said of a file that has no text is an answer
answers_encountered : (old new : FilesState) (name text1 text2 : Bytes) (reply : Reply) → FaultMet RefusesDeclarations old new name reply
    → (r : Result Message AllocError) → IfOk r (λ message. reply_of message ≡ reply) → IsAnswer (λ disk. SubTypesAnswer disk name text1 text2) old new r
answers_encountered old new name text1 text2 _ (failed is refusal) r said = (
  unreadable_disk old name,
  unreadable name is.rose is.last,
  replies r (cannot_read name) (SubTypesAnswer (unreadable_disk old name) name text1 text2) said (file_refused (cannot_read name) refusal),
)
answers_encountered old new name text1 text2 _ (granted same reply refusal) r said = (
  known_disk old,
  encountered_same old new same,
  replies r reply (SubTypesAnswer (known_disk old) name text1 text2) said (file_refused reply refusal),
)

pub answers_error : (old new : FilesState) (name text1 text2 : Bytes) (error : FileError) → IsFileRead old new name (Err error)
    → (r : Result Message AllocError) → IfOk r (λ message. IsSaidOfFile name error (reply_of message))
    → IsAnswer (λ disk. SubTypesAnswer disk name text1 text2) old new r
answers_error old new name text1 text2 (Fault fault) is r said =
    answers_encountered old new name text1 text2 (said_of name fault) (fault_encountered RefusesDeclarations old new name fault is) r said
answers_error old new name text1 text2 Memory is r said =
    (known_disk old, encountered_same old new is, nothing_said r (SubTypesAnswer (known_disk old) name text1 text2) said)

-- and so is what is said where it has one
pub answers_text : (old new : FilesState) (name text1 text2 : Bytes) (text : String Global) → IsFileRead old new name (Ok text)
    → (r : Result Message AllocError) → IfOk r (λ message. (disk : Disk) → HasText disk name (string_bytes text) → SubTypesAnswer disk name text1 text2 (reply_of message))
    → IsAnswer (λ disk. SubTypesAnswer disk name text1 text2) old new r
answers_text old new name text1 text2 text is (Ok message) said = (
  known_disk old,
  encountered_same old new is.0,
  said (known_disk old) (has_text old new name text is),
)
answers_text old new name text1 text2 text is (Err error) said = (known_disk old, encountered_same old new is.0, tt)
