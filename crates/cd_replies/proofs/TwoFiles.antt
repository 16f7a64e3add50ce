-- How parts of a command end that reads a document after another file, and the whole.
use Rattle.std.proofs.Common.{◌≡◌, Bool, true, false, [], ◌∷◌, inl, inr, Result, Ok, Err, refl, sym, ap, subst, ◌∙◌}
use Rattle.std.specs.Prelude.{IfOk, String, string_bytes}
use Rattle.std.specs.Str.{bytes_eq}
use Rattle.std.specs.Global.{Global}
use Rattle.std.specs.declared.alloc.AllocError.{AllocError}
use Rattle.std.proofs.lemmas.Bool.{true≢false}
use Rattle.std.proofs.lemmas.Slice.Eq.{bytes_eq-Decides}
use Rattle.cd_base.specs.FilesState.{FilesState}
use Rattle.cd_replies.specs.Bytes.{Bytes}
use Rattle.cd_replies.specs.Disk.{Disk, HasText, unreadable, known_disk, unreadable_disk, FileRefusal, unread}
use Rattle.cd_replies.specs.File.{IsFileRead, ReadsAmong, IsSaidOfFile, said_of}
use Rattle.cd_replies.specs.Message.{IsAnswer, IsSaidOfText, reply_of}
use Rattle.cd_replies.specs.Reply.{Reply, cannot_read, refusal}
use Rattle.cd_replies.specs.Refusals.{IfRefused}
use Rattle.cd_replies.specs.declared.file.FileError.{FileError}
use Rattle.cd_replies.specs.declared.file.FileError.TheVariants.{Fault, Memory}
use Rattle.cd_replies.specs.declared.message.Message.{Message}
use Rattle.cd_replies.specs.declared.refusal.Refusal.{Refusal}
use Rattle.cd_replies.specs.declared.refusal.RefusalError.{RefusalError}
use Rattle.cd_replies.proofs.FilesEncountered.{has_text, has_text_beside, encountered_same, FaultMet, fault_encountered}
use Rattle.cd_replies.proofs.FilesEncountered as encountered
use Rattle.cd_replies.proofs.Messages.{replies, nothing_said, refusal_replies}
use Rattle.cd_replies.specs.Documents.{RefusesDocument}
use Rattle.cd_replies.specs.Finishing.{Finishes, granted, failed}

-- what is said where no read was made
pub said_at_once : (answers : Disk → Reply → Type 0) (files : FilesState) (document : Bytes) (reply : Reply)
    → (r : Result Message AllocError) → IfOk r (λ message. reply_of message ≡ reply) → ((disk : Disk) → answers disk reply)
    → Finishes answers files files document r
said_at_once answers files document reply r said is =
    granted refl (replies r reply (answers (known_disk files)) said (is (known_disk files)))

pub refused_at_once : (answers : Disk → Reply → Type 0) (files : FilesState) (document origin text : Bytes) (error : RefusalError) (such : Refusal → Type 0)
    → IfRefused error such → (r : Result Message AllocError) → IfOk r (λ message. IsSaidOfText origin text error (reply_of message))
    → ((found : Refusal) → such found → (disk : Disk) → answers disk (refusal origin text found)) → Finishes answers files files document r
refused_at_once answers files document origin text error such is r said leads =
    granted refl (refusal_replies r origin text error such (answers (known_disk files)) said is (λ found stands. leads found stands (known_disk files)))

-- other answers follow
each_ok : (first second : Reply → Type 0) (r : Result Message AllocError) → ((reply : Reply) → first reply → second reply)
    → IfOk r (λ message. first (reply_of message)) → IfOk r (λ message. second (reply_of message))
each_ok first second (Ok message) leads is = leads (reply_of message) is
each_ok first second (Err error) leads is = tt

pub leads_to : (first second : Disk → Reply → Type 0) (old new : FilesState) (document : Bytes) (r : Result Message AllocError)
    → ((disk : Disk) (reply : Reply) → first disk reply → second disk reply) → Finishes first old new document r
    → Finishes second old new document r
leads_to first second old new document r leads (granted same is) =
    granted same (each_ok (first (known_disk old)) (second (known_disk old)) r (leads (known_disk old)) is)
leads_to first second old new document r leads (failed fails said is) =
    failed fails said (each_ok (first (unreadable_disk old document)) (second (unreadable_disk old document)) r (leads (unreadable_disk old document)) is)

-- what is said of a document that has no text, and of one that has
fault_finishes : (answers : Disk → Reply → Type 0) (old new : FilesState) (document : Bytes) (reply : Reply)
    → FaultMet RefusesDocument old new document reply → (r : Result Message AllocError) → IfOk r (λ message. reply_of message ≡ reply)
    → ((disk : Disk) (reply : Reply) → FileRefusal RefusesDocument disk document reply → answers disk reply) → Finishes answers old new document r
fault_finishes answers old new document _ (encountered.failed fails refusal) r said is =
    failed fails said (replies r (cannot_read document) (answers (unreadable_disk old document)) said (is (unreadable_disk old document) (cannot_read document) refusal))
fault_finishes answers old new document _ (encountered.granted same reply refusal) r said is =
    granted same (replies r reply (answers (known_disk old)) said (is (known_disk old) reply refusal))

pub no_document : (answers : Disk → Reply → Type 0) (old new : FilesState) (document : Bytes) (error : FileError)
    → IsFileRead old new document (Err error) → (r : Result Message AllocError) → IfOk r (λ message. IsSaidOfFile document error (reply_of message))
    → ((disk : Disk) (reply : Reply) → FileRefusal RefusesDocument disk document reply → answers disk reply) → Finishes answers old new document r
no_document answers old new document (Fault fault) is r said leads =
    fault_finishes answers old new document (said_of document fault) (fault_encountered RefusesDocument old new document fault is) r said leads
no_document answers old new document Memory is r said leads = granted is (nothing_said r (answers (known_disk old)) said)

-- the whole command, by what was read of its file: what refuses the file is an answer
module _ (refuses : Bytes → Refusal → Type 0) (answers : (file : Bytes) → Disk → Reply → Type 0)
    (file_refused : (file : Bytes) (disk : Disk) (reply : Reply) → FileRefusal refuses disk file reply → answers file disk reply)
    (file document : Bytes) where
  abbrev Answers : Disk → Reply → Type 0
  Answers = answers file

  file_encountered : (old new : FilesState) (reply : Reply) → FaultMet refuses old new file reply
      → (r : Result Message AllocError) → IfOk r (λ message. reply_of message ≡ reply) → IsAnswer Answers old new r
  file_encountered old new _ (encountered.failed fails refusal) r said = (
    unreadable_disk old file,
    unreadable file fails.rose fails.last,
    replies r (cannot_read file) (Answers (unreadable_disk old file)) said (file_refused file (unreadable_disk old file) (cannot_read file) refusal),
  )
  file_encountered old new _ (encountered.granted same reply refusal) r said = (
    known_disk old,
    encountered_same old new same,
    replies r reply (Answers (known_disk old)) said (file_refused file (known_disk old) reply refusal),
  )

  pub no_file : (old new : FilesState) (error : FileError) → IsFileRead old new file (Err error)
      → (r : Result Message AllocError) → IfOk r (λ message. IsSaidOfFile file error (reply_of message)) → IsAnswer Answers old new r
  no_file old new (Fault fault) is r said = file_encountered old new (said_of file fault) (fault_encountered refuses old new file fault is) r said
  no_file old new Memory is r said = (known_disk old, encountered_same old new is, nothing_said r (Answers (known_disk old)) said)

  -- a document that can't be read: where it is the file, so is the file
  document_unread : (old new : FilesState) (types : String Global) → IsFileRead old old file (Ok types) → (same : Bool)
      → bytes_eq document file ≡ same → (r : Result Message AllocError) → IfOk r (λ message. reply_of message ≡ cannot_read document)
      → IfOk r (λ message. HasText (unreadable_disk old document) file (string_bytes types) → Answers (unreadable_disk old document) (reply_of message))
      → IfOk r (λ message. Answers (unreadable_disk old document) (reply_of message))
  document_unread old new types read true is r said on_text =
      let same = (bytes_eq-Decides document file).0 is in
      replies r (cannot_read document) (Answers (unreadable_disk old document)) said
      (subst (λ name. answers name (unreadable_disk old document) (cannot_read document)) same
      (file_refused document (unreadable_disk old document) (cannot_read document) (unread refl)))
  document_unread old new types read false is r said on_text =
      let other = λ (same : document ≡ file). true≢false (sym ((bytes_eq-Decides document file).1 same) ∙ is) in
      each_ok (λ reply. HasText (unreadable_disk old document) file (string_bytes types) → Answers (unreadable_disk old document) reply)
      (Answers (unreadable_disk old document)) r (λ reply on. on (has_text_beside old old file document types other read)) on_text

  whole : (old new : FilesState) (types : String Global) → IsFileRead old old file (Ok types) → (r : Result Message AllocError)
      → Finishes (λ disk reply. HasText disk file (string_bytes types) → Answers disk reply) old new document r → IsAnswer Answers old new r
  whole old new types read r (granted same is) = (
    known_disk old,
    encountered_same old new same,
    each_ok (λ reply. HasText (known_disk old) file (string_bytes types) → Answers (known_disk old) reply) (Answers (known_disk old)) r
        (λ reply on. on (has_text old old file types read)) is,
  )
  whole old new types read r (failed fails said is) = (
    unreadable_disk old document,
    unreadable document fails.rose fails.last,
    document_unread old new types read (bytes_eq document file) refl r said is,
  )

  pub answers_on : (old next new : FilesState) (types : String Global) → IsFileRead old next file (Ok types) → (r : Result Message AllocError)
      → Finishes (λ disk reply. HasText disk file (string_bytes types) → Answers disk reply) next new document r → IsAnswer Answers old new r
  answers_on old next new types read r finishes =
      whole old new types (refl, read.1, read.2, read.3) r
      (subst (λ files. Finishes (λ disk reply. HasText disk file (string_bytes types) → Answers disk reply) files new document r) read.0 finishes)

-- what is known of files stays
pub stays_known : (answers : Disk → Reply → Type 0) (old new : FilesState) (document : Bytes) (r : Result Message AllocError)
    → Finishes answers old new document r → new.known ≡ old.known
stays_known answers old new document r (granted same is) = ap (λ files. files.known) same
stays_known answers old new document r (failed fails said is) = fails.known

-- no read but that of the document failed
pub reads_on : (answers : Disk → Reply → Type 0) (old new : FilesState) (file document : Bytes) (r : Result Message AllocError)
    → Finishes answers old new document r → ReadsAmong old new (file ∷ document ∷ [])
reads_on answers old new file document r (granted same is) = inl same
reads_on answers old new file document r (failed fails said is) = inr (inr (inl fails))
