-- The files that were encountered by a read.
use Rattle.std.proofs.Common.{◌≡◌, Ok, Err, refl, sym, ap, subst}
use Rattle.std.specs.Prelude.{String, string_bytes}
use Rattle.std.specs.Global.{Global}
use Rattle.cd_base.specs.FilesState.{FilesState, FailsToRead}
use Rattle.cd_replies.specs.Bytes.{Bytes}
use Rattle.cd_replies.specs.Reply.{Reply, cannot_read, too_large, not_utf8}
use Rattle.cd_replies.specs.Disk.{Has, HasText, LARGEST, Encountered, all_read, known_disk, unreadable_disk, FileRefusal, unread, large, encoding}
use Rattle.cd_replies.specs.File.{HasBytes, IsFileRead, AreBytesRead, said_of}
use Rattle.cd_replies.specs.declared.file.FileError.{FileError}
use Rattle.cd_replies.specs.declared.file.FileError.TheVariants.{Fault, Memory}
use Rattle.cd_replies.specs.declared.file.FileFault.{FileFault}
use Rattle.cd_replies.specs.declared.file.FileFault.TheVariants.{Unread, TooLarge, NotUtf8}
use Rattle.cd_replies.specs.declared.refusal.Refusal.{Refusal}

-- a file that was read has its bytes
pub has_bytes : (files : FilesState) (name bytes : Bytes) → HasBytes files name bytes → Has (known_disk files) name bytes
has_bytes files name bytes held = record { read = λ unreadable. cc; known = held }

-- where the read was not refused
pub encountered_same : (old new : FilesState) → new ≡ old → Encountered old new (known_disk old)
encountered_same old new same = all_read (ap (λ files. files.faults) same)

-- a file whose text was read has it, also where the read of another one failed
pub has_text : (old new : FilesState) (name : Bytes) (text : String Global) → IsFileRead old new name (Ok text)
    → HasText (known_disk old) name (string_bytes text)
has_text old new name text is = record { has = has_bytes old name (string_bytes text) is.1; size = is.2; encoded = is.3 }

pub has_text_beside : (old new : FilesState) (name other : Bytes) (text : String Global) → (other ≡ name → ⊥) → IsFileRead old new name (Ok text)
    → HasText (unreadable_disk old other) name (string_bytes text)
has_text_beside old new name other text differ is = record {
  has = record { read = λ unreadable. differ cc; known = is.1 };
  size = is.2;
  encoded = is.3;
}

-- a file whose bytes were not read has no text
pub no_bytes : (old new : FilesState) (name : Bytes) (error : FileError) → AreBytesRead LARGEST old new name (Err error) → IsFileRead old new name (Err error)
no_bytes old new name (Fault Unread) is = is
no_bytes old new name (Fault TooLarge) is = is
no_bytes old new name (Fault (NotUtf8 valid)) is = absurd is
no_bytes old new name Memory is = is

-- what is said of a file that has no text, with the files that were encountered
pub data FaultMet (refuses : Bytes → Refusal → Type 0) (old new : FilesState) (name : Bytes) : Reply → Type 0 where
  failed : FailsToRead old new name → FileRefusal refuses (unreadable_disk old name) name (cannot_read name)
      → FaultMet refuses old new name (cannot_read name)
  granted : new ≡ old → (reply : Reply) → FileRefusal refuses (known_disk old) name reply → FaultMet refuses old new name reply

pub fault_encountered : (refuses : Bytes → Refusal → Type 0) (old new : FilesState) (name : Bytes) (fault : FileFault) → IsFileRead old new name (Err (Fault fault))
    → FaultMet refuses old new name (said_of name fault)
fault_encountered refuses old new name Unread is = failed is (unread refl)
fault_encountered refuses old new name TooLarge is =
    granted is.0 (too_large name) (large is.1 (has_bytes old name is.1 is.2) is.3)
fault_encountered refuses old new name (NotUtf8 valid) is =
    granted is.0 (not_utf8 name valid)
    (subst (λ valid. FileRefusal refuses (known_disk old) name (not_utf8 name valid)) (sym is.5) (encoding is.1 (has_bytes old name is.1 is.2) is.3 is.4))
