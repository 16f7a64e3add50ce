-- The files that a call encounters, and what is said of one that has no text.
use Rattle.std.specs.Prelude.{◌≡◌, ℕ, ◌<◌, ◌≤◌, Option, Some, None, IfSome, length}
use Rattle.std.specs.Str.{IsUtf8}
use Rattle.std.specs.Str.Lossy.{utf8_valid_len}
use Rattle.cd_base.specs.Faults.{Rose}
use Rattle.cd_base.specs.FilesState.{FilesState}
use Rattle.cd_replies.specs.Bytes.{Bytes}
use Rattle.cd_replies.specs.Reply.{Reply, cannot_read, too_large, not_utf8, refusal}
use Rattle.cd_replies.specs.declared.refusal.Refusal.{Refusal}

-- the files that a call encounters: the bytes of each name that are known, and the one name, if
-- there is one, that can't be read
pub record Disk : Type 0 where
  pub known : Bytes → Option Bytes
  pub unreadable : Option Bytes

-- the files as they are known, without an unreadable name and with this one
abbrev pub known_disk : FilesState → Disk
known_disk files = record { known = files.known; unreadable = None }

abbrev pub unreadable_disk : FilesState → Bytes → Disk
unreadable_disk files name = record { known = files.known; unreadable = Some name }

-- the file can be read and has these bytes, as far as it is known
pub record Has (disk : Disk) (name bytes : Bytes) : Type 0 where
  pub read : disk.unreadable ≡ Some name → ⊥
  pub known : IfSome (disk.known name) (λ all. all ≡ bytes)

-- how many bytes a file may have
abbrev pub LARGEST : ℕ
LARGEST = 67108864

-- the file has this text
pub record HasText (disk : Disk) (name text : Bytes) : Type 0 where
  pub has : Has disk name text
  pub size : length text ≤ LARGEST
  pub encoded : IsUtf8 text

-- the files that a call encountered, by what is known of them before and after it
pub data Encountered (before after : FilesState) : Disk → Type 0 where
  -- where the count of faults is as it was, no name is unreadable
  all_read : after.faults ≡ before.faults
      → Encountered before after (known_disk before)
  -- where it rose, the name of the latest read that failed is unreadable
  unreadable : (name : Bytes) → Rose before.faults after.faults → after.last ≡ Some name
      → Encountered before after (unreadable_disk before name)

-- the replies that refuse a file, by what stands against its text
pub data FileRefusal (refuses : Bytes → Refusal → Type 0) (disk : Disk) (name : Bytes) : Reply
    → Type 0 where
  unread : disk.unreadable ≡ Some name → FileRefusal refuses disk name (cannot_read name)
  large : (bytes : Bytes) → Has disk name bytes → LARGEST < length bytes
      → FileRefusal refuses disk name (too_large name)
  -- the byte that is reported is the length of the longest prefix that is UTF-8
  encoding : (bytes : Bytes) → Has disk name bytes → length bytes ≤ LARGEST → (IsUtf8 bytes → ⊥)
      → FileRefusal refuses disk name (not_utf8 name (utf8_valid_len bytes))
  refused : (text : Bytes) → HasText disk name text → (found : Refusal) → refuses text found
      → FileRefusal refuses disk name (refusal name text found)
