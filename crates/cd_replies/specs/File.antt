-- What reading a file as a text gives, and what it leaves.
use Rattle.std.specs.Prelude.{◌≡◌, ◌⊎◌, ℕ, ◌<◌, ◌≤◌, List, Result, Ok, Err, String, Vec, IfSome}
use Rattle.std.specs.Prelude.{length, string_bytes}
use Rattle.std.specs.Global.{Global}
use Rattle.std.specs.Str.{IsUtf8}
use Rattle.std.specs.Str.Lossy.{utf8_valid_len}
use Rattle.cd_base.specs.FilesState.{FilesState, FailsToRead}
use Rattle.cd_model.specs.AllOf.{AnyOf}
use Rattle.cd_replies.specs.Bytes.{Bytes}
use Rattle.cd_replies.specs.Reply.{Reply, cannot_read, too_large, not_utf8}
use Rattle.cd_replies.specs.Disk.{LARGEST}
use Rattle.cd_replies.specs.declared.file.FileError.{FileError}
use Rattle.cd_replies.specs.declared.file.FileError.TheVariants.{Fault, Memory}
use Rattle.cd_replies.specs.declared.file.FileFault.{FileFault}
use Rattle.cd_replies.specs.declared.file.FileFault.TheVariants.{Unread, TooLarge, NotUtf8}

-- the file has these bytes, as far as it is known
abbrev pub HasBytes : FilesState → (name bytes : Bytes) → Type 0
HasBytes files name bytes = IfSome (files.known name) (λ all. all ≡ bytes)

abbrev pub IsFileRead : (old new : FilesState) → (name : Bytes)
    → Result (String Global) FileError → Type 0
IsFileRead old new name (Ok text) = (new ≡ old) × HasBytes old name (string_bytes text)
    × (length (string_bytes text) ≤ LARGEST) × IsUtf8 (string_bytes text)
IsFileRead old new name (Err (Fault Unread)) = FailsToRead old new name
IsFileRead old new name (Err (Fault TooLarge)) = (new ≡ old) × (bytes : Bytes)
    × HasBytes old name bytes
    × (LARGEST < length bytes)
IsFileRead old new name (Err (Fault (NotUtf8 valid))) =
    (new ≡ old) × (bytes : Bytes) × HasBytes old name bytes × (length bytes ≤ LARGEST)
    × (IsUtf8 bytes → ⊥) × (valid ≡ utf8_valid_len bytes)
IsFileRead old new name (Err Memory) = new ≡ old

-- what reading the bytes of a file gives, and what it leaves, where a file may have so many
abbrev pub AreBytesRead : (most : ℕ) → (old new : FilesState) → (name : Bytes)
    → Result (Vec ℕ Global) FileError → Type 0
AreBytesRead most old new name (Ok bytes) = (new ≡ old) × HasBytes old name bytes.items
    × (length bytes.items ≤ most)
AreBytesRead most old new name (Err (Fault Unread)) = FailsToRead old new name
AreBytesRead most old new name (Err (Fault TooLarge)) = (new ≡ old) × (bytes : Bytes)
    × HasBytes old name bytes × (most < length bytes)
AreBytesRead most old new name (Err (Fault (NotUtf8 valid))) = ⊥
AreBytesRead most old new name (Err Memory) = new ≡ old

-- what is said of a file that has no text
abbrev pub said_of : Bytes → FileFault → Reply
said_of name Unread = cannot_read name
said_of name TooLarge = too_large name
said_of name (NotUtf8 valid) = not_utf8 name valid

-- what is said of a file whose text was not read; of want of memory nothing is
abbrev pub IsSaidOfFile : (name : Bytes) → FileError → Reply → Type 0
IsSaidOfFile name (Fault fault) reply = reply ≡ said_of name fault
IsSaidOfFile name Memory reply = ⊥

-- the file of this name was read, or a fault was counted at it
abbrev pub ReadsThere : (old new : FilesState) → (name : Bytes) → Type 0
ReadsThere old new name = (new ≡ old) ⊎ FailsToRead old new name

-- files of these names were read, or a fault was counted at one of them
abbrev pub ReadsAmong : (old new : FilesState) → (names : List Bytes) → Type 0
ReadsAmong old new names = (new ≡ old) ⊎ AnyOf (FailsToRead old new) names
