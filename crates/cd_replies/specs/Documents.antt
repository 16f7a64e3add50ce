-- What the text of a document says, and what stands against it.
use Rattle.std.specs.Prelude.{ℕ, true, false}
use Rattle.std.specs.Str.{chars}
use Rattle.cd_syntax.specs.declared.fault.TextFault.{TextFault}
use Rattle.cd_syntax.specs.declared.fault.TextFault.TheVariants.{Syntax, TooDeep}
use Rattle.cd_syntax.specs.Faults.{HasFirstFault}
use Rattle.cd_model.specs.Interfaces.{Interfaces, value_in_written}
use Rattle.cd_model.specs.Thing.{Thing}
use Rattle.cd_model.specs.Written.{Written}
use Rattle.cd_documents.specs.Reading.{WritesValue, IsWrongText, IsTooDeepText}
use Rattle.cd_replies.specs.Bytes.{Bytes}
use Rattle.cd_replies.specs.Disk.{Disk, HasText}
use Rattle.cd_replies.specs.declared.refusal.Refusal.{Refusal}
use Rattle.cd_replies.specs.declared.refusal.Refusal.TheVariants.{Text}

-- what stands against the text of a document: its first lexical fault, the place of its fault of
-- syntax, or that of a bracket that is one too many
pub data RefusesDocument (text : Bytes) : Refusal → Type 0 where
  lexical : (fault : TextFault) → HasFirstFault false 0 (chars text) fault
      → RefusesDocument text (Text fault)
  syntax : (place : ℕ) → IsWrongText (chars text) place
      → RefusesDocument text (Text (Syntax place))
  too_deep : (place : ℕ) → IsTooDeepText (chars text) place
      → RefusesDocument text (Text (TooDeep place))

-- the document of this name has a text, which stands for the value
pub record FileWrites (disk : Disk) (document : Bytes) (v : Thing) : Type 0 where
  pub text : Bytes
  pub has : HasText disk document text
  pub writes : WritesValue (chars text) v

-- the value is in the type, and outside it, whatever the interfaces of functions are
abbrev pub IsValueIn : Thing → Written → Type 0
IsValueIn v type = (interfaces : Interfaces) → value_in_written interfaces v type true

abbrev pub IsValueOutside : Thing → Written → Type 0
IsValueOutside v type = (interfaces : Interfaces) → value_in_written interfaces v type false
