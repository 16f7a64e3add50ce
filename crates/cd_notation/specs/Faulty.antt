-- Why a text is no document.
use Rattle.std.specs.Prelude.{ℕ, List, false}
use Rattle.cd_syntax.specs.declared.fault.TextFault.{TextFault}
use Rattle.cd_syntax.specs.declared.fault.TextFault.TheVariants.{Syntax, TooDeep}
use Rattle.cd_syntax.specs.Faults.{HasFirstFault}
use Rattle.cd_documents.specs.Reading.{IsWrongText, IsTooDeepText}

-- the fault of the text: its first one, where it has no tokens; else the place of the token that no
-- document has there, or that of a bracket that is one too many
pub data IsFaultOf (text : List ℕ) : TextFault → Type 0 where
  lexical : (fault : TextFault) → HasFirstFault false 0 text fault → IsFaultOf text fault
  syntax : (place : ℕ) → IsWrongText text place → IsFaultOf text (Syntax place)
  too_deep : (place : ℕ) → IsTooDeepText text place → IsFaultOf text (TooDeep place)
