-- What the code finds in a text or against it is so.
use Rattle.std.proofs.Common.{List, false, length}
use Rattle.std.specs.Str.{chars}
use Rattle.cd_syntax.specs.declared.fault.TextError.{TextError}
use Rattle.cd_syntax.specs.declared.fault.TextError.TheVariants as text_error
use Rattle.cd_syntax.specs.declared.fault.TextFault.{TextFault}
use Rattle.cd_syntax.specs.declared.tokens.Token.{Token}
use Rattle.cd_syntax.specs.Faults.{IfFault, HasFirstFault}
use Rattle.cd_syntax.specs.SyntaxFaults.{Form}
use Rattle.cd_syntax.specs.TypeTree.{Declarations, NoDeclaration}
use Rattle.cd_resolve.specs.Errors.{IsReportedError}
use Rattle.cd_resolve.specs.Faults.{Fault, IsReported, IsFaultOfDeclarations, twice, built_in, unguarded, in_declared}
use Rattle.cd_resolve.specs.declared.error.NameError.{NameError}
use Rattle.cd_resolve.specs.declared.error.NameError.TheVariants as name_error
use Rattle.cd_parser.specs.Parsed.{IsFault}
use Rattle.cd_parser.specs.Parsed as parsed
use Rattle.cd_replies.specs.Bytes.{Bytes}
use Rattle.cd_replies.specs.Refusals.{IfRefused, of_text, of_names}
use Rattle.cd_replies.specs.Texts.{HasTokens, Declares, Refuses, RefusesDeclarations, lexical, syntax, too_deep, naming}
use Rattle.cd_replies.specs.Naming.{Writes, AreNamedWell, RefusesNames}
use Rattle.cd_replies.specs.Naming as names
use Rattle.cd_replies.specs.declared.refusal.Refusal.{Refusal}
use Rattle.cd_replies.specs.declared.refusal.Refusal.TheVariants.{Text}

-- what stands against a text by its fault
pub text_refused : (error : TextError) (A : TextFault → Type 0) (B : Refusal → Type 0) → ((fault : TextFault) → A fault → B (Text fault)) → IfFault error A
    → IfRefused (of_text error) B
text_refused (text_error.Fault fault) A B leads is = leads fault is
text_refused text_error.Memory A B leads is = tt

module _ (form : Form) (reported : List Token → Fault → Type 0) (text : Bytes) where
  -- the first lexical fault stands against the text
  pub lexical_refused : (error : TextError) → IfFault error (HasFirstFault false 0 (chars text)) → IfRefused (of_text error) (Refuses form reported text)
  lexical_refused error is = text_refused error (HasFirstFault false 0 (chars text)) (Refuses form reported text) (λ fault fails. lexical fault fails) is

  -- and so does the fault of the tokens
  of_fault : (tokens : List Token) → HasTokens text tokens → (fault : TextFault) → IsFault form 1000 tokens (length text) fault → Refuses form reported text (Text fault)
  of_fault tokens spelled _ (parsed.syntax place is) = syntax tokens spelled place is
  of_fault tokens spelled _ (parsed.too_deep place is) = too_deep tokens spelled place is

  pub fault_refused : (tokens : List Token) → HasTokens text tokens → (error : TextError) → IfFault error (IsFault form 1000 tokens (length text))
      → IfRefused (of_text error) (Refuses form reported text)
  fault_refused tokens spelled error is =
      text_refused error (IsFault form 1000 tokens (length text)) (Refuses form reported text) (of_fault tokens spelled) is

  -- and the naming fault that is reported of what they write
  pub names_refused : (tokens : List Token) → HasTokens text tokens → (IsSuch : Fault → Type 0)
      → ((fault : Fault) → IsReported IsSuch fault → reported tokens fault) → (error : NameError) → IsReportedError IsSuch error
      → IfRefused (of_names error) (Refuses form reported text)
  names_refused tokens spelled IsSuch held (name_error.Fault fault name at) is =
      naming tokens spelled (record { fault = fault; name = name; at = at }) (held (record { fault = fault; name = name; at = at }) is)
  names_refused tokens spelled IsSuch held name_error.Memory is = tt

-- the naming fault that is reported of declarations stands against them
pub names_reported : (declared : Declarations) (error : NameError) → IsReportedError (IsFaultOfDeclarations declared) error
    → IfRefused (of_names error) (RefusesNames declared)
names_reported declared (name_error.Fault fault name at) is = names.naming (record { fault = fault; name = name; at = at }) is
names_reported declared name_error.Memory is = tt

-- the text declares them where their names are sound, and else their naming fault stands against it
pub writes_declares : (text : Bytes) (declared : Declarations) → Writes text declared → AreNamedWell declared → Declares text declared
writes_declares text declared writes sound = record {
  tokens = writes.tokens;
  spelled = writes.spelled;
  written = writes.written;
  sound = sound;
}

pub writes_refused : (text : Bytes) (declared : Declarations) → Writes text declared → (found : Refusal) → RefusesNames declared found
    → RefusesDeclarations text found
writes_refused text declared writes _ (names.naming fault reported) =
    naming writes.tokens writes.spelled fault (declared, writes.written, reported)

-- where nothing is declared, no naming fault is reported
pub none_refused : (found : Refusal) → RefusesNames NoDeclaration found → ⊥
none_refused _ (names.naming fault reported) = no_fault fault reported.is
  where
    no_fault : (fault : Fault) → IsFaultOfDeclarations NoDeclaration fault → ⊥
    no_fault _ (twice _ _ _ name at again) = elim again [ ]
    no_fault _ (built_in _ _ _ name at is type declared builtin) = elim declared [ ]
    no_fault _ (unguarded _ _ _ name at is first leads) = elim first [ ]
    no_fault _ (in_declared _ _ _ name at is fault declared is_fault) = elim declared [ ]
