-- At most one thing stands against a text, but for the name that is reported of a naming fault, and none against a text that reads.
use Rattle.std.proofs.Common.{◌≡◌, ℕ, List, length, refl, sym, ap, subst, ◌∙◌}
use Rattle.std.specs.Str.{chars}
use Rattle.cd_syntax.specs.declared.fault.TextFault.TheVariants.{Syntax, TooDeep}
use Rattle.cd_syntax.specs.declared.tokens.Token.{Token}
use Rattle.cd_syntax.specs.TypeTree.{Declarations}
use Rattle.cd_program.specs.Expr.{Program, FunctionTree}
use Rattle.cd_syntax.specs.SyntaxFaults.{Form, IsForm, IsSyntaxFault, IsDepthFault}
use Rattle.cd_grammar.specs.Language.{IsTree, AreDeclared, IsProgram}
use Rattle.cd_grammar.specs.Forms.{AType, SomeDeclarations, AProgram}
use Rattle.cd_grammar.proofs.FormsOfTexts.{type_form, declarations_form, program_form}
use Rattle.cd_grammar.proofs.OneReading.{one_tree, one_declared, one_program}
use Rattle.cd_model.specs.Written.{Written}
use Rattle.cd_resolve.specs.Faults.{Fault, IsFaultOfType, IsFaultOfDeclarations}
use Rattle.cd_names.specs.ProgramFaults.{IsFaultOfProgram}
use Rattle.cd_lex.proofs.ReadingIsOne.{one_list, one_fault, not_both as spelled_or_not}
use Rattle.cd_replies.specs.Bytes.{Bytes}
use Rattle.cd_replies.specs.Reply.{refusal}
use Rattle.cd_replies.specs.Refusals.{naming_of}
use Rattle.cd_replies.specs.Texts.{HasTokens, Refuses, lexical, syntax, too_deep, naming}
use Rattle.cd_replies.specs.declared.refusal.Refusal.{Refusal}
use Rattle.cd_replies.specs.declared.refusal.Refusal.TheVariants.{Text}
use Rattle.cd_replies.specs.Texts.{ReadsAs, Declares, RefusesType, RefusesDeclarations, IsReportedOfType, IsReportedOfDeclarations, type_of}
use Rattle.cd_replies.specs.Texts.{ReadsAsProgram, RefusesProgram, IsReportedOfProgram}
use Rattle.cd_replies.proofs.OneFault.{syntax_one, depth_one, not_both, written_no_syntax, written_no_depth}

-- the same thing stands against a text, or a naming fault in each case
data IsAlike : (a b : Refusal) → Type 0 where
  same : (a b : Refusal) → a ≡ b → IsAlike a b
  both_naming : (a b : Fault) → IsAlike (naming_of a) (naming_of b)

one_status : (origin text : Bytes) (a b : Refusal) → IsAlike a b → (refusal origin text a).status ≡ (refusal origin text b).status
one_status origin text a b (same _ _ is) = ap (λ found. (refusal origin text found).status) is
one_status origin text _ _ (both_naming a b) = refl

module _ (form : Form) (law : IsForm form) (reported : List Token → Fault → Type 0)
    (writes : (tokens : List Token) (fault : Fault) → reported tokens fault → form.Writes 1000 tokens) (text : Bytes) where
  -- the text lexes to the same tokens
  same_tokens : (first second : List Token) → HasTokens text first → HasTokens text second → second ≡ first
  same_tokens first second spelled other = one_list (chars text) second first other spelled

  one_refusal : (a b : Refusal) → Refuses form reported text a → Refuses form reported text b → IsAlike a b
  one_refusal _ _ (lexical a_f a_fails) (lexical b_f b_fails) =
      same _ _ (ap Text (one_fault (chars text) a_f b_f a_fails b_fails))
  one_refusal _ _ (lexical a_f a_fails) (syntax b_ts b_spelled b_p b_fault) =
      absurd (spelled_or_not (chars text) b_ts a_f b_spelled a_fails)
  one_refusal _ _ (lexical a_f a_fails) (too_deep b_ts b_spelled b_p b_fault) =
      absurd (spelled_or_not (chars text) b_ts a_f b_spelled a_fails)
  one_refusal _ _ (lexical a_f a_fails) (naming b_ts b_spelled b_fault b_reported) =
      absurd (spelled_or_not (chars text) b_ts a_f b_spelled a_fails)
  one_refusal _ _ (syntax a_ts a_spelled a_p a_fault) (lexical b_f b_fails) =
      absurd (spelled_or_not (chars text) a_ts b_f a_spelled b_fails)
  one_refusal _ _ (syntax a_ts a_spelled a_p a_fault) (syntax b_ts b_spelled b_p b_fault) =
      same _ _ (ap (λ place. Text (Syntax place)) (syntax_one form law 1000 a_ts (length text) a_p b_p a_fault
      (subst (λ ts. IsSyntaxFault form 1000 ts (length text) b_p) (same_tokens a_ts b_ts a_spelled b_spelled) b_fault)))
  one_refusal _ _ (syntax a_ts a_spelled a_p a_fault) (too_deep b_ts b_spelled b_p b_fault) =
      absurd (not_both form law 1000 a_ts (length text) a_p b_p a_fault
      (subst (λ ts. IsDepthFault form 1000 ts (length text) b_p) (same_tokens a_ts b_ts a_spelled b_spelled) b_fault))
  one_refusal _ _ (syntax a_ts a_spelled a_p a_fault) (naming b_ts b_spelled b_fault b_reported) =
      absurd (written_no_syntax form law 1000 a_ts (length text) a_p
      (subst (form.Writes 1000) (same_tokens a_ts b_ts a_spelled b_spelled) (writes b_ts b_fault b_reported)) a_fault)
  one_refusal _ _ (too_deep a_ts a_spelled a_p a_fault) (lexical b_f b_fails) =
      absurd (spelled_or_not (chars text) a_ts b_f a_spelled b_fails)
  one_refusal _ _ (too_deep a_ts a_spelled a_p a_fault) (syntax b_ts b_spelled b_p b_fault) =
      absurd (not_both form law 1000 a_ts (length text) b_p a_p
      (subst (λ ts. IsSyntaxFault form 1000 ts (length text) b_p) (same_tokens a_ts b_ts a_spelled b_spelled) b_fault) a_fault)
  one_refusal _ _ (too_deep a_ts a_spelled a_p a_fault) (too_deep b_ts b_spelled b_p b_fault) =
      same _ _ (ap (λ place. Text (TooDeep place)) (depth_one form law 1000 a_ts (length text) a_p b_p a_fault
      (subst (λ ts. IsDepthFault form 1000 ts (length text) b_p) (same_tokens a_ts b_ts a_spelled b_spelled) b_fault)))
  one_refusal _ _ (too_deep a_ts a_spelled a_p a_fault) (naming b_ts b_spelled b_fault b_reported) =
      absurd (written_no_depth form law 1000 a_ts (length text) a_p
      (subst (form.Writes 1000) (same_tokens a_ts b_ts a_spelled b_spelled) (writes b_ts b_fault b_reported)) a_fault)
  one_refusal _ _ (naming a_ts a_spelled a_fault a_reported) (lexical b_f b_fails) =
      absurd (spelled_or_not (chars text) a_ts b_f a_spelled b_fails)
  one_refusal _ _ (naming a_ts a_spelled a_fault a_reported) (syntax b_ts b_spelled b_p b_fault) =
      absurd (written_no_syntax form law 1000 a_ts (length text) b_p (writes a_ts a_fault a_reported)
      (subst (λ ts. IsSyntaxFault form 1000 ts (length text) b_p) (same_tokens a_ts b_ts a_spelled b_spelled) b_fault))
  one_refusal _ _ (naming a_ts a_spelled a_fault a_reported) (too_deep b_ts b_spelled b_p b_fault) =
      absurd (written_no_depth form law 1000 a_ts (length text) b_p (writes a_ts a_fault a_reported)
      (subst (λ ts. IsDepthFault form 1000 ts (length text) b_p) (same_tokens a_ts b_ts a_spelled b_spelled) b_fault))
  one_refusal _ _ (naming a_ts a_spelled a_fault a_reported) (naming b_ts b_spelled b_fault b_reported) =
      both_naming a_fault b_fault

  -- nothing stands against tokens that are of the form, where no naming fault is reported of what they write
  stands_not : (tokens : List Token) → HasTokens text tokens → form.Writes 1000 tokens → ((fault : Fault) → reported tokens fault → ⊥)
      → (found : Refusal) → Refuses form reported text found → ⊥
  stands_not tokens spelled written sound _ (lexical f fails) = spelled_or_not (chars text) tokens f spelled fails
  stands_not tokens spelled written sound _ (syntax ts other p fault) =
      written_no_syntax form law 1000 tokens (length text) p written
      (subst (λ ts. IsSyntaxFault form 1000 ts (length text) p) (same_tokens tokens ts spelled other) fault)
  stands_not tokens spelled written sound _ (too_deep ts other p fault) =
      written_no_depth form law 1000 tokens (length text) p written
      (subst (λ ts. IsDepthFault form 1000 ts (length text) p) (same_tokens tokens ts spelled other) fault)
  stands_not tokens spelled written sound _ (naming ts other fault is) =
      sound fault (subst (λ ts. reported ts fault) (same_tokens tokens ts spelled other) is)

writes_type : (declared : Declarations) (tokens : List Token) (fault : Fault) → IsReportedOfType declared tokens fault → AType.Writes 1000 tokens
writes_type declared tokens fault is = (is.0, is.1)

writes_declarations : (tokens : List Token) (fault : Fault) → IsReportedOfDeclarations tokens fault → SomeDeclarations.Writes 1000 tokens
writes_declarations tokens fault is = (is.0, is.1)

writes_program : (end : ℕ) (tokens : List Token) (fault : Fault) → IsReportedOfProgram end tokens fault → AProgram.Writes 1000 tokens
writes_program end tokens fault is = (is.0, is.1)

-- tokens write one program, whose text ends there
abbrev program_of : Declarations → List FunctionTree → ℕ → Program
program_of types functions end = record { types = types; functions = functions; end = end }

same_program : (tokens : List Token) (first second : Program) → IsProgram 1000 tokens first → IsProgram 1000 tokens second
    → first.end ≡ second.end → first ≡ second
same_program tokens first second one other ends =
    let same = one_program 1000 1000 tokens first second one other in
    ap (λ types. program_of types first.functions first.end) same.0
    ∙ ap (λ functions. program_of second.types functions first.end) same.1
    ∙ ap (program_of second.types second.functions) ends

-- a text reads as one program
pub reads_one_program : (text : Bytes) (first second : Program) → ReadsAsProgram text first → ReadsAsProgram text second → first ≡ second
reads_one_program text first second one other =
    let same = one_list (chars text) other.tokens one.tokens other.spelled one.spelled in
    same_program one.tokens first second one.written (subst (λ ts. IsProgram 1000 ts second) same other.written) (one.ends ∙ sym other.ends)

-- what is said of what stands against a text has one status
pub one_type_refusal : (declared : Declarations) (origin text : Bytes) (a b : Refusal) → RefusesType declared text a → RefusesType declared text b
    → (refusal origin text a).status ≡ (refusal origin text b).status
one_type_refusal declared origin text a b first second = one_status origin text a b
    (one_refusal AType type_form (IsReportedOfType declared) (writes_type declared) text a b first second)

pub one_declarations_refusal : (origin text : Bytes) (a b : Refusal) → RefusesDeclarations text a → RefusesDeclarations text b
    → (refusal origin text a).status ≡ (refusal origin text b).status
one_declarations_refusal origin text a b first second = one_status origin text a b
    (one_refusal SomeDeclarations declarations_form IsReportedOfDeclarations writes_declarations text a b first second)

pub one_program_refusal : (origin text : Bytes) (a b : Refusal) → RefusesProgram text a → RefusesProgram text b
    → (refusal origin text a).status ≡ (refusal origin text b).status
one_program_refusal origin text a b first second = one_status origin text a b
    (one_refusal AProgram program_form (IsReportedOfProgram (length text)) (writes_program (length text)) text a b first second)

-- a text that reads as a type is not refused, nor is one that reads as declarations, nor one that reads as a
-- program
pub reads_unrefused : (declared : Declarations) (text : Bytes) (is : Written) → ReadsAs declared text is
    → (found : Refusal) → RefusesType declared text found → ⊥
reads_unrefused declared text is reads found refuses =
    stands_not AType type_form (IsReportedOfType declared) (writes_type declared) text reads.tokens reads.spelled (reads.tree, reads.written)
    (λ fault reported.
    let same = one_tree 1000 1000 reads.tokens reported.0 reads.tree reported.1 reads.written in
    reads.sound fault (subst (λ tree. IsFaultOfType declared tree fault) same reported.2.is))
    found refuses

pub declares_unrefused : (text : Bytes) (declared : Declarations) → Declares text declared
    → (found : Refusal) → RefusesDeclarations text found → ⊥
declares_unrefused text declared declares found refuses =
    stands_not SomeDeclarations declarations_form IsReportedOfDeclarations writes_declarations text declares.tokens declares.spelled (declared, declares.written)
    (λ fault reported.
    let same = one_declared 1000 1000 declares.tokens reported.0 declared reported.1 declares.written in
    declares.sound fault (subst (λ list. IsFaultOfDeclarations list fault) same reported.2.is))
    found refuses

pub program_unrefused : (text : Bytes) (program : Program) → ReadsAsProgram text program
    → (found : Refusal) → RefusesProgram text found → ⊥
program_unrefused text program reads found refuses =
    stands_not AProgram program_form (IsReportedOfProgram (length text)) (writes_program (length text)) text reads.tokens reads.spelled
    (program, reads.written)
    (λ fault reported.
    let same = same_program reads.tokens reported.0 program reported.1 reads.written (reported.2 ∙ sym reads.ends) in
    reads.sound fault (subst (λ is. IsFaultOfProgram is fault) same reported.3.is))
    found refuses

-- a text reads as one type at most, and as one list of declarations
pub reads_one : (declared : Declarations) (text : Bytes) (first second : Written) → ReadsAs declared text first → ReadsAs declared text second
    → first ≡ second
reads_one declared text first second one other =
    let same_tokens = one_list (chars text) other.tokens one.tokens other.spelled one.spelled in
    let same_tree = one_tree 1000 1000 one.tokens one.tree other.tree one.written
    (subst (λ ts. IsTree 1000 ts other.tree) same_tokens other.written) in
    one.means ∙ ap (type_of declared) same_tree ∙ sym other.means

pub declares_one : (text : Bytes) (first second : Declarations) → Declares text first → Declares text second → first ≡ second
declares_one text first second one other =
    let same_tokens = one_list (chars text) other.tokens one.tokens other.spelled one.spelled in
    one_declared 1000 1000 one.tokens first second one.written
    (subst (λ ts. AreDeclared 1000 ts second) same_tokens other.written)
