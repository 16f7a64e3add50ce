-- What computed runs say of the texts of programs.
use Rattle.std.proofs.Common.{◌≡◌, ap, refl, ℕ, zero, suc, List, [], ◌∷◌, Option, Some, Bool, true, map, drop, length, arith}
use Rattle.std.specs.Prelude.{◌<◌, nat_lt}
use Rattle.cd_syntax.specs.declared.tokens.Token.{Token}
use Rattle.cd_syntax.specs.SyntaxFaults.{IsWrong, IsUnfinished}
use Rattle.cd_program.specs.Expr.{Program}
use Rattle.cd_lr.specs.Automaton.{Next, TooDeep, Wrong}
use Rattle.cd_grammar.specs.declared.goal.Goal.TheVariants as goal
use Rattle.cd_grammar.specs.Parts.{Part, AProgram}
use Rattle.cd_grammar.specs.Language.{Entry, To, Read, Placed, IsProgram}
use Rattle.cd_grammar.specs.Forms as forms
use Rattle.cd_grammar.specs.ProgramExamples.{ProgramExample, IsProgramExample, AreProgramExamples, WrongText, AreWrong, AreUnfinished}
use Rattle.cd_grammar.proofs.SameForms.{same_wrong, same_unfinished}
use Rattle.cd_grammar.proofs.ProgramForm.{declared_part, declared_form, declared_within, program_within}
use Rattle.cd_grammar.proofs.Runs.{steps, ending, made, stop, written, not_written, wrong_at, begun_only}

-- what the run of a text makes at its depth, and how one ends at a smaller depth
abbrev below : (depth : ℕ) → List Token → Next Entry Placed
below zero tokens = TooDeep
below (suc depth) tokens = ending goal.ProgramText depth steps tokens

abbrev pub result : ProgramExample → Option Part × Next Entry Placed
result one = (made (ending goal.ProgramText one.depth steps one.tokens), below one.depth one.tokens)

abbrev pub expected : ProgramExample → Option Part × Next Entry Placed
expected one = (Some (AProgram one.types one.functions), TooDeep)

is_least : (depth : ℕ) (tokens : List Token) → below depth tokens ≡ TooDeep → (less : ℕ) (other : Program)
    → less < depth → IsProgram less tokens other → ⊥
is_least zero tokens ends less other small is = absurd (omega (arith, small))
is_least (suc depth) tokens ends less other small (types, same, is) =
    not_written goal.ProgramText depth tokens ends less (AProgram types other.functions) (omega (arith, small)) is

is_example : (one : ProgramExample) → result one ≡ expected one → IsProgramExample one
is_example one same = (
  λ end. (
    one.types,
    refl,
    written goal.ProgramText one.depth steps one.tokens (AProgram one.types one.functions) (ap (λ both. both.0) same),
  ),
  is_least one.depth one.tokens (ap (λ both. both.1) same),
)

-- what is computed of each text is what is expected of it
parts : {X : Type 0} (x y : X) (xs ys : List X) → x ∷ xs ≡ y ∷ ys → (x ≡ y) × (xs ≡ ys)
parts x y xs ys same = (cc, cc)

pub are_examples : (all : List ProgramExample) → map result all ≡ map expected all → AreProgramExamples all
are_examples [] same = tt
are_examples (one ∷ rest) same =
    let both = parts (result one) (expected one) (map result rest) (map expected rest) same in
    (is_example one both.0, are_examples rest both.1)

-- where the run of a text stops, whether a token stands there, and what is expected of them
abbrev Stop : Type 0
Stop = Bool × (List Entry × Next Entry Placed)

abbrev stopped : WrongText → Stop
stopped one = (nat_lt one.index (length one.tokens), stop goal.ProgramText 1000 one.tokens)

abbrev refusing : WrongText → Stop
refusing one = (true, (drop (suc one.index) (To goal.ProgramText ∷ map Read one.tokens), Wrong))

is_wrong : (one : WrongText) → stopped one ≡ refusing one → IsWrong forms.AProgram 1000 one.tokens one.index
is_wrong one same =
    same_wrong declared_form forms.AProgram declared_within program_within 1000 one.tokens one.index
    (wrong_at goal.ProgramText 1000 one.tokens declared_part one.index (ap (λ both. both.0) same)
    (ap (λ both. both.1) same))

pub are_wrong : (all : List WrongText) → map stopped all ≡ map refusing all → AreWrong all
are_wrong [] same = tt
are_wrong (one ∷ rest) same =
    let both = parts (stopped one) (refusing one) (map stopped rest) (map refusing rest) same in
    (is_wrong one both.0, are_wrong rest both.1)

-- the same at the end of a text
abbrev stops : List Token → List Entry × Next Entry Placed
stops tokens = stop goal.ProgramText 1000 tokens

abbrev ends : List Token → List Entry × Next Entry Placed
ends tokens = (drop (suc (length tokens)) (To goal.ProgramText ∷ map Read tokens), Wrong)

is_unfinished : (tokens : List Token) → stops tokens ≡ ends tokens → IsUnfinished forms.AProgram 1000 tokens
is_unfinished tokens same =
    same_unfinished declared_form forms.AProgram declared_within program_within 1000 tokens
    (begun_only goal.ProgramText 1000 tokens declared_part same)

pub are_unfinished : (all : List (List Token)) → map stops all ≡ map ends all → AreUnfinished all
are_unfinished [] same = tt
are_unfinished (one ∷ rest) same =
    let both = parts (stops one) (ends one) (map stops rest) (map ends rest) same in
    (is_unfinished one both.0, are_unfinished rest both.1)
