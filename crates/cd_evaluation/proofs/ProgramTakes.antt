-- The patterns of a program's code have at most one answer at each thing, and one where their types have right tests.
use Rattle.std.proofs.Common.{◌≡◌, ◌⊎◌, inl, inr, Bool, true, false, Option, None, refl, sym, ap, ◌∙◌}
use Rattle.cd_syntax.specs.Name.{Name}
use Rattle.cd_syntax.specs.TypeTree.{Tree}
use Rattle.cd_model.specs.Interfaces.{Interfaces, admits, value_in_written}
use Rattle.cd_model.specs.Scope.{Scope}
use Rattle.cd_model.specs.Thing.{Thing, IsValue}
use Rattle.cd_model.specs.Written.{Written, written, number_of_names, type_of}
use Rattle.cd_model.proofs.Apart.{value_apart}
use Rattle.cd_model.proofs.ApartAtWritten.{written_keeps}
use Rattle.cd_model.proofs.HoldsOrNot.{HoldsOrNot}
use Rattle.cd_model.proofs.Sorts.{values}
use Rattle.cd_model.proofs.SoundOrNot.{value_or_not}
use Rattle.cd_matching.specs.Captures.{Captures}
use Rattle.cd_matching.specs.Sequences.{nil}
use Rattle.cd_matching.specs.Take.{take}
use Rattle.cd_matching.specs.Takes.{WrittenValueTakes}
use Rattle.cd_matching.specs.WrittenPattern.{pattern_of}
use Rattle.cd_matching.proofs.TakesOnce as matching
use Rattle.cd_program.specs.Expr.{Program}
use Rattle.cd_typing.specs.Typed.{scope_of}
use Rattle.cd_evaluation.specs.Environment.{Env}
use Rattle.cd_evaluation.specs.Code.{TakesOnce, TakesOrFails}
use Rattle.cd_evaluation.specs.ProgramInterfaces.{interfaces_of}
use Rattle.cd_evaluation.specs.ProgramCode.{answer_of, TakesAs, HasTests, code_of}

module _ (interfaces : Interfaces) (scope : Scope) where
  -- no value is both in a written type and outside it
  pub not_both : (v : Thing) (type : Written) → value_in_written interfaces v type true → value_in_written interfaces v type false → ⊥
  not_both v type = value_apart (written (number_of_names type)) (λ read apart. written_keeps read apart (number_of_names type))
      (admits interfaces) v (type_of type)

  pub one_result : (pattern : Tree) (v : Thing) (one other : Option (Captures Name)) → IsValue v
      → WrittenValueTakes interfaces scope pattern v one → WrittenValueTakes interfaces scope pattern v other → one ≡ other
  one_result pattern = matching.takes_once (value_in_written interfaces) values not_both (pattern_of scope pattern)

  one_answer : (pattern : Tree) (v : Thing) (one other : Option Env) → TakesAs interfaces scope pattern v one
      → TakesAs interfaces scope pattern v other → one ≡ other
  one_answer pattern v one other (inl first) (inl second) =
      first.3 ∙ ap (answer_of pattern) (one_result pattern v first.1 second.1 first.0 first.2 second.2) ∙ sym second.3
  one_answer pattern v one other (inl first) (inr second) = absurd (second.0 first.0)
  one_answer pattern v one other (inr first) (inl second) = absurd (first.0 second.0)
  one_answer pattern v one other (inr first) (inr second) = first.1 ∙ sym second.1

  pub has_answer : (pattern : Tree) → HasTests interfaces scope pattern → (v : Thing)
      → (answer : Option Env) × TakesAs interfaces scope pattern v answer
  has_answer pattern tests v = by_sort (value_or_not v)
    where
      by_sort : HoldsOrNot (IsValue v) → (answer : Option Env) × TakesAs interfaces scope pattern v answer
      by_sort (inl is) = let result : Option (Captures Name) = take (Thing → Bool) (λ test. test) tests.0 v in
          (answer_of pattern result, inl (is, result, record { tested = tests.0; right = tests.1; gives = refl }, refl))
      by_sort (inr not) = (None, inr (not, refl))

-- where each value is in a type or outside it, all types have right tests
pub decided_have_tests : (interfaces : Interfaces) (scope : Scope)
    → ((v : Thing) (type : Written) → IsValue v → value_in_written interfaces v type true ⊎ value_in_written interfaces v type false)
    → (pattern : Tree) → HasTests interfaces scope pattern
decided_have_tests interfaces scope decided pattern =
    let found = matching.has_result (value_in_written interfaces) IsValue value_or_not decided (pattern_of scope pattern) nil in
    (found.1.tested, found.1.right)

pub takes_once : (program : Program) → TakesOnce (code_of program)
takes_once program = one_answer (interfaces_of program) (scope_of program)

pub takes_or_fails : (program : Program) → ((pattern : Tree) → HasTests (interfaces_of program) (scope_of program) pattern)
    → TakesOrFails (code_of program)
takes_or_fails program tests pattern v = has_answer (interfaces_of program) (scope_of program) pattern (tests pattern) v
