-- Whether an integer, a character or an atom is in a formula and in a question, by a test of the
-- formulas that are no connectives.
use Rattle.std.specs.Prelude.{Bool, true, false, not, ◌&&◌, ◌||◌, ℤ, ℕ, List, [], ◌∷◌}
use Rattle.cd_sets.specs.declared.node_id.NodeId.{NodeId}
use Rattle.cd_sets.specs.declared.question.Question.{Question}
use Rattle.cd_sets.specs.Interval as integers
use Rattle.cd_sets.specs.Characters.{holds_character}
use Rattle.cd_sets.specs.Atoms as atoms
use Rattle.std.specs.Char.{IsScalar}
use Rattle.cd_syntax.specs.Integer.{IsInteger}
use Rattle.cd_syntax.specs.Name.{Name, IsLabel}
use Rattle.cd_model.specs.Formula as formula
use Rattle.cd_model.specs.Formula.{Formula, Formulas, NoFormula, AFormula, Graph, formula_at}
use Rattle.cd_model.specs.Membership.{asked, answers}
use Rattle.cd_model.specs.Thing as thing
use Rattle.cd_rules.specs.Clauses.{Clause, Ints, Chars, Atoms}

abbrev mutual
  pub passes : (Formula → Bool) → Formula → Bool
  passes test formula.Nothing = false
  passes test formula.Everything = true
  passes test (formula.And formulas) = all_pass test formulas
  passes test (formula.Or formulas) = one_passes test formulas
  passes test (formula.Not is) = not (passes test is)
  passes test is = test is

  pub all_pass : (Formula → Bool) → Formulas → Bool
  all_pass test NoFormula = true
  all_pass test (AFormula is rest) = passes test is && all_pass test rest

  pub one_passes : (Formula → Bool) → Formulas → Bool
  one_passes test NoFormula = false
  one_passes test (AFormula is rest) = passes test is || one_passes test rest

-- the tests of an integer, of a character and of an atom
abbrev pub integer_test : ℤ → Formula → Bool
integer_test z (formula.Ints set) = integers.holds set z
integer_test z is = false

abbrev pub character_test : ℕ → Formula → Bool
character_test c (formula.Chars set) = holds_character set c
character_test c is = false

abbrev pub atom_test : Name → Formula → Bool
atom_test name (formula.Atoms set) = atoms.holds set name
atom_test name is = false

-- in each of these nodes, in none of them, and in a question
abbrev pub in_all : (Formula → Bool) → Graph → List NodeId → Bool
in_all test graph [] = true
in_all test graph (id ∷ ids) = passes test (formula_at graph id) && in_all test graph ids

abbrev pub in_none : (Formula → Bool) → Graph → List NodeId → Bool
in_none test graph [] = true
in_none test graph (id ∷ ids) = not (passes test (formula_at graph id)) && in_none test graph ids

abbrev pub question_passes : (Formula → Bool) → Graph → Question → Bool
question_passes test graph question =
    in_all test graph question.pos && in_none test graph question.neg

-- a clause of integers, of characters or of atoms
abbrev pub IsBasic : Clause → Type 0
IsBasic (Ints wanted refused) = Unit {0}
IsBasic (Chars wanted refused) = Unit {0}
IsBasic (Atoms wanted refused) = Unit {0}
IsBasic _ = ⊥

-- no integer, no character and no atom is in the question
abbrev pub HasNoBasic : Graph → Question → Type 0
HasNoBasic graph question =
    ((z : ℤ) → IsInteger z → asked (answers graph (thing.Integer z)) question true → ⊥)
    × ((c : ℕ) → IsScalar c → asked (answers graph (thing.Character c)) question true → ⊥)
    × ((name : Name) → IsLabel name → asked (answers graph (thing.Atom name)) question true → ⊥)
