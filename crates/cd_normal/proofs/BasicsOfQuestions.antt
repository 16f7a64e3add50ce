-- What sets that are exactly those of a question say of the question.
use Rattle.std.proofs.Common.{◌≡◌, ℤ, ℕ, true, sym, ◌∙◌, true≢false}
use Rattle.std.specs.Char.{IsScalar}
use Rattle.cd_sets.specs.declared.question.Question.{Question}
use Rattle.cd_sets.specs.Interval as integers
use Rattle.cd_sets.specs.Characters.{holds_character}
use Rattle.cd_sets.specs.Atoms as atoms
use Rattle.cd_syntax.specs.Integer.{IsInteger}
use Rattle.cd_syntax.specs.Name.{Name}
use Rattle.cd_model.specs.Formula.{Graph}
use Rattle.cd_model.specs.Membership.{asked, answers}
use Rattle.cd_model.specs.Thing as thing
use Rattle.cd_rules.specs.BasicSets.{question_passes, HasNoBasic}
use Rattle.cd_rules.proofs.BasicSetsExact.{integers_exact, characters_exact, atoms_exact}
use Rattle.cd_normal.specs.declared.basic_sets.Basics.{Basics}
use Rattle.cd_normal.specs.HoldNothing.{HoldNothing}
use Rattle.cd_normal.specs.Inner.ExactSets.{AreExact}

module _ (graph : Graph) (question : Question) (sets : Basics) (exact : AreExact (λ test. question_passes test graph question) sets) where
  -- what they hold is in the question
  pub integer_in : (z : ℤ) → IsInteger z → integers.holds sets.integers z ≡ true
      → asked (answers graph (thing.Integer z)) question true
  integer_in z is held = (integers_exact graph question z).1 (sym (exact.0 z is) ∙ held)

  pub character_in : (c : ℕ) → IsScalar c → holds_character sets.characters c ≡ true
      → asked (answers graph (thing.Character c)) question true
  character_in c is held = (characters_exact graph question c).1 (sym (exact.1 c is) ∙ held)

  pub atom_in : (name : Name) → atoms.IsAtom name → atoms.holds sets.atoms name ≡ true
      → asked (answers graph (thing.Atom name)) question true
  atom_in name is held = (atoms_exact graph question name).1 (sym (exact.2 name is) ∙ held)

  -- and where they hold nothing there is no integer, character or atom in it
  pub nothing_in : HoldNothing sets → HasNoBasic graph question
  nothing_in nothing = (
    λ z is asking. true≢false (sym ((integers_exact graph question z).0 asking) ∙ sym (exact.0 z is) ∙ nothing.0 z),
    λ c is asking. true≢false (sym ((characters_exact graph question c).0 asking) ∙ sym (exact.1 c is) ∙ nothing.1 c is),
    λ name is asking. true≢false (sym ((atoms_exact graph question name).0 asking) ∙ sym (exact.2 name is) ∙ nothing.2 name is),
  )
