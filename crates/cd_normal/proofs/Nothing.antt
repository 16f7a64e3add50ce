-- Sets with nothing in them hold what passes a test and any other too, and joined with others they are the others.
use Rattle.std.proofs.Common.{◌≡◌, Bool, true, false, ◌&&◌, ◌||◌, refl, ap, sym, ◌∙◌}
use Rattle.cd_rules.specs.BasicSets.{integer_test, character_test, atom_test}
use Rattle.cd_normal.specs.declared.basic_sets.Basics.{Basics}
use Rattle.cd_normal.specs.HoldNothing.{HoldNothing}
use Rattle.cd_normal.specs.Inner.ExactSets.{AreExact, Passing}

pub nothing_left : (sets : Basics) → HoldNothing sets → (passing other : Passing) → AreExact passing sets
    → AreExact (λ test. passing test && other test) sets
nothing_left sets nothing passing other exact = (
  λ z is. nothing.0 z ∙ sym (ap (λ one. one && other (integer_test z)) (sym (exact.0 z is) ∙ nothing.0 z)),
  λ c is. nothing.1 c is ∙ sym (ap (λ one. one && other (character_test c)) (sym (exact.1 c is) ∙ nothing.1 c is)),
  λ name is. nothing.2 name is ∙ sym (ap (λ one. one && other (atom_test name)) (sym (exact.2 name is) ∙ nothing.2 name is)),
)

pub or_false : (one : Bool) → one ≡ (one || false)
or_false true = refl
or_false false = refl

module _ (sets others : Basics) (one two : Passing) where
  pub nothing_first : HoldNothing sets → AreExact one sets → AreExact two others → AreExact (λ test. one test || two test) others
  nothing_first nothing here there = (
    λ z is. there.0 z is ∙ ap (λ first. first || two (integer_test z)) (sym (nothing.0 z) ∙ here.0 z is),
    λ c is. there.1 c is ∙ ap (λ first. first || two (character_test c)) (sym (nothing.1 c is) ∙ here.1 c is),
    λ name is. there.2 name is ∙ ap (λ first. first || two (atom_test name)) (sym (nothing.2 name is) ∙ here.2 name is),
  )

  pub nothing_second : HoldNothing others → AreExact one sets → AreExact two others → AreExact (λ test. one test || two test) sets
  nothing_second nothing here there = (
    λ z is. here.0 z is ∙ or_false (one (integer_test z)) ∙ ap (λ second. one (integer_test z) || second) (sym (nothing.0 z) ∙ there.0 z is),
    λ c is. here.1 c is ∙ or_false (one (character_test c)) ∙ ap (λ second. one (character_test c) || second) (sym (nothing.1 c is) ∙ there.1 c is),
    λ name is. here.2 name is ∙ or_false (one (atom_test name)) ∙ ap (λ second. one (atom_test name) || second) (sym (nothing.2 name is) ∙ there.2 name is),
  )
