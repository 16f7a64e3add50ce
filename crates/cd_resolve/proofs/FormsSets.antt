-- Between bounds that fall there is no integer and no character, and the formula of nothing means so.
use Rattle.std.proofs.Common.{◌≡◌, ◌↔◌, ℕ, ℤ, Bool, false, sym, arith}
use Rattle.std.specs.Prelude.{int_le, nat_le}
use Rattle.std.proofs.lemmas.Int.{ints}
use Rattle.std.proofs.lemmas.Bool.Decides.{nat_tests}
use Rattle.cd_sets.specs.Characters.{is_among}
use Rattle.cd_sets.specs.Interval.{is_between}
use Rattle.cd_model.specs.Formula.{Graph, Nothing, nodes}
use Rattle.cd_model.specs.Interfaces.{admits}
use Rattle.cd_model.specs.Thing as thing
use Rattle.cd_model.specs.Thing.{Thing}
use Rattle.cd_model.specs.Types.{Integers, Characters, Presentation, Mapping, reader, no_closure, closure_maps}
use Rattle.cd_model.proofs.BothWays.{itself}
use Rattle.cd_model.proofs.Resolved.{MeansIn}

pub none_between : (low high n : ℤ) → int_le low high ≡ false → is_between low high n ≡ false
none_between low high n fails = grind (arith, ints)

pub none_among : (low high c : ℕ) → nat_le low high ≡ false → is_among low high c ≡ false
none_among low high c fails = grind (arith, nat_tests)

module _ {X : Type 0} (at : Presentation X) (closed : ℕ → Mapping X) where
  of_no_integer : (is : Thing) (answer : Bool) → (answer ≡ false) ↔ reader at closed is (Integers (λ n. false)) answer
  of_no_integer (thing.Integer n) answer = (sym, sym)
  of_no_integer _ answer = itself

  of_no_character : (is : Thing) (answer : Bool)
      → (answer ≡ false) ↔ reader at closed is (Characters (λ c. false)) answer
  of_no_character (thing.Character c) answer = (sym, sym)
  of_no_character _ answer = itself

pub means_no_integer : (graph : Graph) → MeansIn graph Nothing (Integers (λ n. false))
means_no_integer graph = record {
  elements = of_no_integer (nodes graph) no_closure;
  values = λ interfaces. of_no_integer (nodes graph) (closure_maps (nodes graph) (admits interfaces));
}

pub means_no_character : (graph : Graph) → MeansIn graph Nothing (Characters (λ c. false))
means_no_character graph = record {
  elements = of_no_character (nodes graph) no_closure;
  values = λ interfaces. of_no_character (nodes graph) (closure_maps (nodes graph) (admits interfaces));
}
