-- Sequences whose items are all in a set that holds each item of such sequences.
use Rattle.std.proofs.Common.{◌≡◌, refl, inl, inr, List, [], ◌∷◌}
use Rattle.cd_model.specs.AllOf.{AllOf, AnyOf}
use Rattle.cd_model.specs.Thing.{Thing}
use Rattle.cd_meaning.specs.Sets.{Set, ◌⊆◌}
use Rattle.cd_meaning.specs.Sequences.{IsSequence, IsListOf, IsItemOf}
use Rattle.cd_model.specs.Thing.{IsElement}
use Rattle.cd_meaning.proofs.SequencesFollowed.{items_are_elements}

each_is : (Is : Thing → Type 0) (elements : Thing → Type 0) (ds : List Thing) → AllOf elements ds
    → ((d : Thing) → elements d → AnyOf (λ one. one ≡ d) ds → Is d) → AllOf Is ds
each_is Is elements [] are each = tt
each_is Is elements (d ∷ ds) are each = (each d are.0 (inl refl), each_is Is elements ds are.1 (λ other is among. each other is (inr among)))

pub lists_of_items : (set item : Set) → set ⊆ IsSequence → IsItemOf set ⊆ item → set ⊆ IsListOf item
lists_of_items set item sequences items_in e element inside = let list = sequences e element inside in (
  list.0,
  list.1,
  each_is item IsElement list.0 (items_are_elements e list.0 list.1 element)
      (λ d is among. items_in d is (e, list.0, element, inside, list.1, among)),
)
