-- Sequences of sequences, and the items of their items.
use Rattle.std.proofs.Common.{◌≡◌, List, [], ◌∷◌, refl, inl, inr}
use Rattle.cd_model.specs.AllOf.{AllOf, AnyOf}
use Rattle.cd_model.specs.Thing.{Thing, IsElement}
use Rattle.cd_meaning.specs.Sets.{Set, ◌⊆◌}
use Rattle.cd_meaning.specs.Sequences.{IsSequence, IsListOf, IsItemOf}
use Rattle.cd_meaning.proofs.SequencesFollowed.{items_are_elements}

-- a fact of each thing in a list, of which some set is known
each_has : (known holding : Set) (ds : List Thing) → AllOf IsElement ds → AllOf known ds
    → ((e : Thing) → IsElement e → known e → AnyOf (λ one. one ≡ e) ds → holding e)
    → AllOf holding ds
each_has known holding [] elements are has = tt
each_has known holding (d ∷ ds) elements are has = (
  has d elements.0 are.0 (inl refl),
  each_has known holding ds elements.1 are.1 (λ e element is among. has e element is (inr among)),
)

pub list_is_sequence : (set : Set) → IsListOf set ⊆ IsSequence
list_is_sequence set d element (ds, is, each) = (ds, is)

all_in : (set : Set) → ((e : Thing) → set e) → (ds : List Thing) → AllOf set ds
all_in set all [] = tt
all_in set all (d ∷ ds) = (all d, all_in set all ds)

pub sequence_is_list : (set : Set) → ((e : Thing) → set e) → IsSequence ⊆ IsListOf set
sequence_is_list set all d element (ds, is) = (ds, is, all_in set all ds)

-- a sequence is one of what holds the items of a set that it is in
of_items : (set inner : Set) → IsItemOf set ⊆ inner → (d : Thing) → IsElement d → set d
    → IsSequence d → IsListOf inner d
of_items set inner has d element inside (ds, is) =
    let elements = items_are_elements d ds is element in (
      ds,
      is,
      each_has IsElement inner ds elements elements
          (λ e one same among. has e one (d, ds, element, inside, is, among)),
    )

-- sequences of sequences are sequences of lists of what holds the items of their items
pub lists_of_lists : (operand lists inner : Set) → operand ⊆ IsListOf IsSequence
    → IsItemOf operand ⊆ lists → IsItemOf lists ⊆ inner → operand ⊆ IsListOf (IsListOf inner)
lists_of_lists operand lists inner are has_lists has_inner e element inside =
    let found = are e element inside in (
      found.0,
      found.1,
      each_has IsSequence (IsListOf inner) found.0
          (items_are_elements e found.0 found.1 element) found.2
          (λ d one sequence among. of_items lists inner has_inner d one
          (has_lists d one (e, found.0, element, inside, found.1, among)) sequence),
    )
