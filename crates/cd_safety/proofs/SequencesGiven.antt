-- What is given for elements that are sequences.
use Rattle.std.proofs.Common.{◌≡◌, ◌∙◌, List, Some, ◌++◌, sym, ap, subst}
use Rattle.cd_model.specs.AllOf.{AllOf}
use Rattle.cd_model.specs.Thing.{Thing, IsElement}
use Rattle.cd_matching.specs.Sequences.{sequence_of, items}
use Rattle.cd_meaning.specs.Sets.{Set, ◌⊆◌}
use Rattle.cd_meaning.specs.Sequences.{IsSequence, IsListOf, IsJoinOf}
use Rattle.cd_evaluation.specs.Lists.{both_items, all_items, listed}
use Rattle.cd_evaluation.specs.Operations.{flattened}
use Rattle.cd_safety.specs.Gives.{Gives}
use Rattle.cd_meaning.proofs.SequencesFollowed.{items_of_sequence}
use Rattle.cd_safety.proofs.ItemsOfSequences.{followed_by_items, all_items_in}

pub joined_given : (first second : Set) → first ⊆ IsSequence → second ⊆ IsSequence → (d e : Thing) → IsElement d → IsElement e
    → first d → second e → Gives (IsJoinOf first second) (listed (both_items (items d) (items e)))
joined_given first second one other d e d_is e_is d_in e_in =
    let ds = one d d_is d_in in
    let es = other e e_is e_in in
    let all : both_items (items d) (items e) ≡ Some (ds.0 ++ es.0) =
    ap (λ found. both_items found (items e)) ds.1 ∙ ap (both_items (Some ds.0)) es.1 in
    subst (λ found. Gives (IsJoinOf first second) (listed found)) (sym all)
    (d, e, ds.0, d_is, e_is, d_in, e_in, ds.1, followed_by_items ds.0 e es.0 es.1)

-- a sequence of things of a set
pub sequence_listed : (set : Set) (all : List Thing) → AllOf set all → IsListOf set (sequence_of all)
sequence_listed set all are = (all, items_of_sequence all, are)

-- all items of sequences of a set
pub all_joined_given : (set : Set) (all : List Thing) → AllOf (IsListOf set) all → Gives (IsListOf set) (listed (all_items all))
all_joined_given set all are =
    let made = all_items_in set all are in
    subst (λ found. Gives (IsListOf set) (listed found)) (sym made.1) (sequence_listed set made.0 made.2)

pub flattened_given : (set : Set) (d : Thing) → IsListOf (IsListOf set) d → Gives (IsListOf set) (flattened (items d))
flattened_given set d is = subst (λ found. Gives (IsListOf set) (flattened found)) (sym is.1) (all_joined_given set is.0 is.2)
