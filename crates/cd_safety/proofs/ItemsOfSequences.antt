-- The items of sequences that stand one after the other.
use Rattle.std.proofs.Common.{◌≡◌, ◌∙◌, List, [], ◌∷◌, ◌++◌, Some, refl, sym, ap}
use Rattle.cd_model.specs.AllOf.{AllOf}
use Rattle.cd_model.specs.Thing.{Thing, Pair}
use Rattle.cd_matching.specs.Sequences.{sequence_of, items}
use Rattle.cd_model.proofs.Ones.{each_of_lists}
use Rattle.cd_meaning.specs.Sets.{Set}
use Rattle.cd_meaning.specs.Sequences.{followed_by, IsListOf}
use Rattle.cd_meaning.proofs.SequencesFollowed.{sequence_of_items}
use Rattle.cd_evaluation.specs.Lists.{before, both_items, all_items}

pub followed_by_items : (ds : List Thing) (e : Thing) (es : List Thing) → items e ≡ Some es → sequence_of (ds ++ es) ≡ followed_by ds e
followed_by_items [] e es found = sym (sequence_of_items e es found)
followed_by_items (d ∷ ds) e es found = ap (Pair d) (followed_by_items ds e es found)

-- a list of sequences of a set has all their items
pub all_items_in : (set : Set) (all : List Thing) → AllOf (IsListOf set) all
    → (made : List Thing) × (all_items all ≡ Some made) × AllOf set made
all_items_in set [] are = ([], refl, tt)
all_items_in set (v ∷ rest) are =
    let own = are.0 in
    let others = all_items_in set rest are.1 in (
      own.0 ++ others.0,
      ap (λ first. both_items first (all_items rest)) own.1 ∙ ap (both_items (Some own.0)) others.1,
      each_of_lists set own.0 others.0 own.2 others.2,
    )

-- what was done before what was done before others
pub before_both : (all done others : List Thing) → before (before all done) others ≡ before done (all ++ others)
before_both [] done others = refl
before_both (v ∷ all) done others = before_both all (v ∷ done) others
