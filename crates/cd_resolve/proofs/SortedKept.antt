-- What holds of each field holds of each where they are sorted by their labels.
use Rattle.std.proofs.Common.{List, [], ◌∷◌}
use Rattle.std.specs.Ordering.{nat_cmp}
use Rattle.std.specs.Cmp.Lexicographic.{slice_cmp}
use Rattle.std.specs.declared.cmp.Ordering.{Ordering}
use Rattle.std.specs.declared.cmp.Ordering.TheVariants.{Less, Equal, Greater}
use Rattle.cd_syntax.specs.Name.{Name}
use Rattle.cd_model.specs.AllOf.{AllOf}
use Rattle.cd_model.specs.Formula.{Field}
use Rattle.cd_resolve.specs.Inner.Leaves.{by_order, inserted, sorted_after, sorted}

-- what holds of each of some fields and of one more holds of each where that one stands among them
by_order_keeps : (fact : Name × Field → Type 0) (order : Ordering) (field other : Name × Field)
    (rest later : List (Name × Field))
    → fact field → AllOf fact (other ∷ rest) → AllOf fact later → AllOf fact (by_order order field other rest later)
by_order_keeps fact Less field other rest later one all on = (one, all)
by_order_keeps fact Equal field other rest later one all on = all
by_order_keeps fact Greater field other rest later one all on = (all.0, on)

-- so it does of one field among others, by the order of their labels
inserted_keeps : (fact : Name × Field → Type 0) (field : Name × Field) (fields : List (Name × Field))
    → fact field → AllOf fact fields → AllOf fact (inserted field fields)
inserted_keeps fact field [] one all = (one, tt)
inserted_keeps fact field (other ∷ rest) one all =
    by_order_keeps fact (slice_cmp nat_cmp field.0 other.0) field other rest (inserted field rest) one all
    (inserted_keeps fact field rest one all.1)

-- and of several that are put among others in turn
sorted_after_keeps : (fact : Name × Field → Type 0) (made fields : List (Name × Field))
    → AllOf fact made → AllOf fact fields → AllOf fact (sorted_after made fields)
sorted_after_keeps fact made [] all more = all
sorted_after_keeps fact made (field ∷ rest) all more =
    sorted_after_keeps fact (inserted field made) rest (inserted_keeps fact field made more.0 all) more.1

-- what holds of each field holds of each where they are sorted
pub sorted_keeps : (fact : Name × Field → Type 0) (fields : List (Name × Field))
    → AllOf fact fields → AllOf fact (sorted fields)
sorted_keeps fact fields all = sorted_after_keeps fact [] fields tt all
