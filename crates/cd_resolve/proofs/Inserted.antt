-- Where a field stands among others.
use Rattle.std.proofs.Common.{◌≡◌, ap, List, ◌∷◌}
use Rattle.std.specs.Ordering.{nat_cmp}
use Rattle.std.specs.Cmp.Lexicographic.{slice_cmp}
use Rattle.std.specs.declared.cmp.Ordering.TheVariants.{Less, Equal}
use Rattle.cd_syntax.specs.Name.{Name}
use Rattle.cd_model.specs.Formula.{Field}
use Rattle.cd_resolve.specs.Inner.Leaves.{by_order, inserted}

-- it stands before a field whose label is above its own, and not where its label stands
pub stands_before : (field other : Name × Field) (rest : List (Name × Field)) → slice_cmp nat_cmp field.0 other.0 ≡ Less
    → inserted field (other ∷ rest) ≡ field ∷ other ∷ rest
stands_before field other rest less = ap (λ order. by_order order field other rest (inserted field rest)) less

pub stands_there : (field other : Name × Field) (rest : List (Name × Field)) → slice_cmp nat_cmp field.0 other.0 ≡ Equal
    → inserted field (other ∷ rest) ≡ other ∷ rest
stands_there field other rest equal = ap (λ order. by_order order field other rest (inserted field rest)) equal
