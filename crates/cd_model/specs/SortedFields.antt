-- Fields in the order of their labels.
use Rattle.std.specs.Prelude.{List, [], ◌∷◌}
use Rattle.std.specs.Ordering.{nat_cmp}
use Rattle.std.specs.Cmp.Lexicographic.{slice_cmp}
use Rattle.std.specs.declared.cmp.Ordering.{Ordering}
use Rattle.std.specs.declared.cmp.Ordering.TheVariants.{Less, Equal, Greater}
use Rattle.cd_syntax.specs.Name.{Name}

-- a field is inserted before the first one whose label is above its own
abbrev pub by_order : {X : Type 0} → Ordering → (field other : Name × X)
    → (rest later : List (Name × X)) → List (Name × X)
by_order Less field other rest later = field ∷ other ∷ rest
by_order Equal field other rest later = other ∷ later
by_order Greater field other rest later = other ∷ later

abbrev pub inserted : {X : Type 0} → Name × X → List (Name × X) → List (Name × X)
inserted field [] = field ∷ []
inserted field (other ∷ rest) =
    by_order (slice_cmp nat_cmp field.0 other.0) field other rest (inserted field rest)
