-- Items by rising label, which are looked up in the order of their labels.
use Rattle.std.specs.Prelude.{Bool, List, [], ◌∷◌, Option, Some, None, bytes_eq, if◌then◌else◌}
use Rattle.std.specs.Ordering.{nat_cmp, is_lt}
use Rattle.std.specs.Cmp.Lexicographic.{slice_cmp}
use Rattle.cd_syntax.specs.Name.{Name}

-- a name comes before a label, by their characters
abbrev pub is_below : Name → Name → Bool
is_below name label = is_lt (slice_cmp nat_cmp name label)

module _ {X : Type 0} where
  -- what is at a label
  abbrev pub item_at : List (Name × X) → Name → Option X
  item_at [] label = None
  item_at (item ∷ items) label = if bytes_eq item.0 label then Some item.1 else item_at items label

  -- the items from a label on
  abbrev pub from : Name → List (Name × X) → List (Name × X)
  from label [] = []
  from label (item ∷ items) = if is_below item.0 label then from label items else item ∷ items

  -- what the first item has, if it has this label
  abbrev pub first_at : List (Name × X) → Name → Option X
  first_at [] label = None
  first_at (item ∷ items) label = if bytes_eq item.0 label then Some item.1 else None
