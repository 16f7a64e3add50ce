-- Labels in rising order, each of them once.
use Rattle.std.specs.Prelude.{List, [], ◌∷◌, map, Option, Some}
use Rattle.std.specs.Cmp.Lexicographic.{slice_cmp}
use Rattle.std.specs.Ordering.{nat_cmp}
use Rattle.std.specs.declared.cmp.Ordering.{Ordering}
use Rattle.std.specs.declared.cmp.Ordering.TheVariants.{Less, Equal, Greater}
use Rattle.cd_syntax.specs.Name.{Name, IsLabel, IsAbove}
use Rattle.cd_rules.specs.Rows.{Cell, Row}

-- they rise strictly
abbrev pub AreRising : Option Name → List Name → Type 0
AreRising before [] = Unit {0}
AreRising before (label ∷ labels) = IsLabel label × IsAbove before label
    × AreRising (Some label) labels

-- a label among others, by its order to the first of them
abbrev pub by_order : Ordering → (label first : Name) → (rest later : List Name) → List Name
by_order Less label first rest later = label ∷ first ∷ rest
by_order Equal label first rest later = first ∷ rest
by_order Greater label first rest later = first ∷ later

abbrev pub inserted : Name → List Name → List Name
inserted label [] = label ∷ []
inserted label (first ∷ rest) =
    by_order (slice_cmp nat_cmp label first) label first rest (inserted label rest)

abbrev pub all_inserted : (new known : List Name) → List Name
all_inserted [] known = known
all_inserted (label ∷ new) known = all_inserted new (inserted label known)

-- the labels of cells, and those of rows among others
abbrev pub labels_in : List (Name × Cell) → List Name
labels_in cells = map (λ cell. cell.0) cells

abbrev pub row_labels : (rows : List Row) → (known : List Name) → List Name
row_labels [] known = known
row_labels (row ∷ rows) known = row_labels rows (all_inserted (labels_in row.cells) known)
