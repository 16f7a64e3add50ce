-- Items are put one by one before a value of the table.
use Rattle.std.proofs.Common.{◌≡◌, ◌∙◌, ap, sym, ℕ, ◌<◌, [], length}
use Rattle.cd_cells.specs.declared.values.Values.{Values}
use Rattle.cd_cells.specs.Cells.{thing_at}
use Rattle.cd_cells.specs.Table.{table, IsAt, Grows}
use Rattle.cd_operations.specs.Along.{items_along, turned}

-- these items are left, and those before them are put
pub record IsTurning (old : Values) (done onto : ℕ) (now : Values) (left made : ℕ) : Type 0 where
  pub left_within : left < length (table now)
  pub made_within : made < length (table now)
  pub goes : turned (items_along (thing_at (table now) left)) (thing_at (table now) made)
      ≡ turned (items_along (thing_at (table old) done)) (thing_at (table old) onto)
  pub grows : Grows old now

pub turned_over : (old now : Values) (done onto left made : ℕ) → IsTurning old done onto now left made
    → items_along (thing_at (table now) left) ≡ []
    → IsAt (table now) made (turned (items_along (thing_at (table old) done)) (thing_at (table old) onto))
turned_over old now done onto left made turning none = record {
  within = turning.made_within;
  is = ap (λ items. turned items (thing_at (table now) made)) (sym none) ∙ turning.goes;
}
