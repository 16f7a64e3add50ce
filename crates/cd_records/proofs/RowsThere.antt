-- No rows, and some.
use Rattle.std.proofs.Common.{◌≡◌, ◌<◌, ◌≤◌, List, [], ◌∷◌, map, inl, length, refl, arith}
use Rattle.cd_model.specs.AllOf.{AnyOf}
use Rattle.cd_needs.specs.RecordTypes.{plain_row}
use Rattle.cd_needs.specs.declared.row.Row.{Row as CodeRow}
use Rattle.cd_rules.specs.Rows.{Row}

pub no_rows : (rows : List CodeRow) → length rows < 1 → map plain_row rows ≡ []
no_rows [] none = refl
no_rows (row ∷ rows) none = absurd (omega arith)

pub some_rows : (rows : List CodeRow) → 1 ≤ length rows
    → AnyOf (λ (row : Row). Unit {0}) (map plain_row rows)
some_rows [] some = absurd (omega arith)
some_rows (row ∷ rows) some = inl tt
