-- Cases that are not some of their kinds.
use Rattle.std.proofs.Common.{◌≡◌, List, [], refl}
use Rattle.cd_sets.specs.declared.node_id.NodeId.{NodeId}
use Rattle.cd_syntax.specs.Name.{Name}
use Rattle.cd_cells.specs.declared.cell.Look.{Look}
use Rattle.cd_cells.specs.declared.cell.Look.TheVariants as look
use Rattle.cd_asking.specs.Inner.Asked.{fields_by, HasParts}
use Rattle.cd_asking.specs.declared.case.Case.{Case}
use Rattle.cd_asking.specs.declared.case.Case.TheVariants as case
use Rattle.cd_asking.specs.declared.row.Answered.{Answered}
use Rattle.cd_asking.specs.declared.row.RowId.{RowId}
use Rattle.cd_cells.specs.declared.cell.Part.{Part}
use Rattle.cd_cells.specs.declared.cell.ValueId.{ValueId}
use Rattle.std.specs.Borrow.{Bor}

pub no_fields : (names : List Name) (sets : List (List NodeId)) (rows : List (List Answered)) (is : Case)
    → ((row : RowId) → is ≡ case.Record row → ⊥) → fields_by names sets rows is ≡ []
no_fields names sets rows (case.Letter c) other = refl
no_fields names sets rows (case.Atom name) other = refl
no_fields names sets rows (case.Pair first second) other = refl
no_fields names sets rows (case.Xml tag attributes content) other = refl
no_fields names sets rows (case.Record row) other = absurd (other row refl)

pub no_parts : (is : Look) → ((first second : ValueId) → is ≡ look.Pair first second → ⊥)
    → ((tag attributes content : ValueId) → is ≡ look.Xml tag attributes content → ⊥)
    → ((parts : Bor (List Part)) → is ≡ look.Record parts → ⊥) → HasParts is → ⊥
no_parts (look.Int n) pair xml record_is has = has
no_parts (look.Char c) pair xml record_is has = has
no_parts (look.Atom name) pair xml record_is has = has
no_parts (look.Pair first second) pair xml record_is has = pair first second refl
no_parts (look.Xml tag attributes content) pair xml record_is has = xml tag attributes content refl
no_parts (look.Record parts) pair xml record_is has = record_is parts refl
no_parts (look.Closure function parts) pair xml record_is has = has
