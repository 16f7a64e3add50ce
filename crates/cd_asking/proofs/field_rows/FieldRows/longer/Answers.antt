use Rattle.std.proofs.Common.{◌≡◌, ◌≤◌, List, [], ◌∷◌, ◌++◌, length, sym, subst}
use Rattle.std.proofs.lemmas.Result.{IfOk-weaker}
use Rattle.cd_asking.specs.Inner.Asked.{AddsOnly}
use Rattle.cd_asking.specs.Inner.Rows.{row_at, rows_from, AreLonger}
use Rattle.cd_asking.specs.declared.row.Answered.{Answered}
use Rattle.cd_asking.specs.declared.row.Longer.{Longer}
use Rattle.cd_asking.proofs.RowsAdded.{keys_added, still_longer, rows_added, row_added, number_within}
use Rattle.cd_asking.proofs.SameKeys.{same_longer, same_longers}
use Rattle.cd_asking.proofs.field_rows.FieldRows.longer.Goals as goal
use Rattle.cd_asking.proofs.field_rows.FieldRows.longer.Goals.{After-insert_full}

abbrev made : After-insert_full → Longer
made c = record { row = c.args.row; field = c.args.field }

adds : (c : After-insert_full) → AddsOnly (made c) c.self.inside.rows.keys c.insert_full.new.self.keys
adds c = keys_added same_longer same_longers c.self.inside.rows.keys (made c) c.insert_full.result c.insert_full.new.self.keys
    c.insert_full.ensures.keys c.insert_full.ensures.err

low : (c : After-insert_full) → c.args.row.0 ≤ length (rows_from [] c.self.inside.rows.keys)
low c = subst (λ (rows : List (List Answered)). c.args.row.0 ≤ length rows) (sym c.self.view_is) c.requires

are : (c : After-insert_full) → AreLonger 0 c.insert_full.new.self.keys
are c = still_longer same_longer same_longers c.self.inside.rows.keys (made c) c.insert_full.new.self.keys (adds c) c.self.invariant (low c)

pub invariant_of-self : goal.invariant_of-self
invariant_of-self c = are (goal.at.invariant_of-self c).After-insert_full

pub invariant_of-self-2 : goal.invariant_of-self-2
invariant_of-self-2 c = are (goal.at.invariant_of-self-2 c).After-insert_full

pub returns-clause-found : goal.returns-clause-found
returns-clause-found c =
    let at = (goal.at.returns-clause-found c).After-insert_full in
    IfOk-weaker c.number_at.result _ _ (λ row number. subst (λ (rows : List (List Answered)). row_at (rows_from [] c.insert_full.new.self.keys) row
    ≡ row_at rows c.args.row ++ c.args.field ∷ []) c.self.view_is
    (row_added same_longer same_longers c.self.inside.rows.keys (made at) c.insert_full.new.self.keys (adds at) (are at) (low at) row c.in_ok-place.place number
    c.in_ok-place.ensures.stored)) c.number_at.ensures

pub returns-clause-adds : goal.returns-clause-adds
returns-clause-adds c =
    let at = (goal.at.returns-clause-adds c).After-insert_full in
    subst (λ (rows : List (List Answered)). AddsOnly (row_at rows c.args.row ++ c.args.field ∷ []) rows (rows_from [] c.insert_full.new.self.keys)) c.self.view_is
    (rows_added same_longer same_longers c.self.inside.rows.keys (made at) c.insert_full.new.self.keys (adds at))

pub returns-clause-within : goal.returns-clause-within
returns-clause-within c = IfOk-weaker c.number_at.result _ _ (λ row number. number_within c.insert_full.new.self.keys row c.in_ok-place.place
    c.in_ok-place.ensures.stored.0 number c.in_ok-place.ensures.stored.1) c.number_at.ensures
