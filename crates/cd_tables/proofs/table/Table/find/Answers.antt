use Rattle.std.proofs.Common.{rules, ◌∙◌, sym, ap₂, None}
use Rattle.std.proofs.lemmas.Fn.{always_returns_same}
use Rattle.cd_tables.specs.Rows.{row_of}
use Rattle.cd_tables.proofs.Searching.{against, found, between, rise_against}
use Rattle.cd_tables.proofs.table.Table.find.Goals as goal

-- the search ends at a row
pub returns-in-Ok : goal.returns-in-Ok
returns-in-Ok g c =
    let word = c.as_bytes-word.result.now in
    let rows = c.self.inside.rows.now in
    let row = c.index-rows-place.result in
    let equal = c.in-Ok.ensures.position (against word) (always_returns_same _ _ _ (λ a r f k. search rules)) in
    sym (found word None rows c.self.invariant c.in-Ok.place row c.in-Ok.ensures.bound (equal row))
    ∙ ap₂ row_of c.self.view_is c.as_bytes-word.ensures.value

-- it ends between rows
pub returns-in-Err : goal.returns-in-Err
returns-in-Err g c =
    let word = c.as_bytes-word.result.now in
    let rows = c.self.inside.rows.now in
    let rise = rise_against word None rows c.self.invariant in
    let parted = c.in-Err.ensures.position (against word) (always_returns_same _ _ _ (λ a r f k. search rules)) rise in
    sym (between word rows c.in-Err.field-0 parted) ∙ ap₂ row_of c.self.view_is c.as_bytes-word.ensures.value
