use Rattle.std.proofs.Common.{◌≡◌, ◌-◌, ◌<◌, ◌++◌, ◌∷◌, [], List, suc, ◌∙◌, subst, arith}
use Rattle.std.specs.Prelude.{MatchOption}
use Rattle.cd_asking.specs.Inner.Rows.{row_at}
use Rattle.cd_asking.specs.declared.row.Answered.{Answered}
use Rattle.cd_asking.proofs.RowsAdded.{parts_of}
use Rattle.cd_asking.proofs.field_rows.FieldRows.parts.Goals as goal

pub returns : goal.returns
returns c =
    let some = c.if-row-eq0.false in
    let number : c.args.row.0 ≡ suc (c.args.row.0 - 1) = omega (arith, some) in
    subst (λ (rows : List (List Answered)). MatchOption c.copied.result (row_at rows c.args.row ≡ [])
    (λ is. (row_at rows c.args.row ≡ row_at rows is.row ++ is.field ∷ []) × (is.row.0 < c.args.row.0))) c.self.view_is
    (parts_of c.self.inside.rows.keys c.args.row (c.args.row.0 - 1) c.copied.result number c.self.invariant (c.copied.ensures ∙ c.get_index.ensures.key))
