use Rattle.std.proofs.lemmas.Result.{IfOk-weaker}
use Rattle.cd_cells.specs.Cells.{thing_at}
use Rattle.cd_cells.specs.Table.{table}
use Rattle.cd_model.proofs.Closures.{none_in_data}
use Rattle.cd_member.proofs.document.holds.Goals as goal

-- there is no closure, of which the table would be right
pub returns : goal.returns
returns c =
    let v = thing_at (table c.args.values.now) c.args.id.0 in
    IfOk-weaker c.is_in.result _ _ (λ answer is interfaces.
    is interfaces (none_in_data _ v c.requires.data)) c.is_in.ensures
