use Rattle.std.proofs.lemmas.Result.{IfOk-weaker}
use Rattle.cd_cells.specs.Cells.{thing_at}
use Rattle.cd_cells.specs.Table.{table}
use Rattle.cd_model.proofs.Closures.{none_in_data}
use Rattle.cd_running.proofs.input.is_in_node.Goals as goal

-- a document holds no closure
pub returns : goal.returns
returns c = IfOk-weaker c.is_in.result _ _
    (λ answer is interfaces. is interfaces (none_in_data _ (thing_at (table c.args.values.now) c.args.value.0) c.requires.document.plain)) c.is_in.ensures
