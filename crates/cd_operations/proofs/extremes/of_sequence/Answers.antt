use Rattle.cd_cells.specs.Cells.{thing_at}
use Rattle.cd_cells.specs.Table.{table}
use Rattle.cd_operations.specs.Inner.Extremes.{precedes}
use Rattle.cd_operations.proofs.Seeking.{none_at_all, first_none, first_found}
use Rattle.cd_operations.proofs.extremes.of_sequence.Goals as goal

pub returns-in_default : goal.returns-in_default
returns-in_default c =
    none_at_all (precedes c.args.wanted) (thing_at (table c.args.values.now) c.args.value.0) c.in_default.ensures

pub returns-in_default-number_at : goal.returns-in_default-number_at
returns-in_default-number_at c =
    first_none (table c.args.values.now) c.args.wanted c.args.value c.in-Some.first c.in-Some.rest
    c.in-Some.ensures c.in_default-number_at.ensures

pub returns : goal.returns
returns c =
    first_found (table c.args.values.now) c.args.wanted c.args.value c.in-Some.first c.in-Some.rest
    c.in-Some-number_at.number c.among.result c.in-Some.ensures c.in-Some-number_at.ensures.0
    c.in-Some-number_at.ensures.1 c.among.ensures
