use Rattle.std.proofs.Common.{Some, None, [], arith}
use Rattle.cd_cells.proofs.FieldsFound.{found_within}
use Rattle.cd_operations.proofs.FieldsSelected.{selects}
use Rattle.cd_operations.proofs.records.select.Goals as goal

pub returns-in-Some-clause-is : goal.returns-in-Some-clause-is
returns-in-Some-clause-is c = rw c.id.ensures (selects _ _ _ _ _ (Some c.in-Some.part) c.in-Record.ensures.thing c.in-Some.ensures)

pub returns-in-Some-clause-within : goal.returns-in-Some-clause-within
returns-in-Some-clause-within c =
    let below = found_within _ [] _ _ _ _ c.in-Record.ensures.below c.in-Some.ensures in
    omega (arith, below, c.id.ensures, c.requires)

pub returns-in-None-clause-is : goal.returns-in-None-clause-is
returns-in-None-clause-is c = selects _ _ _ _ _ None c.in-Record.ensures.thing c.in-None.ensures
