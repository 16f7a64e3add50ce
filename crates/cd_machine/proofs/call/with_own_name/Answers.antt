use Rattle.std.proofs.Common.{arith, length, ap, ◌∙◌, sym, subst}
use Rattle.cd_syntax.specs.Name.{IsLabel}
use Rattle.cd_program.specs.WellMade.{IsWellMadeName}
use Rattle.cd_cells.specs.Cells.{name_at, IsPart}
use Rattle.cd_cells.specs.Table.{table, names}
use Rattle.cd_machine.specs.Inner.InOrder.{IsAfter}
use Rattle.cd_machine.proofs.Afterwards.{after_then, after_values, after_environments}
use Rattle.cd_cells.proofs.GrownTables.{within_grown}
use Rattle.cd_machine.proofs.call.with_own_name.Goals as goal
use Rattle.cd_machine.proofs.call.with_own_name.Goals.{In_ok-label-in-Some}

-- the name of a function is a label
named : (c : In_ok-label-in-Some) → IsAfter c.args.code.now c.args.values.now c.args.environments.now c.args.code.now c.label.new.self c.args.environments.now
named c = after_values c.args.code.now c.args.values.now c.label.new.self c.args.environments.now c.requires.order c.label.ensures.grows

pub returns-in_ok-of-in-Some-clause-after : goal.returns-in_ok-of-in-Some-clause-after
returns-in_ok-of-in-Some-clause-after c =
    let label = c.in_ok-label-in-Some.ensures {u = tt} in
    let part = c.in_ok-of-in-Some.ensures {u = tt} in
    let old = c.args.values.now in
    let new = c.label.new.self in
    let environments = c.args.environments.now in
    let one = named (goal.at.returns-in_ok-of-in-Some-clause-after c).In_ok-label-in-Some in
    let is : IsPart (names new) (length (table new)) c.in_ok-of-in-Some.field-0 = (
      subst IsLabel (sym (ap (name_at (names new)) part.label ∙ label.named ∙ c.as_str.ensures)) (subst IsWellMadeName c.in-Some.is c.requires.known),
      omega (arith, part.value, within_grown old new label.grows c.args.function.0 c.requires.function),
    ) in
    after_then c.args.code.now old environments c.args.code.now new environments c.args.code.now new c.add.new.self one
    (after_environments c.args.code.now new environments c.add.new.self one.in_order c.add.ensures.grows (c.add.ensures.each new one.in_order.parts (is, tt)))

-- what was added of it stays where memory runs out
pub returns-in_err-label-in-Some-clause-after : goal.returns-in_err-label-in-Some-clause-after
returns-in_err-label-in-Some-clause-after c =
    after_values c.args.code.now c.args.values.now c.label.new.self c.args.environments.now c.requires.order c.label.ensures.grows

pub returns-in_err-of-in-Some-clause-after : goal.returns-in_err-of-in-Some-clause-after
returns-in_err-of-in-Some-clause-after c = named (goal.at.returns-in_err-of-in-Some-clause-after c).In_ok-label-in-Some
