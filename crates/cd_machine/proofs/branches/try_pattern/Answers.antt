use Rattle.std.proofs.Common.{◌++◌, List, ap, ◌∙◌, sym, subst}
use Rattle.cd_syntax.specs.PlainTree.{plain as plain_tree}
use Rattle.cd_model.specs.AllOf.{AllOf}
use Rattle.cd_cells.specs.Cells.{thing_at}
use Rattle.cd_cells.specs.Table.{table}
use Rattle.cd_cells.specs.declared.cell.Part.{Part}
use Rattle.cd_code.specs.Compiled.{captured_of, ArePartsOf}
use Rattle.cd_machine.specs.Inner.CodeIn.{code_in}
use Rattle.cd_machine.specs.Inner.InOrder.{IsAfter}
use Rattle.cd_machine.specs.Inner.Nodes.{parts_at, Longer}
use Rattle.cd_machine.proofs.Afterwards.{after_then, after_code, after_environments}
use Rattle.cd_machine.proofs.BranchesTried.{takes_some}
use Rattle.cd_machine.proofs.branches.try_pattern.Goals as goal
use Rattle.cd_machine.proofs.branches.try_pattern.Goals.{In_ok-take}

-- the pattern was tried
pub returns-in_err-take-clause-after : goal.returns-in_err-take-clause-after
returns-in_err-take-clause-after c = after_code c.args.code.now c.take.new.self c.args.values.now c.take.new.values c.args.environments.now c.requires.order
    c.take.ensures.grows c.take.ensures.program c.take.ensures.ready

tried : (c : In_ok-take) → IsAfter c.args.code.now c.args.values.now c.args.environments.now c.take.new.self c.take.new.values c.args.environments.now
tried c = after_code c.args.code.now c.take.new.self c.args.values.now c.take.new.values c.args.environments.now c.requires.order
    c.take.ensures.grows c.take.ensures.program c.take.ensures.ready

pub returns-then-not-branch-clause-after : goal.returns-then-not-branch-clause-after
returns-then-not-branch-clause-after c = tried (goal.at.returns-then-not-branch-clause-after c).In_ok-take

-- what it captures was added
added : (c : In_ok-take) (longer : List (List Part)) → Longer c.args.environments.now longer → AllOf (ArePartsOf c.take.new.values) longer
    → IsAfter c.args.code.now c.args.values.now c.args.environments.now c.take.new.self c.take.new.values longer
added c longer more each =
    let one = tried c in
    after_then c.args.code.now c.args.values.now c.args.environments.now c.take.new.self c.take.new.values c.args.environments.now c.take.new.self c.take.new.values
    longer one (after_environments c.take.new.self c.take.new.values c.args.environments.now longer one.in_order more each)

pub returns-clause-takes : goal.returns-clause-takes
unfolding code_in
returns-clause-takes c =
    let taken = c.in_ok-take.ensures {u = tt} in
    let added = c.in_ok-add_all.ensures {u = tt} in
    takes_some (code_in c.args.code.now) c.take.new.values c.args.environments.now c.add_all.new.self (plain_tree c.args.pattern.now)
    (thing_at (table c.args.values.now) c.args.id.0) c.args.env c.in_ok-add_all.field-0 (captured_of c.take.new.self) c.in_ok-take.field-0 c.if-not-branch.false
    taken.taken added.grows c.requires.env (added.is ∙ ap (λ (parts : List Part). parts ++ parts_at c.args.environments.now c.args.env.0) c.captured.ensures)

pub returns-clause-after : goal.returns-clause-after
returns-clause-after c =
    let at = (goal.at.returns-clause-after c).In_ok-take in
    let parts = subst (ArePartsOf c.take.new.values) (sym c.captured.ensures) (c.in_ok-take.ensures {u = tt}).parts in
    added at c.add_all.new.self c.add_all.ensures.grows (c.add_all.ensures.each c.take.new.values (tried at).in_order.parts parts)

pub returns-in_err-add_all-clause-after : goal.returns-in_err-add_all-clause-after
returns-in_err-add_all-clause-after c =
    let at = (goal.at.returns-in_err-add_all-clause-after c).In_ok-take in
    let parts = subst (ArePartsOf c.take.new.values) (sym c.captured.ensures) (c.in_ok-take.ensures {u = tt}).parts in
    added at c.add_all.new.self c.add_all.ensures.grows (c.add_all.ensures.each c.take.new.values (tried at).in_order.parts parts)
