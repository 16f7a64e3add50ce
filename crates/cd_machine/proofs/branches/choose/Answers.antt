use Rattle.std.proofs.Common.{◌≡◌, ap, ◌+◌, map, drop, subst, sym}
use Rattle.cd_syntax.specs.TypeTree.{Tree}
use Rattle.cd_program.specs.Expr.{Branches, branches_of, ABranch}
use Rattle.cd_program.specs.PlainExpr.{plain_branch, plain_branches}
use Rattle.cd_cells.specs.Cells.{thing_at}
use Rattle.cd_cells.specs.Table.{table}
use Rattle.cd_machine.specs.Inner.CodeIn.{code_in, IsPatternIn}
use Rattle.cd_machine.specs.Inner.Entries.{plain_entry, plain_choice}
use Rattle.cd_machine.specs.Inner.Known.{BranchesAreKnown}
use Rattle.cd_machine.specs.Inner.PlainFrame.{env_at}
use Rattle.cd_machine.proofs.Afterwards.{after_then, same_code, same_patterns}
use Rattle.cd_machine.proofs.BranchesTried.{chosen, passed, next_branch}
use Rattle.cd_cells.proofs.GrownTables.{thing_grown, further}
use Rattle.cd_machine.proofs.branches.choose.Goals as goal
use Rattle.cd_machine.proofs.branches.choose.Goals.{After-branch-item}

-- what is left is the next branch, and those after it
abbrev left : After-branch-item → Branches
left c = branches_of (map plain_branch (drop c.loop-branch.branch-index c.items-branch-items.result.now))

abbrev later : After-branch-item → Branches
later c = branches_of (map plain_branch (drop (c.loop-branch.branch-index + 1) c.items-branch-items.result.now))

begins : (c : After-branch-item) → left c ≡ ABranch (plain_branch c.branch-item.result).pattern (plain_branch c.branch-item.result).body (later c)
begins c = next_branch c.items-branch-items.result.now c.loop-branch.branch-index c.branch-item.result c.branch-item.is c.loop-branch-test.true

known : (c : After-branch-item) → BranchesAreKnown (IsPatternIn c.args.code.now)
    (ABranch (plain_branch c.branch-item.result).pattern (plain_branch c.branch-item.result).body (later c))
known c = subst (BranchesAreKnown (IsPatternIn c.args.code.now)) (begins c) c.loop-branch.invariant.known

pub try_branch-requires-clause-known : goal.try_branch-requires-clause-known
try_branch-requires-clause-known c =
    let these = known (goal.at.try_branch-requires-clause-known c).After-branch-item in
    subst (λ (Fact : Tree → Type 0). Fact (plain_branch c.branch-item.result).pattern)
    (sym (same_patterns c.args.code.now c.loop-branch.code c.loop-branch.invariant.after.program)) these.0

pub loop-branch-preserved : goal.loop-branch-preserved
loop-branch-preserved c =
    let tried = c.in_ok-entry.ensures {u = tt} in
    let before = c.loop-branch.invariant.after in
    let at = (goal.at.loop-branch-preserved c).After-branch-item in
    let one = plain_branch c.branch-item.result in
    let old = c.args.values.now in
    let new = c.try_branch.new.values in record {
      after = after_then c.args.code.now old c.args.environments.now c.loop-branch.code c.loop-branch.values c.loop-branch.environments
          c.try_branch.new.code new c.try_branch.new.environments before tried.after;
      known = (known at).2;
      picks = passed (code_in c.args.code.now) (code_in c.loop-branch.code) (plain_branches c.args.branches.now) (left at) (later at) one.pattern one.body
          (thing_at (table old) c.args.id.0) (thing_at (table c.loop-branch.values) c.args.id.0) (env_at new c.try_branch.new.environments c.args.env)
          (plain_choice new c.try_branch.new.environments c.in_ok-entry.field-0) (same_code c.args.code.now c.loop-branch.code before.program)
          (thing_grown old c.loop-branch.values before.grows c.args.id.0 c.requires.value)
          (ap (plain_choice new c.try_branch.new.environments) c.in_default.is) (begins at) c.loop-branch.invariant.picks tried.lets;
    }

pub returns-in-Some-clause-chooses : goal.returns-in-Some-clause-chooses
returns-in-Some-clause-chooses c =
    let tried = c.in_ok-entry.ensures {u = tt} in
    let before = c.loop-branch.invariant.after in
    let at = (goal.at.returns-in-Some-clause-chooses c).After-branch-item in
    let one = plain_branch c.branch-item.result in
    let old = c.args.values.now in
    let new = c.try_branch.new.values in
    chosen (code_in c.args.code.now) (code_in c.loop-branch.code) (plain_branches c.args.branches.now) (left at) (later at)
    one.pattern one.body (thing_at (table old) c.args.id.0) (thing_at (table c.loop-branch.values) c.args.id.0) (thing_at (table new) c.args.id.0)
    (env_at new c.try_branch.new.environments c.args.env) (plain_entry new c.try_branch.new.environments c.in-Some.entry)
    (plain_choice new c.try_branch.new.environments c.in_ok-entry.field-0) (same_code c.args.code.now c.loop-branch.code before.program)
    (thing_grown old c.loop-branch.values before.grows c.args.id.0 c.requires.value)
    (thing_grown old new (further old c.loop-branch.values new before.grows tried.after.grows) c.args.id.0 c.requires.value)
    (ap (plain_choice new c.try_branch.new.environments) c.in-Some.is)
    (begins at) c.loop-branch.invariant.picks tried.lets

-- memory ran out at a branch
pub returns-in_err-entry-clause-after : goal.returns-in_err-entry-clause-after
returns-in_err-entry-clause-after c = after_then c.args.code.now c.args.values.now c.args.environments.now c.loop-branch.code c.loop-branch.values
    c.loop-branch.environments c.try_branch.new.code c.try_branch.new.values c.try_branch.new.environments c.loop-branch.invariant.after c.try_branch.ensures.after
