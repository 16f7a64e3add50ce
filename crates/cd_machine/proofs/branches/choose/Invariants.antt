use Rattle.std.proofs.Common.{map, drop, Option}
use Rattle.cd_program.specs.Expr.{Expr, branches_of}
use Rattle.cd_program.specs.PlainExpr.{plain_branch, plain_branches}
use Rattle.cd_cells.specs.Cells.{thing_at}
use Rattle.cd_cells.specs.Table.{table}
use Rattle.cd_evaluation.specs.Environment.{Env}
use Rattle.cd_evaluation.specs.Picks.{Picks}
use Rattle.cd_machine.specs.Inner.CodeIn.{code_in, IsPatternIn}
use Rattle.cd_machine.specs.Inner.InOrder.{IsAfter}
use Rattle.cd_machine.specs.Inner.Known.{BranchesAreKnown}
use Rattle.cd_machine.proofs.branches.choose.Given as goal

-- what is picked of the branches that are left is picked of all
abbrev pub invariant-loop-branch : goal.invariant-loop-branch
invariant-loop-branch l = record {
  after : IsAfter l.fn.code l.fn.values l.fn.environments l.code l.values l.environments;
  known : BranchesAreKnown (IsPatternIn l.fn.code) (branches_of (map plain_branch (drop l.branch-index l.branch-items)));
  picks : (choice : Option (Expr × Env))
      → Picks (code_in l.fn.code) (branches_of (map plain_branch (drop l.branch-index l.branch-items))) (thing_at (table l.fn.values) l.fn.id.0) choice
      → Picks (code_in l.fn.code) (plain_branches l.fn.branches) (thing_at (table l.fn.values) l.fn.id.0) choice;
}
