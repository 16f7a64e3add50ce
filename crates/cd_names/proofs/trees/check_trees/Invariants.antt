use Rattle.std.proofs.Common.{take}
use Rattle.cd_resolve.specs.Named.{declared_by}
use Rattle.cd_names.specs.Inner.Faults.{IsFaultOfOne, Reports}
use Rattle.cd_names.specs.Inner.PlainFound.{plain_trees}
use Rattle.cd_names.proofs.trees.check_trees.Given as goal

-- what is reported of the trees so far
abbrev pub invariant-loop-tree : goal.invariant-loop-tree
invariant-loop-tree l =
    Reports (IsFaultOfOne (declared_by l.names) (plain_trees (take l.tree-index l.trees))) l.reported
