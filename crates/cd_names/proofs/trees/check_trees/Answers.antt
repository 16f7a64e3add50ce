use Rattle.std.proofs.Common.{subst, sym}
use Rattle.cd_names.specs.Inner.Faults.{Reports}
use Rattle.cd_resolve.specs.Named.{declared_by}
use Rattle.cd_names.proofs.CheckedTrees.{tree_made, one_more, all_checked}
use Rattle.cd_names.proofs.trees.check_trees.Goals as goal

pub check_tree-requires : goal.check_tree-requires
check_tree-requires c = tree_made c.args.trees.now c.loop-tree.tree-index c.tree-item.result
    c.tree-item.is
    c.loop-tree-test.true c.requires

-- what is found in the next tree is reported too
pub loop-tree-preserved : goal.loop-tree-preserved
loop-tree-preserved c = subst (Reports _) (sym c.first_of-reported.ensures)
    (one_more (declared_by c.args.names.now) c.args.trees.now c.loop-tree.tree-index
    c.tree-item.result c.tree-item.is
    c.loop-tree-test.true c.loop-tree.reported c.check_tree.result c.loop-tree.invariant
    (record { sound = c.check_tree.ensures.sound; fault = c.check_tree.ensures.fault }))

pub returns-clause-sound : goal.returns-clause-sound
returns-clause-sound c =
    (all_checked (declared_by c.args.names.now) c.args.trees.now c.loop-tree.tree-index
    c.loop-tree-test.false c.loop-tree.reported c.loop-tree.invariant).sound

pub returns-clause-fault : goal.returns-clause-fault
returns-clause-fault c =
    (all_checked (declared_by c.args.names.now) c.args.trees.now c.loop-tree.tree-index
    c.loop-tree-test.false c.loop-tree.reported c.loop-tree.invariant).fault
