use Rattle.cd_operations.proofs.PartsMerged.{merges_on, of_merged, all_merged}
use Rattle.cd_operations.proofs.merging.merge.Goals as goal

pub loop-part-preserved : goal.loop-part-preserved
loop-part-preserved c = merges_on _ _ _ _ _ _ _ c.loop-part.invariant c.in-Some.ensures c.in_ok-push.ensures.items

pub returns-clause-parts : goal.returns-clause-parts
returns-clause-parts c = of_merged _ _ _ _ _ c.requires.first c.requires.second c.loop-part.invariant c.in_default.ensures

pub returns-clause-fields : goal.returns-clause-fields
returns-clause-fields c = all_merged _ _ _ _ _ c.loop-part.invariant c.in_default.ensures
