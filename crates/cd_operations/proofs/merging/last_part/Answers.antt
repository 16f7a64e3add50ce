use Rattle.std.proofs.Common.{refl}
use Rattle.cd_operations.proofs.PartsMerged.{next_of_second}
use Rattle.cd_operations.proofs.merging.last_part.Goals as goal

pub returns : goal.returns
returns c = next_of_second _ _ c.requires.records _ _ _ c.requires.none c.in_ok-other.ensures refl refl
