use Rattle.std.proofs.Common.{None}
use Rattle.cd_sets.proofs.Members.{same_members}
use Rattle.cd_sets.proofs.laws.members_decide.Goals as goal

pub returns : goal.returns
returns c = same_members None
