use Rattle.cd_resolve.proofs.Kept.{names_kept}
use Rattle.cd_resolve.proofs.laws.standing_is_kept.Goals as goal

pub returns : goal.returns
returns c = names_kept
