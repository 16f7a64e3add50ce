use Rattle.cd_model.proofs.StandsKept.{stands_kept}
use Rattle.cd_model.proofs.laws.standing_is_kept.Goals as goal

pub returns : goal.returns
returns c = stands_kept
