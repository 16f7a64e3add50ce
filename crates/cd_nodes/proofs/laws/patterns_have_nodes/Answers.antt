use Rattle.cd_nodes.proofs.PatternsTyped.{pattern_typed}
use Rattle.cd_nodes.proofs.laws.patterns_have_nodes.Goals as goal

pub returns : goal.returns
returns c = pattern_typed
