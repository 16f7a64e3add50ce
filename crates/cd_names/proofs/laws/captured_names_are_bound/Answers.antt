use Rattle.std.proofs.Common.{inr}
use Rattle.cd_names.proofs.PatternVariables.{tree_binds}
use Rattle.cd_names.proofs.laws.captured_names_are_bound.Goals as goal

pub returns : goal.returns
returns c types scope pattern sound =
    tree_binds scope pattern (λ fault is. sound fault (inr is))
