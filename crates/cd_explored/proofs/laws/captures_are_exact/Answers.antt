use Rattle.cd_explored.proofs.ExactCaptures.{exact_captures, wide_captures}
use Rattle.cd_explored.proofs.laws.captures_are_exact.Goals as goal

pub returns-clause-elements : goal.returns-clause-elements
returns-clause-elements c graph batch kernel first matched table ids sound is explored are =
    exact_captures graph kernel first is matched table batch sound explored ids are

pub returns-clause-values : goal.returns-clause-values
returns-clause-values c graph batch kernel first matched table ids sound is explored are =
    wide_captures graph kernel first is matched table batch sound explored ids are
