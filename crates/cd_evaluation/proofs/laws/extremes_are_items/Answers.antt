use Rattle.cd_evaluation.proofs.ExtremesFound.{item_found, integers_found}
use Rattle.cd_evaluation.proofs.ExtremesLeast.{least, greatest}
use Rattle.cd_evaluation.proofs.laws.extremes_are_items.Goals as goal

pub returns-clause-item : goal.returns-clause-item
returns-clause-item c = item_found

pub returns-clause-least : goal.returns-clause-least
returns-clause-least c = least

pub returns-clause-greatest : goal.returns-clause-greatest
returns-clause-greatest c = greatest

pub returns-clause-found : goal.returns-clause-found
returns-clause-found c = integers_found
