use Rattle.cd_matching.proofs.TakesOnce.{elements_have_results, elements_once, values_once}
use Rattle.cd_matching.proofs.laws.patterns_answer_once.Goals as goal

pub returns-clause-elements : goal.returns-clause-elements
returns-clause-elements c = elements_have_results

pub returns-clause-once : goal.returns-clause-once
returns-clause-once c = elements_once

pub returns-clause-values_once : goal.returns-clause-values_once
returns-clause-values_once c = values_once
