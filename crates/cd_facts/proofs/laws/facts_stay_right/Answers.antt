use Rattle.cd_facts.proofs.FactsKept.{right_in_more}
use Rattle.cd_facts.proofs.laws.facts_stay_right.Goals as goal

pub returns : goal.returns
returns c = right_in_more
