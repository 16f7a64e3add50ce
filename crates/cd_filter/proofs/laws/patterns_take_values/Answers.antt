use Rattle.cd_filter.proofs.ValuesDecided.{patterns_answer}
use Rattle.cd_filter.proofs.laws.patterns_take_values.Goals as goal

pub returns : goal.returns
returns c graph interfaces p v is = patterns_answer graph interfaces is p v
