use Rattle.cd_texts.proofs.ProgramsInRange.{patterns_in_range}
use Rattle.cd_texts.proofs.laws.constants_of_patterns_are_in_range.Goals as goal

pub returns : goal.returns
returns c = patterns_in_range
