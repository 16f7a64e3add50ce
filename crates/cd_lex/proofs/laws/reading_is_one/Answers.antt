use Rattle.cd_lex.proofs.ReadingIsOne.{one_list, one_fault, not_both}
use Rattle.cd_lex.proofs.laws.reading_is_one.Goals as goal

-- src/laws.rt:10:1
pub returns-clause-tokens : goal.returns-clause-tokens
returns-clause-tokens c = one_list

-- src/laws.rt:10:1
pub returns-clause-fault : goal.returns-clause-fault
returns-clause-fault c = one_fault

-- src/laws.rt:10:1
pub returns-clause-not_both : goal.returns-clause-not_both
returns-clause-not_both c = not_both
