use Rattle.cd_grammar.proofs.Examples.{keyword_is, keyword_is_deep}
use Rattle.cd_grammar.proofs.laws.keyword_examples.Goals as goal

pub returns-clause-label : goal.returns-clause-label
returns-clause-label c = keyword_is

pub returns-clause-too_deep : goal.returns-clause-too_deep
returns-clause-too_deep c = keyword_is_deep
