use Rattle.cd_grammar.proofs.Examples.{group_is, tuple_is, arrows_is, record_is, where_is, signs_is, characters_is, at_most_is, at_least_is, declared_are, arrow_is_deep}
use Rattle.cd_grammar.proofs.laws.grammar_examples.Goals as goal

pub returns-clause-group : goal.returns-clause-group
returns-clause-group c = group_is

pub returns-clause-tuple : goal.returns-clause-tuple
returns-clause-tuple c = tuple_is

pub returns-clause-arrows : goal.returns-clause-arrows
returns-clause-arrows c = arrows_is

pub returns-clause-record_type : goal.returns-clause-record_type
returns-clause-record_type c = record_is

pub returns-clause-where_names : goal.returns-clause-where_names
returns-clause-where_names c = where_is

pub returns-clause-signs : goal.returns-clause-signs
returns-clause-signs c = signs_is

pub returns-clause-characters : goal.returns-clause-characters
returns-clause-characters c = characters_is

pub returns-clause-at_most : goal.returns-clause-at_most
returns-clause-at_most c = at_most_is

pub returns-clause-at_least : goal.returns-clause-at_least
returns-clause-at_least c = at_least_is

pub returns-clause-declared : goal.returns-clause-declared
returns-clause-declared c = declared_are

pub returns-clause-too_deep : goal.returns-clause-too_deep
returns-clause-too_deep c = arrow_is_deep
