use Rattle.cd_grammar.proofs.Examples.{group_is_deep, record_is_deep, arrows_is_deep, argument_is}
use Rattle.cd_grammar.proofs.laws.depth_examples.Goals as goal

pub returns-clause-group : goal.returns-clause-group
returns-clause-group c = group_is_deep

pub returns-clause-record_type : goal.returns-clause-record_type
returns-clause-record_type c = record_is_deep

pub returns-clause-arrows : goal.returns-clause-arrows
returns-clause-arrows c = arrows_is_deep

pub returns-clause-argument : goal.returns-clause-argument
returns-clause-argument c = argument_is
