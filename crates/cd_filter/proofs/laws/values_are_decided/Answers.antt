use Rattle.cd_filter.proofs.ValuesDecided.{decided, tests, has_element, drops_values}
use Rattle.cd_filter.proofs.laws.values_are_decided.Goals as goal

pub returns-clause-nodes : goal.returns-clause-nodes
returns-clause-nodes c = decided

pub returns-clause-tests : goal.returns-clause-tests
returns-clause-tests c = tests

pub returns-clause-questions : goal.returns-clause-questions
returns-clause-questions c graph more interfaces question begins sound =
    has_element graph more begins sound interfaces question

pub returns-clause-boxes : goal.returns-clause-boxes
returns-clause-boxes c graph more interfaces inhabited begins sound =
    drops_values graph more begins sound interfaces inhabited
