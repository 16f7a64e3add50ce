use Rattle.cd_explored.proofs.StepFormulas.{taken_formula, put_formula, gathered_formula}
use Rattle.cd_explored.proofs.laws.steps_have_formulas.Goals as goal

pub returns-clause-taken : goal.returns-clause-taken
returns-clause-taken c graph rest variable id place f sound asks answer =
    taken_formula graph rest variable id sound place.question asks f answer place.number

pub returns-clause-put : goal.returns-clause-put
returns-clause-put c = put_formula

pub returns-clause-gathered : goal.returns-clause-gathered
returns-clause-gathered c graph rest variable id place next item item_node f sound asks answer below
    is =
    gathered_formula graph rest variable id sound item asks f answer place next item_node below is
