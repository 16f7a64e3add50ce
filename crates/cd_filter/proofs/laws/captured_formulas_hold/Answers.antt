use Rattle.cd_model.specs.Formula.{nodes}
use Rattle.cd_model.specs.Interfaces.{admits}
use Rattle.cd_model.specs.Thing.{IsElement, IsValue}
use Rattle.cd_model.specs.Types.{no_closure, closure_maps}
use Rattle.cd_filter.proofs.FormulasHold.{formula_gives}
use Rattle.cd_filter.proofs.laws.captured_formulas_hold.Goals as goal

pub returns-clause-elements : goal.returns-clause-elements
returns-clause-elements c graph id variable table place =
    formula_gives graph no_closure IsElement variable id table place

pub returns-clause-values : goal.returns-clause-values
returns-clause-values c graph interfaces id variable table place =
    formula_gives graph (closure_maps (nodes graph) (admits interfaces)) IsValue variable id table
    place
