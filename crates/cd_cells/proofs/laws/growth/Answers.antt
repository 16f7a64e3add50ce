use Rattle.cd_cells.proofs.InGrown.{thing_in_grown, name_in_grown, fields_in_grown}
use Rattle.cd_cells.proofs.laws.growth.Goals as goal

pub returns-clause-things : goal.returns-clause-things
returns-clause-things c = thing_in_grown

pub returns-clause-names : goal.returns-clause-names
returns-clause-names c = name_in_grown

pub returns-clause-fields : goal.returns-clause-fields
returns-clause-fields c = fields_in_grown
