-- Code, values and environments that fit each other, and how they grow.
use Rattle.std.specs.Prelude.{◌≡◌, List}
use Rattle.cd_model.specs.AllOf.{AllOf}
use Rattle.cd_cells.specs.Table.{names, Grows}
use Rattle.cd_cells.specs.declared.cell.Part.{Part}
use Rattle.cd_cells.specs.declared.values.Values.{Values}
use Rattle.cd_code.specs.Compiled.{program_of, ArePartsOf, IsReady}
use Rattle.cd_code.specs.declared.code.Code.{Code}
use Rattle.cd_machine.specs.Inner.Nodes.{Longer}

-- the code is of the names of the table, and environments have names and values of the table
pub record IsInOrder (code : Code) (values : Values) (environments : List (List Part))
    : Type 0 where
  pub ready : IsReady (names values) code
  pub parts : AllOf (ArePartsOf values) environments

-- values and environments were only added, and the program is the same
pub record IsAfter (code : Code) (values : Values) (environments : List (List Part))
    (code' : Code) (values' : Values) (environments' : List (List Part)) : Type 0 where
  pub grows : Grows values values'
  pub longer : Longer environments environments'
  pub program : program_of code' ≡ program_of code
  pub in_order : IsInOrder code' values' environments'
