-- Functions whose interfaces are written well: their types are well made and have no naming fault.
use Rattle.cd_syntax.specs.TypeTree.{Tree, Declarations}
use Rattle.cd_program.specs.Expr.{FunctionTree}
use Rattle.cd_program.specs.WellMade.{AreWellMadeSignatures}
use Rattle.cd_resolve.specs.Faults.{Fault, IsFaultOfType}
use Rattle.cd_variables.specs.VariableFaults.{IsOneIn}
use Rattle.cd_names.specs.ProgramFaults.{function_types}
use Rattle.cd_evaluation.specs.ProgramInterfaces.{interface_of}

pub record HasSoundInterface (types : Declarations) (f : FunctionTree) : Type 0 where
  pub well_made : AreWellMadeSignatures (interface_of f)
  pub sound : (t : Tree) (fault : Fault) → IsOneIn t (function_types f)
      → IsFaultOfType types t fault → ⊥
