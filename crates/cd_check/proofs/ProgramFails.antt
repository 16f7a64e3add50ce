-- What the checks of the functions of a program report, by what these go by, is a fault of the program.
use Rattle.std.proofs.Common.{◌≡◌, [], ◌++◌, List, map, ap}
use Rattle.cd_model.specs.AllOf.{AllOf}
use Rattle.cd_model.specs.BuiltIns.{built_ins}
use Rattle.cd_model.specs.Formula.{Graph, IsGraph}
use Rattle.cd_model.specs.Thing.{Thing}
use Rattle.cd_program.specs.Expr.{Program}
use Rattle.cd_program.specs.WellMade.{IsWellMadeProgram}
use Rattle.cd_least.specs.ProgramFaults.{ProgramFault}
use Rattle.cd_resolved.specs.Resolved.{function_of}
use Rattle.cd_resolved.specs.declared.function_nodes.FunctionNodes.{FunctionNodes}
use Rattle.cd_check.specs.declared.base.Base.{Base}
use Rattle.cd_check.specs.declared.fault.CheckError.{CheckError}
use Rattle.cd_check.specs.Faults.{Reports}
use Rattle.cd_check.specs.Inner.FunctionNames.{function_names}
use Rattle.cd_check.specs.Inner.Programs.{FunctionsFail, MainsFault}
use Rattle.cd_check.specs.Inner.Promises.{IsPromised}
use Rattle.cd_check.specs.Inner.Ready.{program_of, scope_of, seen_by}
use Rattle.cd_check.proofs.FunctionsPromised.{arrows_of, whole_of, are_named, nodes_of_all}
use Rattle.cd_check.proofs.ProgramFaultsReported.{reported_by_functions, reported_by_main}

-- the graph in which they are checked
module _ (program : Program) (base : Base) (same : program_of base ≡ program) (all : List FunctionNodes)
    (are : map function_of all ≡ program.functions) (names : base.functions.now ≡ function_names program.functions)
    (ids : base.interfaces.now ≡ map whole_of all) (made : IsWellMadeProgram program) (graph more : Graph) (begins : graph ≡ built_ins ++ more)
    (sound : IsGraph graph) (promised : AllOf (IsPromised (scope_of base) graph) all) (table : List Thing) (error : CheckError) where
  -- whether each keeps what it promises
  pub functions_fail : FunctionsFail base graph table all error → Reports table (ProgramFault program) error
  functions_fail fails = reported_by_functions function_of arrows_of whole_of (program_of base).types graph more begins sound program
      (ap (λ (whole : Program). whole.types) same) all are
      (are_named program base same all are names ids made) promised (seen_by base []) (nodes_of_all program base same all are names ids made)
      table error fails

  -- whether `main` gives data
  pub main_fails : Reports table (MainsFault graph all) error → Reports table (ProgramFault program) error
  main_fails fails = reported_by_main function_of arrows_of whole_of (program_of base).types graph more begins sound program
      (ap (λ (whole : Program). whole.types) same) all are
      (are_named program base same all are names ids made) promised table error fails
