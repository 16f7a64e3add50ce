-- What a contract sees of the code of a program.
use Rattle.std.specs.Prelude.{◌≡◌, Bool, true, false, List, length, Option, Some, None}
use Rattle.cd_syntax.specs.Name.{Name}
use Rattle.cd_model.specs.AllOf.{AllOf}
use Rattle.cd_program.specs.Expr.{Program}
use Rattle.cd_graph.specs.Nodes.{nodes}
use Rattle.cd_cells.specs.Cells.{fields_of, IsPart}
use Rattle.cd_cells.specs.Table.{table, names}
use Rattle.cd_cells.specs.declared.cell.Part.{Part}
use Rattle.cd_cells.specs.declared.values.Values.{Values}
use Rattle.cd_evaluation.specs.Environment.{Env}
use Rattle.cd_evaluation.specs.ProgramInterfaces.{interfaces_of}
use Rattle.cd_asking.specs.Known.{KnowsOf}
use Rattle.cd_resolved.specs.Resolved.{program_of as program_in, kernels_of, asked_graph}
use Rattle.cd_resolved.specs.Resolved.{IsResolved}
use Rattle.cd_resolved.specs.declared.resolved.Resolved.{Resolved}
use Rattle.cd_code.specs.Tested.{AreTested}
use Rattle.cd_code.specs.Inner.Bindings.{AreAllBound}
use Rattle.cd_code.specs.declared.code.Code.{Code}

-- the program that it is of, and that program with its nodes
abbrev pub resolved_of : Code → Resolved
resolved_of code = code.program

abbrev pub program_of : Code → Program
program_of code = program_in code.program

-- what was captured last
abbrev pub captured_of : Code → List Part
captured_of code = code.captured.items

-- where a pattern takes a value, the environment of what it captures
abbrev pub if_taken : Bool → Env → Option Env
if_taken false env = None
if_taken true env = Some env

-- some parts as an environment
abbrev pub env_of : Values → List Part → Env
env_of values parts = fields_of (names values) (table values) parts

-- each part is one of the table
abbrev pub ArePartsOf : Values → List Part → Type 0
ArePartsOf values parts = AllOf (IsPart (names values) (length (table values))) parts

-- the code is of a program that is resolved and speaks of values whose names have these numbers,
-- and what it knows is right
pub record IsReady (names : List Name) (code : Code) : Type 0 where
  pub resolved : IsResolved code.program
  pub graph : nodes code.tests.graph ≡ asked_graph code.program
  pub tested : AreTested (nodes code.tests.graph) (interfaces_of (program_of code)) code.tests.maps
  pub knows : KnowsOf (nodes code.tests.graph) names code.tests.asker
  -- the bindings at each number are those of the pattern there
  pub bound : AreAllBound names (kernels_of code.program) code.bindings.items
