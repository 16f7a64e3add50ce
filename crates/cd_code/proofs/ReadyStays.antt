-- Code stays ready where the table of names grows.
use Rattle.std.proofs.Common.{◌≡◌, ◌++◌, List, Vec, Global, sym, ap, subst, ◌∙◌}
use Rattle.cd_syntax.specs.Name.{Name}
use Rattle.cd_cells.specs.Table.{names, Grows}
use Rattle.cd_cells.specs.declared.cell.Part.{Part}
use Rattle.cd_cells.specs.declared.values.Values.{Values}
use Rattle.cd_graph.specs.Nodes.{nodes}
use Rattle.cd_evaluation.specs.ProgramInterfaces.{interfaces_of}
use Rattle.cd_asking.specs.Known.{KnowsOf}
use Rattle.cd_asking.proofs.Grown.{knows_in_grown_names}
use Rattle.cd_taking.specs.declared.taker.Taker.{Taker}
use Rattle.cd_taking.specs.declared.type_tests.Tests.{Tests}
use Rattle.cd_resolved.specs.Resolved.{kernels_of}
use Rattle.cd_code.specs.Compiled.{program_of, IsReady}
use Rattle.cd_code.specs.Tested.{AreTested}
use Rattle.cd_code.specs.declared.code.Code.{Code}
use Rattle.cd_code.proofs.BindingsStay.{still_bound}

pub ready_renamed : (labels more : List Name) (code : Code) → IsReady labels code → IsReady (labels ++ more) code
ready_renamed labels more code is = record {
  resolved = is.resolved;
  graph = is.graph;
  tested = is.tested;
  knows = knows_in_grown_names (nodes code.tests.graph) labels more code.tests.asker is.knows;
  bound = still_bound labels more (kernels_of code.program) code.bindings.items is.bound;
}

pub ready_grown : (old new : Values) (code : Code) → IsReady (names old) code → Grows old new → IsReady (names new) code
ready_grown old new code is grown =
    subst (λ labels. IsReady labels code) (sym grown.labels.1) (ready_renamed (names old) grown.labels.0 code is)

-- so it does after a pattern was asked
pub ready_after : (old new : Values) (code : Code) (tests : Tests) (taker : Taker) (captured : Vec Part Global) → IsReady (names old) code
    → Grows old new → tests.graph ≡ code.tests.graph → tests.maps ≡ code.tests.maps
    → KnowsOf (nodes tests.graph) (names new) tests.asker
    → IsReady (names new) (record {
      program = code.program;
      bindings = code.bindings;
      tests = tests;
      taker = taker;
      captured = captured;
    })
ready_after old new code tests taker captured is grown same_graph same_maps knows =
    let kept = ready_grown old new code is grown in record {
      resolved = kept.resolved;
      graph = ap nodes same_graph ∙ kept.graph;
      tested = subst (λ g. AreTested (nodes g) (interfaces_of (program_of code)) tests.maps) (sym same_graph)
          (subst (AreTested (nodes code.tests.graph) (interfaces_of (program_of code))) (sym same_maps) kept.tested);
      knows = knows;
      bound = kept.bound;
    }
