use Rattle.std.proofs.Common.{List, subst, sym}
use Rattle.cd_syntax.specs.WellMadePattern.{IsWellMadePattern}
use Rattle.cd_model.specs.AllOf.{AllOf}
use Rattle.cd_cells.specs.Table.{names}
use Rattle.cd_resolved.specs.Resolved.{pattern_of}
use Rattle.cd_resolved.specs.declared.pattern_kernel.PatternKernel.{PatternKernel}
use Rattle.cd_code.specs.Inner.Bindings.{AreAllBound}
use Rattle.cd_code.proofs.PatternsBound.{patterns_made}
use Rattle.cd_code.proofs.compiling.compile.Goals as goal

pub bindings_of_each-requires : goal.bindings_of_each-requires
bindings_of_each-requires c = subst (AllOf (λ one. IsWellMadePattern (pattern_of one))) (sym c.kernels.ensures)
    (patterns_made c.args.program c.requires.resolved)

pub returns-clause-ready : goal.returns-clause-ready
returns-clause-ready c = record {
  resolved = c.requires.resolved;
  graph = c.in_ok-tests.ensures.graph;
  tested = c.in_ok-tests.ensures.tested;
  knows = c.in_ok-tests.ensures.knows (names c.bindings_of_each.new.values);
  bound = subst (λ (kernels : List PatternKernel). AreAllBound (names c.bindings_of_each.new.values) kernels c.in_ok-bindings.bindings.items)
      c.kernels.ensures c.in_ok-bindings.ensures.bound;
}
