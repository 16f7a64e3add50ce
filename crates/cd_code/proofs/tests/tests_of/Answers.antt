use Rattle.std.proofs.Common.{◌∙◌, sym, subst}
use Rattle.cd_model.specs.Formula.{Graph}
use Rattle.cd_graph.specs.Nodes.{nodes}
use Rattle.cd_asking.specs.MappedArrows.{MapsRight}
use Rattle.cd_evaluation.specs.ProgramInterfaces.{interfaces_of}
use Rattle.cd_resolved.specs.Resolved.{program_of}
use Rattle.cd_code.proofs.tests.tests_of.Goals as goal

pub returns-clause-tested : goal.returns-clause-tested
returns-clause-tested c = record {
  begins = c.knows.ensures.built_in;
  maps_right = λ function. subst
      (λ (g : Graph). MapsRight g (interfaces_of (program_of c.args.program.now)) c.in_ok-maps.maps function)
      (sym (c.in_ok-graph.ensures ∙ c.asked.ensures)) (c.in_ok-maps.ensures.right function);
}

pub returns-clause-knows : goal.returns-clause-knows
returns-clause-knows c labels = c.new-asker.ensures (nodes c.in_ok-graph.graph) labels
