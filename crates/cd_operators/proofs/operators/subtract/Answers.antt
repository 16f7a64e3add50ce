use Rattle.std.proofs.Common.{◌-ℤ◌, subst}
use Rattle.cd_model.specs.Formula.{Graph}
use Rattle.cd_meaning.specs.Integers.{IsResultOf}
use Rattle.cd_meaning.specs.Sets.{◌⊆◌, elements_of}
use Rattle.cd_typing.specs.Typ.{In}
use Rattle.cd_empty.specs.Seen.{graph_of}
use Rattle.cd_operators.proofs.Operated.{results_grow}
use Rattle.cd_operators.proofs.operators.subtract.Goals as goal

pub returns-clause-least : goal.returns-clause-least
returns-clause-least c =
    let graph = graph_of c.args.world.now in
    let one = elements_of graph c.args.first in
    let two = elements_of graph c.args.second in
    let results = elements_of (graph_of c.results.new.world) c.in_ok-results.field-0 in
    let same = c.in_ok-integers.ensures.graph in
    let only = subst (λ (g : Graph). results
    ⊆ IsResultOf (λ a b. a -ℤ b) (elements_of g c.args.first) (elements_of g c.args.second))
    same c.in_ok-results.ensures.results.only in record {
      gives = (
        c.in_ok-integers.ensures.within,
        subst (λ (g : Graph). IsResultOf (λ a b. a -ℤ b) (elements_of g c.args.first)
            (elements_of g c.args.second) ⊆ results) same c.in_ok-results.ensures.results.has,
      );
      within = λ wider other result first second gives e element inside. gives.1 e element
          (results_grow (λ a b. a -ℤ b) one two (In wider) (In other) first second e element
          (only e element inside));
    }
