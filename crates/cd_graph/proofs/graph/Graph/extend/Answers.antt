use Rattle.std.proofs.Common.{◌≡◌, ◌↔◌, sym, subst, take}
use Rattle.cd_model.specs.Formula.{Graph, IsGraph}
use Rattle.cd_model.specs.BuiltIns.{built_ins}
use Rattle.cd_model.specs.Membership.{answers, value_answers}
use Rattle.cd_model.specs.Interfaces.{admits}
use Rattle.cd_model.proofs.BothWays.{itself}
use Rattle.cd_model.proofs.Extending.{kept_elements, kept_values}
use Rattle.cd_model.proofs.FormulasAmongMore.{graph_with_more}
use Rattle.cd_graph.specs.Nodes.{nodes}
use Rattle.cd_graph.proofs.Sound.{still_begins, either_way, without_others}
use Rattle.cd_graph.proofs.graph.Graph.extend.Goals as goal

begins : Graph → Type 0
begins graph = take 14 graph ≡ built_ins

pub invariant_of-self : goal.invariant_of-self
unfolding begins
invariant_of-self c =
    let was = c.len.ensures in
    let call = c.append in
    record {
      sound = ∣ either_way IsGraph _ _ _ call.result call.ensures.added call.ensures.kept
          was.sound (graph_with_more _ _ was.sound c.requires) ∣₁;
      built_in = ∣ either_way begins _ _ _ call.result call.ensures.added call.ensures.kept
          (without_others _ was.built_in) (still_begins _ _ (without_others _ was.built_in)) ∣₁;
    }

pub returns-clause-sound : goal.returns-clause-sound
returns-clause-sound c =
    let was = c.len.ensures in
    let call = c.append in
    either_way IsGraph _ _ _ call.result call.ensures.added call.ensures.kept
    was.sound (graph_with_more _ _ was.sound c.requires)

-- the new graph is the old one and the batch after it
pub returns-clause-elements : goal.returns-clause-elements
returns-clause-elements c = λ is id answer below.
    subst (λ (graph : Graph). answers (nodes c.args.self.now) is id answer ↔ answers graph is id answer) (sym c.in_ok-append.ensures.added)
    (kept_elements _ _ c.len.ensures.sound is id answer below)

pub returns-clause-values : goal.returns-clause-values
returns-clause-values c = λ interfaces is id answer below.
    subst (λ (graph : Graph). value_answers (nodes c.args.self.now) interfaces is id answer ↔ value_answers graph interfaces is id answer) (sym c.in_ok-append.ensures.added)
    (kept_values _ _ c.len.ensures.sound (admits interfaces) (admits interfaces) (λ function pairs sound. itself) is id answer below)
