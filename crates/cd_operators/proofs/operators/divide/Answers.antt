use Rattle.std.proofs.Common.{[], ◌∷◌, ◌∙◌, inr, refl, subst, sym, lit<}
use Rattle.std.proofs.lemmas.Result.{err_from_is_err_and}
use Rattle.cd_model.specs.BuiltIns.{INT}
use Rattle.cd_model.specs.Formula.{Graph}
use Rattle.cd_rules.specs.Needs.{question}
use Rattle.cd_typing.specs.Typ.{In}
use Rattle.cd_empty.specs.Seen.{graph_of, table_of}
use Rattle.cd_verdicts.specs.Verdicts.{IsExact}
use Rattle.cd_verdicts.specs.declared.verdict.Verdict.TheVariants.{Empty, Inhabited}
use Rattle.cd_operators.specs.Tools.{AreTools}
use Rattle.cd_operators.proofs.BuiltInNodes.{type_stays, node_within}
use Rattle.cd_operators.proofs.Refused.{misfit_of_quotient}
use Rattle.cd_operators.proofs.ZeroAsked.{never_zero, zero_found}
use Rattle.cd_operators.proofs.operators.divide.Goals as goal

-- the graph is the same where it is asked for 0
pub zeros-requires-clause-tools : goal.zeros-requires-clause-tools
zeros-requires-clause-tools c = subst (λ (g : Graph). AreTools g c.args.tools.now)
    (sym c.in_ok-integers.ensures.graph) c.requires.tools

-- no divisor is 0
pub returns-in-Empty-clause-least : goal.returns-in-Empty-clause-least
returns-in-Empty-clause-least c =
    let graph = graph_of c.args.world.now in
    let tools = c.args.tools.now in
    let last = graph_of c.zeros.new.world in
    let same = c.in_ok-zeros.ensures.graph ∙ c.in_ok-integers.ensures.graph in
    let none = subst (λ (g : Graph). IsExact g (table_of c.zeros.new.world)
    (question (c.args.second ∷ tools.zero ∷ []) []) Empty) c.in_ok-integers.ensures.graph
    (rw c.in-Empty.is at c.in_ok-zeros.ensures.exact) in record {
      gives = (
        c.in_ok-integers.ensures.within,
        never_zero graph tools c.requires.tools c.args.second none.0,
        type_stays graph c.graph.ensures.built_in INT (lit< tt) last same,
      );
      within = λ wider other result first second gives. node_within graph
          c.graph.ensures.built_in INT (lit< tt) last same (In result) gives.2;
    }

-- an operand that is no integer
pub returns-in_err-integers-clause-misfit : goal.returns-in_err-integers-clause-misfit
returns-in_err-integers-clause-misfit c =
    let is = err_from_is_err_and c.from_residual.result c.from_residual.ensures.1 in
    rw (is.1, is.2)
    (misfit_of_quotient (graph_of c.args.world.now) (table_of c.integers.new.world) c.args.first
    c.args.second c.in_err-integers.field-0.0 c.in_err-integers.ensures.misfit)

-- one is
pub returns-in-Inhabited-clause-misfit : goal.returns-in-Inhabited-clause-misfit
returns-in-Inhabited-clause-misfit c =
    let tools = c.args.tools.now in
    let one = subst (λ (g : Graph). IsExact g (table_of c.zeros.new.world)
    (question (c.args.second ∷ tools.zero ∷ []) []) (Inhabited c.in-Inhabited.element))
    c.in_ok-integers.ensures.graph (rw c.in-Inhabited.is at c.in_ok-zeros.ensures.exact) in
    inr (
      c.in_ok-integers.ensures.within,
      (
        refl,
        refl,
        zero_found (graph_of c.args.world.now) tools c.requires.tools c.args.second
            (table_of c.zeros.new.world) c.in-Inhabited.element one,
      ),
    )
