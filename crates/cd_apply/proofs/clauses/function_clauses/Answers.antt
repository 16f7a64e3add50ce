use Rattle.std.proofs.Common.{map, subst, sym, ap, ◌∙◌}
use Rattle.std.proofs.lemmas.Result.{IfOk-weaker}
use Rattle.cd_graph.specs.Nodes.{nodes}
use Rattle.cd_normal.specs.PlainClause.{plain_clause}
use Rattle.cd_apply.specs.Inner.FunctionClauses.{AreClausesOf, functions_among}
use Rattle.cd_apply.proofs.ClausesOfNodes.{clauses_found}
use Rattle.cd_apply.proofs.clauses.function_clauses.Goals as goal

pub returns : goal.returns
returns c = IfOk-weaker c.functions_among.result _ _
    (λ found same. subst (AreClausesOf (nodes c.args.graph.now) c.args.function)
    (sym (same ∙ ap (λ all. functions_among (map plain_clause all)) c.as_slice.ensures.value))
    (clauses_found (nodes c.args.graph.now) c.args.function plain_clause c.in_ok-all.all.items
    c.in_ok-question.question c.in_ok-question.ensures c.in_ok-all.ensures.sound
    c.in_ok-all.ensures.complete))
    c.functions_among.ensures
