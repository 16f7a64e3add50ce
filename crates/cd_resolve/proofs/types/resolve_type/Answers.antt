use Rattle.std.proofs.Common.{◌++◌, [], ◌∷◌, length, ap, subst, ◌∙◌, sym}
use Rattle.std.proofs.lemmas.List.{append-nil}
use Rattle.std.proofs.lemmas.Result.{IfOk-weaker}
use Rattle.cd_syntax.specs.PlainTree.{plain}
use Rattle.cd_graph.specs.PlainFormula.{plain_list}
use Rattle.cd_graph.specs.Nodes.{nodes}
use Rattle.cd_model.specs.StandsFor.{StandsFor}
use Rattle.cd_resolve.specs.Named.{declared_by}
use Rattle.cd_resolve.proofs.types.resolve_type.Goals as goal

-- the graph itself, with nothing put after it first
pub returns-clause-stands : goal.returns-clause-stands
returns-clause-stands c = IfOk-weaker c.resolve_type_from.result _ _
    (λ batch stands. subst (λ graph. StandsFor (graph ++ plain_list batch.formulas) batch.root
    (record { scope = declared_by c.args.names.now ∷ []; tree = plain c.args.tree.now }))
    (append-nil (nodes c.args.graph.now))
    (stands [] (ap length (append-nil (nodes c.args.graph.now)) ∙ sym c.len-first.ensures.count)))
    c.resolve_type_from.ensures.stands
