use Rattle.std.proofs.lemmas.Result.{IfOk-weaker}
use Rattle.cd_normal.specs.Inner.PlainPartial.{plain_partials}
use Rattle.cd_normal.proofs.ConjunctsOfNodes.{goes_of_nodes}
use Rattle.cd_normal.proofs.conjuncts.Conjuncts.advance.Goals as goal

-- conjuncts of formulas of nodes go on to such
pub returns-clause-of_nodes : goal.returns-clause-of_nodes
returns-clause-of_nodes c = IfOk-weaker c.go_on.result _ _
    (λ advance goes nodes. goes_of_nodes nodes (plain_partials c.args.self.now.items.items) (plain_partials c.go_on.new.conjuncts.items)
    advance goes) c.go_on.ensures
