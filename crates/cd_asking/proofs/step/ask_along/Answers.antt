use Rattle.std.proofs.Common.{◌≡◌, sym, ap, subst}
use Rattle.std.proofs.lemmas.Result.{IfOk-weaker}
use Rattle.cd_graph.specs.Nodes.{nodes}
use Rattle.cd_cells.specs.Table.{table, names}
use Rattle.cd_asking.specs.MappedArrows.{maps_at}
use Rattle.cd_asking.specs.Inner.Asked.{IsStep}
use Rattle.cd_asking.specs.declared.node_sets.SetId.{SetId}
use Rattle.cd_asking.specs.declared.task.Next.TheVariants.{Ask}
use Rattle.cd_asking.specs.declared.task.Task.TheVariants.{OfPairs}
use Rattle.cd_asking.proofs.step.ask_along.Goals as goal

-- the set is that of the second parts
pub returns-clause-goes : goal.returns-clause-goes
returns-clause-goes c =
    let same : c.args.set ≡ c.args.leads.second = ap (λ n. record { 0 = n }) (sym c.if-leads-set.false) in
    IfOk-weaker c.end_along.result _ _ (λ next goes nodes' work step. goes nodes' work (c.in_ok-id.ensures.goes nodes' work
    (subst (λ (set : SetId). IsStep (names c.args.values.now) (nodes c.args.graph.now) (maps_at c.args.maps.now) (table c.args.values.now)
    c.args.asker.now nodes' work (Ask c.args.pair.1 c.args.leads.second (OfPairs set c.args.pair.0 1))) same step))) c.end_along.ensures.goes
