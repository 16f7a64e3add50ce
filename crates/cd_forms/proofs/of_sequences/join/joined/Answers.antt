use Rattle.std.proofs.Common.{Option, sym, subst, IfSome}
use Rattle.std.proofs.lemmas.Result.{IfOk-weaker}
use Rattle.cd_sets.specs.declared.node_id.NodeId.{NodeId}
use Rattle.cd_model.specs.Formula.{Graph}
use Rattle.cd_empty.specs.Seen.{graph_of}
use Rattle.cd_forms.specs.Inner.Joins.{IsJoin}
use Rattle.cd_forms.proofs.of_sequences.join.joined.Goals as goal
use Rattle.cd_forms.proofs.of_sequences.join.joined.Goals.{In-Some, After-put_join}

-- a node that is known
known : (c : In-Some) → IsJoin (graph_of c.args.world.now) (graph_of c.known_join.new.world)
    c.args.first c.args.second c.in-Some.id
known c =
    let graph = graph_of c.args.world.now in
    subst (λ (g : Graph). IsJoin graph g c.args.first c.args.second c.in-Some.id)
    (sym c.in_ok-id.ensures.graph)
    (subst (λ (known : Option NodeId).
    IfSome known (λ id. IsJoin graph graph c.args.first c.args.second id)) c.in-Some.is
    c.in_ok-id.ensures.join)

pub returns-in-Some-clause-has : goal.returns-in-Some-clause-has
returns-in-Some-clause-has c = (known c).has

pub returns-in-Some-clause-only : goal.returns-in-Some-clause-only
returns-in-Some-clause-only c = (known c).only

-- and one that is put in
put : (c : After-put_join) (id : NodeId) → IsJoin (graph_of c.known_join.new.world)
    (graph_of c.put_join.new.world) c.args.first c.args.second id
    → IsJoin (graph_of c.args.world.now) (graph_of c.put_join.new.world) c.args.first c.args.second
    id
put c id = subst (λ (g : Graph).
    IsJoin g (graph_of c.put_join.new.world) c.args.first c.args.second id)
    c.in_ok-id.ensures.graph

pub returns-in-None-clause-has : goal.returns-in-None-clause-has
returns-in-None-clause-has c = IfOk-weaker c.put_join.result _ _
    (λ id is. (put c id is).has) c.put_join.ensures.join

pub returns-in-None-clause-only : goal.returns-in-None-clause-only
returns-in-None-clause-only c = IfOk-weaker c.put_join.result _ _
    (λ id is. (put c id is).only) c.put_join.ensures.join
