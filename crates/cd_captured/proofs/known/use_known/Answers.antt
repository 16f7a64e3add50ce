use Rattle.std.proofs.Common.{◌<◌, length, refl, sym, subst, ◌∙◌}
use Rattle.cd_model.specs.AllOf.{AllOf}
use Rattle.cd_model.specs.Formula.{Graph}
use Rattle.cd_products.specs.Keeping.{HoldSame}
use Rattle.cd_empty.specs.Seen.{graph_of}
use Rattle.cd_empty.proofs.GrowingWorlds.{to_itself, and_further}
use Rattle.cd_captured.proofs.KnownNodes.{stand_for_themselves, put_in, got_item}
use Rattle.cd_captured.proofs.known.use_known.Goals as goal

pub loop-one-init : goal.loop-one-init
loop-one-init c = record {
  stand = stand_for_themselves (graph_of c.args.world.now) c.args.captured.now.items
      c.requires.nodes;
  graph = refl;
  grows = to_itself c.args.world.now;
}

pub use_known_node-requires-clause-likely : goal.use_known_node-requires-clause-likely
use_known_node-requires-clause-likely c =
    subst (λ (g : Graph). AllOf (λ id. id.0 < length g) c.likely.result.now)
    (sym c.loop-one.invariant.graph)
    (c.likely.ensures (length (graph_of c.args.world.now)) c.requires.asks)

pub loop-one-preserved : goal.loop-one-preserved
loop-one-preserved c =
    let same = c.loop-one.invariant.graph in
    let old = c.in-Some.one.now in
    let new = c.use_known_node.new.one in record {
      stand = put_in (graph_of c.args.world.now) old new c.use_known_node.ensures.name
          (subst (λ (g : Graph). HoldSame g old.1 new.1) same c.use_known_node.ensures.same)
          (subst (λ (g : Graph). new.1.0 < length g) same c.use_known_node.ensures.node)
          c.args.captured.now.items c.loop-one.captured.items c.loop-one.variable
          (got_item c.loop-one.captured.items c.loop-one.variable old c.in-Some.ensures.item.3.0
          c.in-Some.ensures.item.3.1) c.loop-one.invariant.stand;
      graph = c.use_known_node.ensures.graph ∙ same;
      grows = and_further c.args.world.now c.loop-one.world c.use_known_node.new.world
          c.loop-one.invariant.grows c.use_known_node.ensures.grows;
    }
