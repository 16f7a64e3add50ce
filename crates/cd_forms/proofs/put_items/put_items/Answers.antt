use Rattle.std.proofs.Common.{◌-◌, ◌++◌, ◌∷◌, [], map, length, take, subst}
use Rattle.cd_program.specs.PlainExpr.{plain_item}
use Rattle.cd_empty.specs.Seen.{graph_of}
use Rattle.cd_empty.proofs.GrowingWorlds.{to_itself, and_further}
use Rattle.cd_forms.specs.Inner.Putting.{IsPut}
use Rattle.cd_forms.proofs.ItemsPut.{AreSoFar, none_put, still_nodes, split_items, item_put}
use Rattle.cd_forms.proofs.ItemsPut.{too_few}
use Rattle.cd_forms.proofs.put_items.put_items.Goals as goal
use Rattle.cd_forms.proofs.put_items.put_items.Goals.{In_ok-id}

-- at first none is put
pub loop-left-init : goal.loop-left-init
loop-left-init c = record {
  so_far = none_put (graph_of c.args.world.now) (map plain_item c.args.items.now)
      c.args.parts.now.items c.nil-rest.result c.nil-rest.ensures.node
      (λ e there. (c.nil-rest.ensures.holds e).0 there)
      (λ e same. (c.nil-rest.ensures.holds e).1 same);
  sound = c.nil-rest.ensures.sound;
  grows = to_itself c.args.world.now;
}

pub put_item-requires-clause-parts : goal.put_item-requires-clause-parts
put_item-requires-clause-parts c = still_nodes (graph_of c.args.world.now)
    (graph_of c.loop-left.world) (map plain_item c.args.items.now)
    (map plain_item c.loop-left.left.now) c.args.parts.now.items c.loop-left.parts.items
    c.loop-left.rest c.loop-left.invariant.so_far c.requires

-- the last item that is left
so_far : (c : In_ok-id) → AreSoFar (graph_of c.args.world.now) (graph_of c.loop-left.world)
    (map plain_item c.args.items.now)
    (map plain_item (take (length c.loop-left.left.now - 1) c.loop-left.left.now)
    ++ plain_item c.item-item.result ∷ []) c.args.parts.now.items c.loop-left.parts.items
    c.loop-left.rest
so_far c = subst (λ left. AreSoFar (graph_of c.args.world.now) (graph_of c.loop-left.world)
    (map plain_item c.args.items.now) left c.args.parts.now.items c.loop-left.parts.items
    c.loop-left.rest) (split_items c.loop-left.left.now c.item-item.result
    c.in-len1-up.len_at_least c.item-item.is) c.loop-left.invariant.so_far

pub returns-in-None-clause-put : goal.returns-in-None-clause-put
returns-in-None-clause-put c = let at = (goal.at.returns-in-None-clause-put c).In_ok-id in
    too_few (graph_of c.args.world.now) (graph_of c.loop-left.world)
    (graph_of c.put_item.new.world) c.nil-rest.ensures.sound (map plain_item c.args.items.now)
    (map plain_item (take (length c.loop-left.left.now - 1) c.loop-left.left.now))
    (plain_item c.item-item.result) c.args.parts.now.items c.loop-left.parts.items
    c.loop-left.rest c.requires (so_far at) c.in_ok-id.ensures.grows.graph
    c.put_item.new.parts.items
    (subst (IsPut (graph_of c.loop-left.world) (graph_of c.put_item.new.world)
    (plain_item c.item-item.result) c.loop-left.parts.items c.put_item.new.parts.items
    c.loop-left.rest) c.in-None.is c.in_ok-id.ensures.put)

pub loop-left-preserved : goal.loop-left-preserved
loop-left-preserved c = let at = (goal.at.loop-left-preserved c).In_ok-id in record {
  so_far = item_put (graph_of c.args.world.now) (graph_of c.loop-left.world)
      (graph_of c.put_item.new.world) c.nil-rest.ensures.sound (map plain_item c.args.items.now)
      (map plain_item (take (length c.loop-left.left.now - 1) c.loop-left.left.now))
      (plain_item c.item-item.result) c.args.parts.now.items c.loop-left.parts.items
      c.loop-left.rest c.requires (so_far at) c.in_ok-id.ensures.grows.graph
      c.put_item.new.parts.items c.in-Some.id
      (subst (IsPut (graph_of c.loop-left.world) (graph_of c.put_item.new.world)
      (plain_item c.item-item.result) c.loop-left.parts.items c.put_item.new.parts.items
      c.loop-left.rest) c.in-Some.is c.in_ok-id.ensures.put);
  sound = c.in_ok-id.ensures.sound;
  grows = and_further c.args.world.now c.loop-left.world c.put_item.new.world
      c.loop-left.invariant.grows c.in_ok-id.ensures.grows;
}
