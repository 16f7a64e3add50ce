use Rattle.std.specs.Prelude.{unwrap_or, slice_get}
use Rattle.std.proofs.Common.{◌≡◌, List, [], map, subst}
use Rattle.cd_sets.specs.declared.node_id.NodeId.{NodeId}
use Rattle.cd_asking.specs.Inner.Asked.{AddsOnly, Grow}
use Rattle.cd_asking.proofs.Kept.{adds_grow}
use Rattle.cd_asking.proofs.Numbered.{found_at, stored_at, set_added, numbered}
use Rattle.cd_asking.proofs.node_sets.NodeSets.number.Goals as goal

pub returns-in-Some-clause-found : goal.returns-in-Some-clause-found
returns-in-Some-clause-found c =
    numbered _ c.small.result c.args.ids.now c.in-Some.number c.small.ensures
    (subst (λ (sets : List (List NodeId)). unwrap_or (slice_get sets c.in-Some.number) [] ≡ c.args.ids.now) c.self.view_is
    (found_at (λ set. set.items) c.self.inside.sets.keys c.args.ids.now c.in-Some.number c.in-Some.ensures.index))

pub returns-clause-found : goal.returns-clause-found
returns-clause-found c =
    numbered _ c.small-2.result c.args.ids.now c.in_ok-number.number c.small-2.ensures
    (stored_at (λ set. set.items) c.insert_full.new.self.keys c.in_ok-owned.owned c.args.ids.now c.in_ok-number.number
    c.in_ok-owned.ensures.items c.in_ok-number.ensures.stored)

pub returns-clause-adds : goal.returns-clause-adds
returns-clause-adds c =
    let put = c.insert_full.ensures in
    let adds = set_added (λ set. set.items) c.insert_full.result c.self.inside.sets.keys c.insert_full.new.self.keys c.in_ok-owned.owned put.keys put.err in
    subst (λ (sets : List (List NodeId)). AddsOnly c.args.ids.now sets (map (λ set. set.items) c.insert_full.new.self.keys)) c.self.view_is
    (subst (λ (set : List NodeId). AddsOnly set (map (λ set. set.items) c.self.inside.sets.keys) (map (λ set. set.items) c.insert_full.new.self.keys))
    c.in_ok-owned.ensures.items adds)

pub returns-clause-grows : goal.returns-clause-grows
returns-clause-grows c =
    let put = c.insert_full.ensures in
    subst (λ (sets : List (List NodeId)). Grow sets (map (λ set. set.items) c.insert_full.new.self.keys)) c.self.view_is
    (adds_grow _ _ _ (set_added (λ set. set.items) c.insert_full.result c.self.inside.sets.keys c.insert_full.new.self.keys c.in_ok-owned.owned put.keys put.err))
