use Rattle.std.proofs.Common.{◌≡◌, ◌∷◌, [], List, map, length, Some, refl, sym, subst}
use Rattle.std.proofs.Common.{◌∙◌, ap, ℕ, Vec, Global}
use Rattle.std.proofs.lemmas.List.{length-map, map-append}
use Rattle.std.proofs.lemmas.Option.{slice_get-map}
use Rattle.std.specs.List.{slice_get}
use Rattle.std.specs.Option.{option_map}
use Rattle.std.specs.Vec.{vec_len}
use Rattle.cd_model.specs.Formula.{Graph}
use Rattle.cd_matching.specs.PlainKernel.{plain_kernel}
use Rattle.cd_empty.specs.Seen.{graph_of}
use Rattle.cd_empty.proofs.GrowingWorlds.{to_itself, and_further}
use Rattle.cd_filter.specs.Accepting.{place_of, IsAcceptedFrom}
use Rattle.cd_filter.specs.Table.{first_place}
use Rattle.cd_explored.specs.Inner.Exploring.{AreSettling, IsExploring}
use Rattle.cd_explored.specs.Inner.NodeSteps.{IsInRange}
use Rattle.cd_explored.specs.Inner.PlainSteps.{plain_place, plain_places}
use Rattle.cd_explored.specs.declared.step.Step.{Step as CodeStep}
use Rattle.cd_explored.proofs.FirstPlace.{first_is_place}
use Rattle.cd_explored.proofs.PlacesExplored.{explored_start, explored_place, explored_more, explored_all}
use Rattle.cd_explored.proofs.explore.explore.Goals as goal
use Rattle.cd_explored.proofs.explore.explore.Goals.{In_ok-place, In_ok-push}

pub loop-place-init : goal.loop-place-init
loop-place-init c =
    let graph = graph_of c.args.world.now in
    let kernel = plain_kernel c.args.base.now.kernel.now in
    let first = c.args.base.now.first in
    let root = first_place kernel c.args.matched (place_of kernel.nodes first) in record {
      explores = subst (λ (codes : List (List CodeStep)).
          IsExploring graph kernel first root (plain_places c.number.new.self) codes)
          (sym (ap (map (λ steps. steps.items)) c.new-steps.ensures.items))
          (explored_start graph kernel first c.requires.accepted root
          (first_is_place graph kernel first c.requires.accepted c.args.matched
          c.requires.matched)
          c.new-places.result c.number.new.self c.in_ok-number.field-0
          c.in_ok-root_place.field-0 c.new-places.ensures c.in_ok-number.ensures.found
          c.in_ok-number.ensures.grows c.in_ok-root_place.ensures);
      graph = refl;
      grows = to_itself c.args.world.now;
    }

-- how many lists of steps there are
counted : (steps : Vec (Vec CodeStep Global) Global) (count : ℕ) → count ≡ vec_len steps
    → length (map (λ steps. steps.items) steps.items) ≡ count
counted steps count same =
    length-map steps.items (λ steps. steps.items) ∙ sym (same ∙ steps.ok.0)

-- the next place has the number of the steps so far
there : (c : In_ok-place) → slice_get (plain_places c.loop-place.places)
    (length (map (λ steps. steps.items) c.loop-place.steps.items))
    ≡ Some (plain_place c.in_ok-place.place)
there c = ap (slice_get (plain_places c.loop-place.places))
    (counted c.loop-place.steps c.len.result c.len.ensures)
    ∙ slice_get-map plain_place c.loop-place.places c.len.result
    ∙ ap (option_map plain_place) (sym c.in-Some.ensures ∙ ap Some (sym c.in_ok-place.ensures))

pub settle-requires-clause-accepted : goal.settle-requires-clause-accepted
settle-requires-clause-accepted c =
    let kernel = plain_kernel c.args.base.now.kernel.now in
    subst (λ (graph : Graph). IsAcceptedFrom graph kernel c.args.base.now.first)
    (sym c.loop-place.invariant.graph) c.requires.accepted

pub settle-requires-clause-place : goal.settle-requires-clause-place
settle-requires-clause-place c =
    let graph = graph_of c.args.world.now in
    let kernel = plain_kernel c.args.base.now.kernel.now in
    let first = c.args.base.now.first in
    let place = plain_place c.in_ok-place.place in
    let root = first_place kernel c.args.matched (place_of kernel.nodes first) in
    subst (λ (graph : Graph). IsInRange (length graph) (length kernel.nodes) place)
    (sym c.loop-place.invariant.graph)
    (explored_place graph kernel first c.requires.accepted root (plain_places c.loop-place.places)
    (map (λ steps. steps.items) c.loop-place.steps.items) place c.loop-place.invariant.explores
    (there (goal.at.settle-requires-clause-place c).In_ok-place))

-- one place more is settled
abbrev Goes : In_ok-push → Type 0
Goes c =
    let kernel = plain_kernel c.args.base.now.kernel.now in
    let first = c.args.base.now.first in
    IsExploring (graph_of c.args.world.now) kernel first
    (first_place kernel c.args.matched (place_of kernel.nodes first))
    (plain_places c.settle.new.places) (map (λ steps. steps.items) c.push.new.self.items)

goes_on : (c : In_ok-push) → Goes c
goes_on c =
    let graph = graph_of c.args.world.now in
    let kernel = plain_kernel c.args.base.now.kernel.now in
    let first = c.args.base.now.first in
    let root = first_place kernel c.args.matched (place_of kernel.nodes first) in
    let codes = map (λ steps. steps.items) c.loop-place.steps.items in
    let steps = c.in_ok-settle.field-0.items in
    let settled = c.in_ok-settle.ensures.steps in
    let place = plain_place c.in_ok-place.place in
    subst (λ (codes : List (List CodeStep)).
    IsExploring graph kernel first root (plain_places c.settle.new.places) codes)
    (sym (ap (map (λ steps. steps.items)) c.in_ok-push.ensures.items
    ∙ map-append (λ steps. steps.items) c.loop-place.steps.items (c.in_ok-settle.field-0 ∷ [])))
    (explored_more graph kernel first c.requires.accepted root (plain_places c.loop-place.places)
    (plain_places c.settle.new.places) codes place steps settled.0
    c.loop-place.invariant.explores
    (there (goal.at.In_ok-push c).In_ok-place) settled.1
    (subst (λ (graph : Graph). AreSettling graph kernel first place settled.0)
    c.loop-place.invariant.graph settled.2))

pub loop-place-preserved-in_ok-push : goal.loop-place-preserved-in_ok-push
loop-place-preserved-in_ok-push c = record {
  explores = goes_on (goal.at.loop-place-preserved-in_ok-push c).In_ok-push;
  graph = c.in_ok-settle.ensures.graph ∙ c.loop-place.invariant.graph;
  grows = and_further c.args.world.now c.loop-place.world c.settle.new.world
      c.loop-place.invariant.grows c.in_ok-settle.ensures.grows;
}

pub loop-place-preserved : goal.loop-place-preserved
loop-place-preserved c = record {
  explores = goes_on (goal.at.loop-place-preserved c).In_ok-push;
  graph = c.in_ok-settle.ensures.graph ∙ c.loop-place.invariant.graph;
  grows = and_further c.args.world.now c.loop-place.world c.settle.new.world
      c.loop-place.invariant.grows c.in_ok-settle.ensures.grows;
}

pub returns-clause-explored : goal.returns-clause-explored
returns-clause-explored c =
    let graph = graph_of c.args.world.now in
    let kernel = plain_kernel c.args.base.now.kernel.now in
    let first = c.args.base.now.first in
    let root = first_place kernel c.args.matched (place_of kernel.nodes first) in
    explored_all graph kernel first c.requires.accepted root (plain_places c.loop-place.places)
    (map (λ steps. steps.items) c.loop-place.steps.items) c.loop-place.invariant.explores
    (ap (slice_get (plain_places c.loop-place.places))
    (counted c.loop-place.steps c.len.result c.len.ensures)
    ∙ slice_get-map plain_place c.loop-place.places c.len.result
    ∙ ap (option_map plain_place) (sym c.in_default.ensures))

pub returns-clause-first : goal.returns-clause-first
returns-clause-first c = c.loop-place.invariant.explores.rooted
