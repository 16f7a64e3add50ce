use Rattle.cd_graph.specs.Nodes.{nodes}
use Rattle.cd_model.specs.AllOf.{AllOf}
use Rattle.cd_elements.specs.Elements.{table}
use Rattle.cd_elements.specs.Table.{element_at}
use Rattle.cd_facts.specs.Facts.{AreRight}
use Rattle.cd_members.specs.Held.{IsSoAt, pair_in}
use Rattle.cd_members.proofs.pair.places_in.Given as goal

-- each place so far is of a pair of nodes that the pair is in
abbrev pub invariant-loop-place : goal.invariant-loop-place
invariant-loop-place l =
    AllOf (IsSoAt (pair_in (nodes l.graph) (element_at (table l.elements) l.first) (element_at (table l.elements) l.second)) l.left)
    l.places.items
    × AreRight (nodes l.graph) (table l.elements) l.facts
