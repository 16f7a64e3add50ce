use Rattle.std.proofs.Common.{false, take}
use Rattle.cd_graph.specs.Nodes.{nodes}
use Rattle.cd_model.specs.AllOf.{AllOf}
use Rattle.cd_elements.specs.Elements.{table}
use Rattle.cd_elements.specs.Table.{element_at, result_at}
use Rattle.cd_facts.specs.Facts.{AreRight}
use Rattle.cd_members.specs.Held.{breaks}
use Rattle.cd_members.proofs.arrow.place_of.Given as goal

-- the pair breaks none of those before
abbrev pub invariant-loop-place : goal.invariant-loop-place
invariant-loop-place l =
    AllOf (λ arrow. breaks (nodes l.graph) (element_at (table l.elements) l.from) (result_at (table l.elements) l.to) arrow false)
    (take l.place l.left)
    × AreRight (nodes l.graph) (table l.elements) l.facts
