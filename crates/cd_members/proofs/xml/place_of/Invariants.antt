use Rattle.std.proofs.Common.{false, take}
use Rattle.cd_graph.specs.Nodes.{nodes}
use Rattle.cd_model.specs.AllOf.{AllOf}
use Rattle.cd_elements.specs.Elements.{table}
use Rattle.cd_elements.specs.Table.{element_at}
use Rattle.cd_facts.specs.Facts.{AreRight}
use Rattle.cd_members.specs.Held.{xml_in}
use Rattle.cd_members.proofs.xml.place_of.Given as goal

-- the XML element is in none of those before
abbrev pub invariant-loop-place : goal.invariant-loop-place
invariant-loop-place l =
    AllOf (λ parts. xml_in (nodes l.graph) (element_at (table l.elements) l.tag) (element_at (table l.elements) l.attributes)
    (element_at (table l.elements) l.content) parts false) (take l.place l.left)
    × AreRight (nodes l.graph) (table l.elements) l.facts
