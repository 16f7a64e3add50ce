use Rattle.std.proofs.Common.{◌-◌, ◌^◌, length}
use Rattle.cd_graph.specs.Nodes.{nodes}
use Rattle.cd_elements.specs.Elements.{table}
use Rattle.cd_facts.specs.Facts.{AreRight, Grows}
use Rattle.cd_facts.proofs.facts.Facts.is_in_type.Given as goal

-- what is known is right, and it only grew
abbrev pub invariant-loop-answer : goal.invariant-loop-answer
invariant-loop-answer l = AreRight (nodes l.graph) (table l.elements) l.self × Grows l.fn.self l.self

-- each round adds a fact, of which there are at most so many
abbrev pub decreases-loop-answer : goal.decreases-loop-answer
decreases-loop-answer l = 2 ^ 63 - length l.self
