use Rattle.std.proofs.Common.{◌≡◌, ◌∷◌, ◌++◌, ◌^◌, [], length}
use Rattle.cd_graph.specs.Nodes.{nodes}
use Rattle.cd_elements.specs.Elements.{table}
use Rattle.cd_facts.specs.Facts.{AreRight, Grows}
use Rattle.cd_facts.proofs.Waiting.{Fall, asked_first, steps_left}
use Rattle.cd_facts.proofs.search.find_out.Given as goal

-- each waits for the next, the first is the one that was asked, what is known is right, and it only grew
abbrev pub invariant-loop-answer : goal.invariant-loop-answer
invariant-loop-answer l =
    Fall l.facts (length (nodes l.graph)) (length (table l.elements)) (l.waiting.items ++ l.current ∷ [])
    × (asked_first l.waiting.items l.current ≡ l.fn.asked) × AreRight (nodes l.graph) (table l.elements) l.facts
    × Grows l.fn.facts l.facts

abbrev pub decreases-loop-answer : goal.decreases-loop-answer
decreases-loop-answer l = steps_left (2 ^ 63) (length (table l.elements)) (length l.facts) l.current.id.0
