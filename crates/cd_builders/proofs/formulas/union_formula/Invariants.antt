use Rattle.std.proofs.Common.{map, take}
use Rattle.std.specs.List.{AllZip}
use Rattle.cd_graph.specs.Nodes.{nodes}
use Rattle.cd_graph.specs.PlainFormula.{plain}
use Rattle.cd_builders.specs.Inner.Members.{IsMember}
use Rattle.cd_builders.proofs.formulas.union_formula.Given as goal

-- the members so far are the formulas of the first questions
abbrev pub invariant-loop-question : goal.invariant-loop-question
invariant-loop-question l = AllZip (IsMember (nodes l.graph))
    (take l.question-index l.questions) (map plain l.members.items)
