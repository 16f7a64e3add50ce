use Rattle.std.proofs.Common.{map, take}
use Rattle.std.specs.List.{AllZip}
use Rattle.cd_graph.specs.Nodes.{nodes}
use Rattle.cd_graph.specs.PlainFormula.{plain}
use Rattle.cd_records.specs.Inner.Plain.{plain_questions, plain_said}
use Rattle.cd_records.specs.Inner.Standing.{Adds, HoldsOther}
use Rattle.cd_records.proofs.rest_formulas.others_of.Given as goal

-- the formulas so far are those of the first questions
abbrev pub invariant-loop-question : goal.invariant-loop-question
invariant-loop-question l = record {
  holding : AllZip (HoldsOther (nodes l.graph) (map plain l.batch.items) (map plain_said l.said))
      (plain_questions (take l.question-index l.left)) (map plain l.others.items);
  adds : Adds (nodes l.graph) (map plain l.fn.batch.items) (map plain l.batch.items);
}
