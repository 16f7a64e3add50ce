use Rattle.std.proofs.Common.{◌-◌, ◌^◌, map, length, take}
use Rattle.std.specs.List.{AllZip}
use Rattle.cd_graph.specs.Nodes.{nodes}
use Rattle.cd_graph.specs.PlainFormula.{plain}
use Rattle.cd_products.specs.Keeping.{IsFormulaOfQuestion}
use Rattle.cd_forms.proofs.of_sequences.question_formulas.question_formulas.Given as goal

-- the formulas so far are those of the first questions
abbrev pub invariant-loop-question : goal.invariant-loop-question
invariant-loop-question l = AllZip (IsFormulaOfQuestion (nodes l.graph))
    (take (length (map plain l.formulas.items)) l.questions) (map plain l.formulas.items)

abbrev pub decreases-loop-question : goal.decreases-loop-question
decreases-loop-question l = 2 ^ 64 - length l.formulas.items
