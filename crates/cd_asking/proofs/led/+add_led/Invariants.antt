use Rattle.std.proofs.Common.{ℕ, List, map, drop}
use Rattle.cd_sets.specs.declared.node_id.NodeId.{NodeId}
use Rattle.cd_model.specs.Formula.{formulas_of, AreFormulas}
use Rattle.cd_graph.specs.PlainFormula.{plain, plain_formulas}
use Rattle.cd_graph.proofs.Sizes.{size, size_list}
use Rattle.cd_asking.specs.Inner.Tasks.{AskIn, Includes, HoldsBelow}
use Rattle.cd_asking.specs.Inner.Asked.{child_by}
use Rattle.cd_asking.proofs.led.+add_led.Given as goal

abbrev pub decreases-add_led : goal.decreases-add_led
decreases-add_led l = size (plain l.formula.now)

abbrev pub decreases-add_all_led : goal.decreases-add_all_led
decreases-add_all_led l = size_list (plain_formulas l.formulas.now)

-- a set with these and with those of the formulas that are left has all; it only grew, and by nodes
-- of the graph
abbrev pub invariant-add_all_led-loop-formula : goal.invariant-add_all_led-loop-formula
invariant-add_all_led-loop-formula l =
    ((final : List NodeId) → Includes l.next final
    → AskIn (child_by l.label l.child) final (formulas_of (map plain (drop l.formula-index l.formula-items)))
    → AskIn (child_by l.label l.child) final (plain_formulas l.formulas))
    × Includes l.fn.next l.next
    × ((bound : ℕ) → AreFormulas bound (plain_formulas l.formulas) → HoldsBelow bound l.fn.next → HoldsBelow bound l.next)
