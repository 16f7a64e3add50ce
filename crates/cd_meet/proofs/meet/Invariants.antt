use Rattle.std.proofs.Common.{◌≡◌, ◌++◌, map, drop}
use Rattle.cd_graph.specs.PlainFormula.{plain}
use Rattle.cd_meet.specs.Meets.{arrow_formula, arrow_formulas}
use Rattle.cd_meet.proofs.meet.Given as goal

-- the formulas so far, and those of the arrows that are left, are all
abbrev pub invariant-loop-argument : goal.invariant-loop-argument
invariant-loop-argument l = map plain l.formulas.items ++ map arrow_formula (drop l.argument-index l.arrows) ≡ arrow_formulas l.arrows
