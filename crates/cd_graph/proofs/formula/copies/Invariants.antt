use Rattle.std.proofs.Common.{◌≡◌, ◌++◌, map, drop}
use Rattle.cd_graph.specs.PlainFormula.{plain}
use Rattle.cd_graph.proofs.formula.copies.Given as goal

-- the copies so far and the formulas that are left are all of them
abbrev pub invariant-loop-formula : goal.invariant-loop-formula
invariant-loop-formula l =
    (map plain l.items.items ++ map plain (drop l.formula-index l.formulas)) ≡ map plain l.formulas
