use Rattle.std.proofs.Common.{◌≡◌, ◌++◌, map, drop}
use Rattle.cd_graph.specs.PlainFormula.{plain}
use Rattle.cd_filter.specs.Inner.Forming.{formula_in}
use Rattle.cd_filter.proofs.rows.formulas_in.Given as goal

-- the formulas so far and those of the numbers that are left are all
abbrev pub invariant-loop-number : goal.invariant-loop-number
invariant-loop-number l =
    (map plain l.all.items ++ map (formula_in l.rows) (drop l.number-index l.numbers))
    ≡ map (formula_in l.rows) l.numbers
