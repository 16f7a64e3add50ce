use Rattle.std.proofs.Common.{◌≡◌, ◌++◌, map, drop}
use Rattle.cd_graph.specs.PlainFormula.{plain}
use Rattle.cd_filter.specs.Inner.Forming.{row_formula}
use Rattle.cd_filter.proofs.rows.formulas.Given as goal

-- the formulas so far and those of the rows that are left are all
abbrev pub invariant-loop-row : goal.invariant-loop-row
invariant-loop-row l =
    (map plain l.all.items ++ map row_formula (drop l.row-index l.rows)) ≡ map row_formula l.rows
