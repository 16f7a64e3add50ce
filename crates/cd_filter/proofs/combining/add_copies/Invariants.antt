use Rattle.std.proofs.Common.{◌≡◌, ◌++◌, map, drop}
use Rattle.cd_graph.specs.PlainFormula.{plain}
use Rattle.cd_filter.proofs.combining.add_copies.Given as goal

-- the formulas so far and those that are left are all
abbrev pub invariant-loop-other : goal.invariant-loop-other
invariant-loop-other l = (map plain l.formulas.items ++ map plain (drop l.other-index l.others))
    ≡ (map plain l.fn.formulas.items ++ map plain l.others)
