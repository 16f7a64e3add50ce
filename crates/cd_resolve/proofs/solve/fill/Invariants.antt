use Rattle.std.proofs.Common.{◌≡◌, map, drop, length}
use Rattle.cd_graph.specs.Nodes.{nodes}
use Rattle.cd_graph.specs.PlainFormula.{plain}
use Rattle.cd_shared.specs.Equation.{plain_equations}
use Rattle.cd_resolve.specs.Inner.Filling.{filled}
use Rattle.cd_resolve.proofs.solve.fill.Given as goal

-- what is left of the order fills these formulas up to those that the whole makes
abbrev pub invariant-loop-number : goal.invariant-loop-number
invariant-loop-number l = record {
  length : length l.formulas.items ≡ length l.equations;
  same : filled (nodes l.old) l.first (plain_equations l.equations) (drop l.number-index l.order)
      (map plain l.formulas.items)
      ≡ filled (nodes l.old) l.first (plain_equations l.equations) l.order (map plain l.fn.formulas.items);
}
