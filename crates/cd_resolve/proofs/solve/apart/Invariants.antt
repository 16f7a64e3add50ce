use Rattle.std.proofs.Common.{◌≡◌, ◌++◌, map, length}
use Rattle.std.specs.Vec.Iter.{into_iter_items, into_iter_len}
use Rattle.cd_graph.specs.PlainFormula.{plain}
use Rattle.cd_shared.specs.Equation.{plain_equations}
use Rattle.cd_resolve.specs.Inner.Filling.{at_once, left}
use Rattle.cd_resolve.proofs.solve.apart.Given as goal

-- the formulas and the equations so far, and those of what is left, are all
abbrev pub invariant-loop-equation : goal.invariant-loop-equation
invariant-loop-equation l = record {
  rest : into_iter_len l.equation-iterator ≡ length (into_iter_items l.equation-iterator);
  formulas : map plain l.formulas.items ++ map at_once (plain_equations (into_iter_items l.equation-iterator))
      ≡ map at_once (plain_equations l.fn.equations.items);
  others : plain_equations l.others.items ++ map left (plain_equations (into_iter_items l.equation-iterator))
      ≡ map left (plain_equations l.fn.equations.items);
}
