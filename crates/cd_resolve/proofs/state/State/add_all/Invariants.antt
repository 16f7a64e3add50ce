use Rattle.std.proofs.Common.{◌≡◌, ◌++◌, map, Some}
use Rattle.cd_graph.specs.PlainFormula.{plain}
use Rattle.cd_shared.specs.Equation.{Is, plain_equations}
use Rattle.cd_resolve.proofs.state.State.add_all.Given as goal

-- those that are there, and then those that are left, are all
abbrev pub invariant-loop-formula : goal.invariant-loop-formula
invariant-loop-formula l = plain_equations l.self.equations.items
    ++ map (λ formula. Some (Is formula)) (map plain l.formula-iterator.rest.items)
    ≡ plain_equations l.fn.self.equations.items ++ map (λ formula. Some (Is formula)) (map plain l.fn.formulas.items)
