use Rattle.std.proofs.Common.{◌≡◌, ◌++◌, map, drop}
use Rattle.cd_shared.specs.Equation.{plain_equations}
use Rattle.cd_resolve.specs.Inner.Links.{links}
use Rattle.cd_resolve.proofs.links.links.Given as goal

-- the rows so far and those of the equations that are left are all
abbrev pub invariant-loop-equation : goal.invariant-loop-equation
invariant-loop-equation l = (map (λ row. row.items) l.rows.items
    ++ links l.first (plain_equations (drop l.equation-index l.equations)))
    ≡ links l.first (plain_equations l.equations)
