-- The arrows that stand in formulas, each once, in the order in which they are met.
use Rattle.std.specs.Prelude.{Bool, ◌==◌, ◌&&◌, List, [], ◌∷◌, ◌++◌, if◌then◌else◌}
use Rattle.std.specs.List.{list_any}
use Rattle.cd_model.specs.Formula.{Formula, Formulas, NoFormula, AFormula, Arrow, And, Or, Not}
use Rattle.cd_closures.specs.declared.arrow.NodeArrow.{NodeArrow}

abbrev pub same_arrow : (one other : NodeArrow) → Bool
same_arrow one other = one.argument.0 == other.argument.0 && one.result.0 == other.result.0

abbrev pub with_arrow : List NodeArrow → NodeArrow → List NodeArrow
with_arrow arrows one =
    if list_any (same_arrow one) arrows then arrows else arrows ++ one ∷ []

-- these arrows, and then those of a formula, by itself or under connectives
abbrev mutual
  pub with_arrows : List NodeArrow → Formula → List NodeArrow
  with_arrows arrows (Arrow argument result) =
      with_arrow arrows (record { argument = argument; result = result })
  with_arrows arrows (And formulas) = with_all arrows formulas
  with_arrows arrows (Or formulas) = with_all arrows formulas
  with_arrows arrows (Not is) = with_arrows arrows is
  with_arrows arrows is = arrows

  pub with_all : List NodeArrow → Formulas → List NodeArrow
  with_all arrows NoFormula = arrows
  with_all arrows (AFormula is rest) = with_all (with_arrows arrows is) rest

-- and of some nodes
abbrev pub with_nodes : List NodeArrow → List Formula → List NodeArrow
with_nodes arrows [] = arrows
with_nodes arrows (is ∷ rest) = with_nodes (with_arrows arrows is) rest
