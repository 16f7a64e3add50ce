-- The built-in nodes are nodes of each graph that begins with them.
use Rattle.std.proofs.Common.{◌≡◌, ◌<◌, ◌≤◌, ◌++◌, length, sym, subst, arith}
use Rattle.std.proofs.lemmas.List.{length-append}
use Rattle.cd_model.specs.BuiltIns.{built_ins, EMPTY}
use Rattle.cd_model.specs.Formula.{Graph}

module _ (graph more : Graph) (begins : graph ≡ built_ins ++ more) where
  pub at_least : 14 ≤ length graph
  at_least = subst (λ (graph : Graph). 14 ≤ length graph) (sym begins)
      (omega (arith, length-append built_ins more))

  pub empty_below : EMPTY.0 < length graph
  empty_below = let enough = at_least in omega arith
