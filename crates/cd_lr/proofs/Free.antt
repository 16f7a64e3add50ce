-- Lists of free tokens.
use Rattle.std.proofs.Common.{List, [], ◌∷◌, ◌++◌}
use Rattle.cd_lr.specs.Grammar.{Grammar, AreFree}

module _ {Token Value : Type 0} (g : Grammar Token Value) where
  pub both_free : (a b : List Token) → AreFree g a → AreFree g b → AreFree g (a ++ b)
  both_free [] b free others = others
  both_free (t ∷ a) b free others = (free.0, both_free a b free.1 others)

  pub later_free : (a b : List Token) → AreFree g (a ++ b) → AreFree g b
  later_free [] b free = free
  later_free (t ∷ a) b free = later_free a b free.1
