-- What was made of expressions so far, and what is left.
use Rattle.std.proofs.Common.{◌≡◌, ℕ, ◌+◌, ◌++◌, List, map}
use Rattle.cd_model.specs.Formula.{Formula}
use Rattle.cd_regex.specs.Regular.{Regulars, items_in_all}
use Rattle.cd_regex.specs.Automaton.{Follow, states_in_turn, states_of_one, state_formula}

-- what was made, and what is to be made of the expressions that are left, are all, and the items are those of all
pub record AreLeft {X : Type 0} (made_of : Regulars → ℕ → List X) (all rest : Regulars) (before at : ℕ) (old now : List X) : Type 0 where
  pub made : (now ++ made_of rest at) ≡ (old ++ made_of all before)
  pub items : at + items_in_all rest ≡ before + items_in_all all

abbrev pub formulas_in_turn : Follow → Regulars → ℕ → List Formula
formulas_in_turn follow all before = map state_formula (states_in_turn all before follow)

abbrev pub formulas_of_one : Follow → Regulars → ℕ → List Formula
formulas_of_one follow all before = map state_formula (states_of_one all before follow)
