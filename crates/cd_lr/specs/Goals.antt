-- Grammars with goals: the first token of a text is a goal, which says what the text is read as.
use Rattle.std.specs.Prelude.{◌<◌, ℕ, zero, suc, Bool, false, List, [], ◌∷◌, length}
use Rattle.std.specs.Prelude.{nat_eq, nat_lt}
use Rattle.cd_lr.specs.Grammar.{Symbol, Terminal, Nonterminal}
use Rattle.cd_lr.specs.Tables.{Tables, Rule, rule, choose, also, not, all, every, head_is}

-- The goals are the terminals from `first_goal` on, and `text` is the nonterminal of texts.
module _ (t : Tables) (first_goal text : ℕ) where
  -- a symbol is no goal, not the nonterminal of texts, and not the left side of rule 0
  abbrev pub plain : Symbol → Bool
  plain (Terminal opens k) = nat_lt k first_goal
  plain (Nonterminal n) = also (not (nat_eq n text)) (not (nat_eq n t.whole))

  -- a goal stands first, and plain symbols after it
  abbrev pub goal_and_plain : List Symbol → Bool
  goal_and_plain [] = false
  goal_and_plain (Terminal opens k ∷ rest) = also (not (nat_lt k first_goal)) (all plain rest)
  goal_and_plain (Nonterminal n ∷ rest) = false

  -- Rule 0 reads a text. A rule of texts reads a goal and then plain symbols. Any other rule reads
  -- plain symbols, and its left side is not that of rule 0.
  abbrev pub goal_fits : (p : ℕ) → Rule → Bool
  goal_fits zero (rule l right) =
      also (nat_eq l t.whole) (also (head_is (Nonterminal text) right) (nat_eq (length right) 1))
  goal_fits (suc p) (rule l right) =
      choose (nat_eq l text) (goal_and_plain right)
      (also (not (nat_eq l t.whole)) (all plain right))

  -- the start symbol is the nonterminal of texts, not the left side of rule 0, and each rule fits
  abbrev pub goals_fit : Bool
  goals_fit =
      also (nat_eq t.start text) (also (not (nat_eq text t.whole)) (every goal_fits t.rules))

-- no token has a goal as its terminal
abbrev pub ArePlain : {Token : Type 0} → (kind : Token → ℕ) → (first_goal : ℕ) → List Token → Type 0
ArePlain kind first_goal [] = Unit {0}
ArePlain kind first_goal (t ∷ rest) = (kind t < first_goal) × ArePlain kind first_goal rest
