-- The measure of a configuration, which each step makes smaller where the weights fit.
use Rattle.std.specs.Prelude.{ℕ, zero, suc, ◌+◌, ◌*◌, List, [], ◌∷◌, length}
use Rattle.cd_lr.specs.Grammar.{Symbol}
use Rattle.cd_lr.specs.Automaton.{Cell, Config}

-- the weights of symbols, together
abbrev pub sums : (Symbol → ℕ) → List Symbol → ℕ
sums W [] = zero
sums W (x ∷ rest) = W x + sums W rest

-- the weights of the states on a stack, together
abbrev pub load : {Value : Type 0} → (ℕ → ℕ) → List (Cell Value) → ℕ
load weight [] = zero
load weight (cell ∷ stack) = weight cell.state + load weight stack

-- the stack by its states, and for each token that is left one more than the weight of any terminal
abbrev pub left_over : {Token Value : Type 0} → (weight : ℕ → ℕ) → (top : ℕ)
    → Config Token Value → ℕ
left_over weight top c = load weight c.stack + length c.rest * suc top
