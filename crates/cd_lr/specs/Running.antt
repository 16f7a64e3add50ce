-- Runs of an automaton, computed.
use Rattle.std.specs.Prelude.{ℕ, zero, suc}
use Rattle.cd_lr.specs.Grammar.{Grammar}
use Rattle.cd_lr.specs.Automaton.{Automaton, Config, Next, On, step}

module _ {Token Value : Type 0} (g : Grammar Token Value) (m : Automaton) (most : ℕ) where
  -- what follows a step, where it leads to a further configuration
  abbrev pub then : Next Token Value → (Config Token Value → Next Token Value) → Next Token Value
  then (On c) more = more c
  then other more = other

  -- what the last step gives, of at most n + 1 steps
  abbrev pub run : ℕ → Config Token Value → Next Token Value
  run zero c = step g m most c
  run (suc n) c = then (step g m most c) (λ d. run n d)
