-- Each step of a run makes the measure of its configuration smaller, so the run ends.
use Rattle.std.specs.Prelude.{◌≡◌, ◌<◌, ◌≤◌, ℕ, List}
use Rattle.cd_lr.specs.Grammar.{Symbol, Terminal, Nonterminal, Grammar}
use Rattle.cd_lr.specs.Automaton.{Automaton, Config, On, step, begin, Reaches}
use Rattle.cd_lr.specs.Valid.{Items, Leads, IsSafe}
use Rattle.cd_lr.specs.Weights.{sums, left_over}
use Rattle.cd_lr.proofs.Sound.{stood}
use Rattle.cd_lr.proofs.Measure.{step_less}

module _ {Token Value : Type 0} (g : Grammar Token Value) (m : Automaton) (Has : Items)
    (rank : (state p : ℕ) → List Symbol → ℕ) (safe : IsSafe g m Has rank) (most : ℕ)
    (W : Symbol → ℕ) (weight : ℕ → ℕ) (top : ℕ)
    (weighs : (s : ℕ) (x : Symbol) (next : ℕ) → Leads m Has s x next → weight next ≡ W x)
    (light : (w k : ℕ) → W (Terminal w k) ≤ top)
    (falls : (q : ℕ) → W (Nonterminal (g.left q)) < sums W (g.right q)) where
  pub ends : (tokens : List Token) (c d : Config Token Value) → Reaches g m most (begin g m most tokens) c
      → step g m most c ≡ On d → left_over weight top d < left_over weight top c
  ends tokens c d comes is =
      let right = stood g m Has rank safe most tokens c comes in
      step_less g m Has rank safe most W weight top weighs light falls c.stack c.rest right.read d right.stands is
