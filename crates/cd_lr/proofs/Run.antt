-- What a computed run says.
use Rattle.std.proofs.Common.{◌≡◌, ◌∙◌, ℕ, zero, suc, refl}
use Rattle.cd_lr.specs.Grammar.{Grammar}
use Rattle.cd_lr.specs.Automaton.{Automaton, Config, Next, On, Done, Wrong, TooDeep, step, Reaches, here, on}
use Rattle.cd_lr.specs.Running.{run, then}

module _ {Token Value : Type 0} (g : Grammar Token Value) (m : Automaton) (most : ℕ) where
  abbrev pub Stops : Config Token Value → Next Token Value → Type 0
  Stops c next = (d : Config Token Value) × Reaches g m most c d × (step g m most d ≡ next)

  -- a run of so many steps that did not end goes on
  abbrev IsEnd : Next Token Value → Type 0
  IsEnd (On c) = ⊥
  IsEnd _ = Unit {0}

  pub by_run : (n : ℕ) (c : Config Token Value) (next : Next Token Value) → IsEnd next → run g m most n c ≡ next
      → Stops c next
  by_run zero c next end is = (c, here c, is)
  by_run (suc n) c next end is = by (step g m most c) refl is (λ d so. by_run n d next end so)
    where
      by : (one : Next Token Value) → step g m most c ≡ one → then g m most one (λ d. run g m most n d) ≡ next
          → ((d : Config Token Value) → run g m most n d ≡ next → Stops d next) → Stops c next
      by (On d) was is later = let found = later d is in (found.0, on c d found.0 was found.1, found.2)
      by (Done v) was is later = (c, here c, was ∙ is)
      by Wrong was is later = (c, here c, was ∙ is)
      by TooDeep was is later = (c, here c, was ∙ is)
