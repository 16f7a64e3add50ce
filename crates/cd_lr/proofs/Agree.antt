-- Machines that do the same.
use Rattle.std.proofs.Common.{◌≡◌, ◌-◌, ℕ, List, [], ◌∷◌, length, refl, sym, ap, ap₂, ◌∙◌}
use Rattle.std.specs.Prelude.{Bool, true, false}
use Rattle.cd_lr.specs.Grammar.{Grammar, fits}
use Rattle.cd_lr.specs.Automaton.{Action, Shift, Reduce, Accept, Refuse, Automaton, Cell, Config, On, popped, state_of, room_of, look, pushed, shifted, done, act, step, Reaches, here, on}

-- on what tokens can look like, and on the rules that are read
pub record Agree {Token Value : Type 0} (g h : Grammar Token Value) (m n : Automaton) : Type 0 where
  pub values : (t : Token) → g.value t ≡ h.value t
  pub frees : (t : Token) → g.free t ≡ h.free t
  pub actions : (s most : ℕ) (rest : List Token) → m.action s (look g m most rest) ≡ n.action s (look h n most rest)
  pub lengths : (s k p : ℕ) → n.action s k ≡ Reduce p → length (g.right p) ≡ length (h.right p)
  pub gotos : (s k p at : ℕ) → n.action s k ≡ Reduce p → m.goto at (g.left p) ≡ n.goto at (h.left p)
  pub builds : (s k p : ℕ) (vs : List Value) → n.action s k ≡ Reduce p → g.build p vs ≡ h.build p vs

module _ {Token Value : Type 0} (g h : Grammar Token Value) (m n : Automaton) (agree : Agree g h m n) (most : ℕ) where
  same_shift : (fit : Bool) (opens state : ℕ) (t : Token) (stack : List (Cell Value)) (rest : List Token)
      → shifted g m most fit opens state t stack rest ≡ shifted h n most fit opens state t stack rest
  same_shift true opens state t stack rest =
      ap (λ v. On record { stack = cell v ∷ stack; rest = rest }) (agree.values t)
    where
      cell : Value → Cell Value
      cell v = record { state = state; room = room_of most stack - opens; value = v }
  same_shift false opens state t stack rest = refl

  same_done : (stack : List (Cell Value)) → done g m most stack ≡ done h n most stack
  same_done [] = refl
  same_done (cell ∷ []) = refl
  same_done (cell ∷ other ∷ stack) = refl

  same_act : (s k : ℕ) (action : Action) (stack : List (Cell Value)) (rest : List Token) → n.action s k ≡ action
      → act g m most action stack rest ≡ act h n most action stack rest
  same_act s k (Shift opens state) stack [] is = refl
  same_act s k (Shift opens state) stack (t ∷ rest) is =
      ap (λ free. shifted g m most (fits free opens (room_of most stack)) opens state t stack rest) (agree.frees t)
      ∙ same_shift (fits (h.free t) opens (room_of most stack)) opens state t stack rest
  same_act s k (Reduce p) stack rest is =
      ap (λ l. On record { stack = pushed g m most p (popped l [] stack); rest = rest }) (agree.lengths s k p is)
      ∙ from (popped (length (h.right p)) [] stack)
    where
      from : (found : List Value × List (Cell Value))
          → On record { stack = pushed g m most p found; rest = rest }
          ≡ On record { stack = pushed h n most p found; rest = rest }
      from found =
          ap₂ (λ s v. On record { stack = cell s v ∷ found.1; rest = rest }) (agree.gotos s k p (state_of found.1) is)
          (agree.builds s k p found.0 is)
        where
          cell : (state : ℕ) → Value → Cell Value
          cell s v = record { state = s; room = room_of most found.1; value = v }
  same_act s k Accept stack rest is = same_done stack
  same_act s k Refuse stack rest is = refl

  pub same_step : (c : Config Token Value) → step g m most c ≡ step h n most c
  same_step c =
      ap (λ action. act g m most action c.stack c.rest) (agree.actions (state_of c.stack) most c.rest)
      ∙ same_act (state_of c.stack) (look h n most c.rest) (n.action (state_of c.stack) (look h n most c.rest))
      c.stack c.rest refl

  pub same_runs : (c d : Config Token Value) → Reaches g m most c d → Reaches h n most c d
  same_runs _ _ (here c) = here c
  same_runs _ d (on c e d' is more) = on c e d (sym (same_step c) ∙ is) (same_runs e d more)
