-- What is read is derived.
use Rattle.std.proofs.Common.{◌≡◌, ℕ, zero, List, [], ◌∷◌, ◌++◌, refl, sym, ap, subst, ◌∙◌, append_assoc, append-nil}
use Rattle.std.specs.Prelude.{true, false, Bool}
use Rattle.cd_lr.specs.Grammar.{Symbol, Terminal, Nonterminal, Grammar, fits, Derives, one, Whole}
use Rattle.cd_lr.specs.Automaton.{Action, Shift, Reduce, Accept, Refuse, Automaton, Cell, Config, Next, On, Done, state_of, room_of, look, shifted, shift, done, act, step, begin, Reaches, here, on}
use Rattle.cd_lr.specs.Valid.{Items, IsSafe}
use Rattle.cd_lr.proofs.Standing.{Stands, bottom, above, reduce_stands}

module _ {Token Value : Type 0} (g : Grammar Token Value) (m : Automaton) (Has : Items)
    (rank : (state p : ℕ) → List Symbol → ℕ) (safe : IsSafe g m Has rank) (most : ℕ) where
  -- what was read of the tokens stands on the stack
  pub record Right (tokens : List Token) (c : Config Token Value) : Type 0 where
    pub read : List Token
    pub all : tokens ≡ read ++ c.rest
    pub stands : Stands g m Has rank safe most c.stack read

  abbrev Keeps : List Token → Next Token Value → Type 0
  Keeps tokens (On c) = Right tokens c
  Keeps tokens _ = Unit {0}

  on_shift : (opens state : ℕ) (t : Token) (stack : List (Cell Value)) (rest read tokens : List Token) (fit : Bool)
      → fits (g.free t) opens (room_of most stack) ≡ fit → m.action (state_of stack) (g.kind t) ≡ Shift opens state
      → tokens ≡ read ++ t ∷ rest → Stands g m Has rank safe most stack read
      → Keeps tokens (shifted g m most fit opens state t stack rest)
  on_shift opens state t stack rest read tokens true fit is all stands =
      record {
        read = read ++ t ∷ [];
        all = all ∙ sym (append_assoc read (t ∷ []) rest);
        stands = above stack read (t ∷ []) (Terminal opens (g.kind t)) state (g.value t) stands
            (is, safe.shift_goes (state_of stack) opens (g.kind t) state is) (one (room_of most stack) opens t fit);
      }
  on_shift opens state t stack rest read tokens false fit is all stands = tt

  on_shifts : (opens state : ℕ) (stack : List (Cell Value)) (rest read tokens : List Token)
      → m.action (state_of stack) (look g m most rest) ≡ Shift opens state → tokens ≡ read ++ rest
      → Stands g m Has rank safe most stack read → Keeps tokens (shift g m most opens state stack rest)
  on_shifts opens state stack [] read tokens is all stands = tt
  on_shifts opens state stack (t ∷ rest) read tokens is all stands =
      on_shift opens state t stack rest read tokens (fits (g.free t) opens (room_of most stack)) refl is all stands

  on_done : (stack : List (Cell Value)) (tokens : List Token) → Keeps tokens (done g m most stack)
  on_done [] tokens = tt
  on_done (cell ∷ []) tokens = tt
  on_done (cell ∷ other ∷ stack) tokens = tt

  on_act : (action : Action) (stack : List (Cell Value)) (rest read tokens : List Token)
      → m.action (state_of stack) (look g m most rest) ≡ action → tokens ≡ read ++ rest
      → Stands g m Has rank safe most stack read → Keeps tokens (act g m most action stack rest)
  on_act (Shift opens state) stack rest read tokens is all stands =
      on_shifts opens state stack rest read tokens is all stands
  on_act (Reduce p) stack rest read tokens is all stands =
      record {
        read = read;
        all = all;
        stands = reduce_stands g m Has rank safe most p (look g m most rest) stack read stands is;
      }
  on_act Accept stack rest read tokens is all stands = on_done stack tokens
  on_act Refuse stack rest read tokens is all stands = tt

  pub kept : (tokens : List Token) (c d : Config Token Value) → Right tokens c → Reaches g m most c d → Right tokens d
  kept tokens _ _ right (here c) = right
  kept tokens _ e right (on c d e' is more) =
      kept tokens d e
      (subst (Keeps tokens) is
      (on_act (m.action (state_of c.stack) (look g m most c.rest)) c.stack c.rest right.read tokens refl right.all
      right.stands)) more

  pub at_begin : (tokens : List Token) → Right tokens (begin g m most tokens)
  at_begin tokens = record { read = []; all = refl; stands = bottom }

  -- so it is wherever the machine comes
  pub stood : (tokens : List Token) (c : Config Token Value) → Reaches g m most (begin g m most tokens) c
      → Right tokens c
  stood tokens c comes = kept tokens (begin g m most tokens) c (at_begin tokens) comes

  no_more : (rest : List Token) → look g m most rest ≡ m.finish → rest ≡ []
  no_more [] is = refl
  no_more (t ∷ rest) is = absurd (safe.not_finish t is)

  one_cell : (cell : Cell Value) (read : List Token) → Stands g m Has rank safe most (cell ∷ []) read
      → (a : ℕ) → Has cell.state zero (Nonterminal g.start ∷ []) [] a → Whole g most read cell.value
  one_cell _ _ (above _ _ read x state v bottom leads is) a has =
      let was = safe.back zero state zero (Nonterminal g.start) x [] [] a leads has in
      subst (λ z. Derives g most z read v) (sym was.0) is

  ends_done : (stack : List (Cell Value)) (read : List Token) (v : Value) → Stands g m Has rank safe most stack read
      → (a : ℕ) → Has (state_of stack) zero (Nonterminal g.start ∷ []) [] a → done g m most stack ≡ Done v
      → Whole g most read v
  ends_done [] read v stands a has is = absurd cc
  ends_done (cell ∷ []) read v stands a has is =
      let same : cell.value ≡ v = cc in subst (Whole g most read) same (one_cell cell read stands a has)
  ends_done (cell ∷ other ∷ stack) read v stands a has is = absurd cc

  ends_act : (action : Action) (stack : List (Cell Value)) (rest read tokens : List Token) (v : Value)
      → m.action (state_of stack) (look g m most rest) ≡ action → tokens ≡ read ++ rest
      → Stands g m Has rank safe most stack read → act g m most action stack rest ≡ Done v → Whole g most tokens v
  ends_act (Shift opens state) stack [] read tokens v was all stands is = absurd cc
  ends_act (Shift opens state) stack (t ∷ rest) read tokens v was all stands is =
      absurd (not_done (fits (g.free t) opens (room_of most stack)) is)
    where
      not_done : (fit : Bool) → shifted g m most fit opens state t stack rest ≡ Done v → ⊥
      not_done true is = cc
      not_done false is = cc
  ends_act (Reduce p) stack rest read tokens v was all stands is = absurd cc
  ends_act Accept stack rest read tokens v was all stands is =
      let found = safe.accept_has (state_of stack) (look g m most rest) was in
      let same : tokens ≡ read = all ∙ ap (λ r. read ++ r) (no_more rest found.0) ∙ append-nil read in
      subst (λ t. Whole g most t v) (sym same) (ends_done stack read v stands found.1 found.2 is)
  ends_act Refuse stack rest read tokens v was all stands is = absurd cc

  -- what is read is derived
  pub sound : (tokens : List Token) (c : Config Token Value) (v : Value) → Reaches g m most (begin g m most tokens) c
      → step g m most c ≡ Done v → Whole g most tokens v
  sound tokens c v comes is =
      let right = stood tokens c comes in
      ends_act (m.action (state_of c.stack) (look g m most c.rest)) c.stack c.rest right.read tokens v refl right.all
      right.stands is
