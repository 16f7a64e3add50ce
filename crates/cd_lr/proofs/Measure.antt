-- Each step makes the measure of a configuration smaller.
use Rattle.std.proofs.Common.{◌≡◌, ◌+◌, ◌-◌, ◌*◌, ℕ, suc, List, [], ◌∷◌, length, sym, ap, subst, ◌∙◌, refl, arith}
use Rattle.std.specs.Prelude.{◌<◌, ◌≤◌, Bool, true, false}
use Rattle.cd_lr.specs.Grammar.{Symbol, Terminal, Nonterminal, Grammar, fits, nothing}
use Rattle.cd_lr.specs.Automaton.{Action, Shift, Reduce, Accept, Refuse, Automaton, Cell, Config, On, popped, state_of, room_of, look, pushed, shifted, shift, done, act, step}
use Rattle.cd_lr.specs.Valid.{both, Items, Leads, IsSafe}
use Rattle.cd_lr.specs.Weights.{sums, load, left_over}
use Rattle.cd_lr.proofs.Standing.{Stands, bottom, above, pops, wanted}

sums_both : (W : Symbol → ℕ) (before after : List Symbol) → sums W (both before after) ≡ sums W before + sums W after
sums_both W [] after = grind (arith)
sums_both W (x ∷ before) after = sums_both W before (x ∷ after) ∙ grind (arith)

module _ {Token Value : Type 0} (g : Grammar Token Value) (m : Automaton) (Has : Items)
    (rank : (state p : ℕ) → List Symbol → ℕ) (safe : IsSafe g m Has rank) (most : ℕ)
    (W : Symbol → ℕ) (weight : ℕ → ℕ) (top : ℕ)
    (weighs : (s : ℕ) (x : Symbol) (next : ℕ) → Leads m Has s x next → weight next ≡ W x)
    (light : (w k : ℕ) → W (Terminal w k) ≤ top)
    (falls : (q : ℕ) → W (Nonterminal (g.left q)) < sums W (g.right q)) where
  popped_load : (before after : List Symbol) (p a : ℕ) (stack : List (Cell Value)) (tokens : List Token)
      → Stands g m Has rank safe most stack tokens → Has (state_of stack) p before after a → (values : List Value)
      → load weight stack ≡ sums W before + load weight (popped (length before) values stack).1
  popped_load [] after p a stack tokens stands has values = grind (arith)
  popped_load (x ∷ before) after p a _ _ bottom has values = absurd (safe.first_state p x before after a has)
  popped_load (x ∷ before) after p a _ _ (above stack tokens read y state v stands leads is) has values =
      let was = safe.back (state_of stack) state p x y before after a leads has in
      let one : weight state ≡ W x = weighs (state_of stack) y state leads ∙ ap W (sym was.0) in
      let more = popped_load before (x ∷ after) p was.1 stack tokens stands was.2 (v ∷ values) in
      by (weight state) (W x) (load weight stack) (sums W before)
      (load weight (popped (length before) (v ∷ values) stack).1) one more
    where
      by : (a b c d e : ℕ) → a ≡ b → c ≡ d + e → a + c ≡ (b + d) + e
      by a b c d e is so = omega (arith, is, so)

  reduce_less : (p a : ℕ) (stack : List (Cell Value)) (tokens : List Token) → Stands g m Has rank safe most stack tokens
      → m.action (state_of stack) a ≡ Reduce p
      → load weight (pushed g m most p (popped (length (g.right p)) [] stack)) < load weight stack
  reduce_less p a stack tokens stands is =
      let (q, number, before, b, has, long) = safe.reduce_has (state_of stack) p a is in
      let shape : g.right p ≡ both before [] = safe.shape (state_of stack) p before [] b has in
      let below = (popped (length before) [] stack).1 in
      let all : load weight stack ≡ sums W before + load weight below =
      popped_load before [] p b stack tokens stands has [] in
      let empty = nothing (room_of most stack) in
      let out = pops g m Has rank safe most before [] p b stack tokens stands has [] [] empty in
      let goes = wanted g m Has rank safe most (state_of below) p q number (both before []) out.terminal out.has in
      let new : weight (m.goto (state_of below) (g.left p)) ≡ W (Nonterminal (g.left p)) =
      weighs (state_of below) (Nonterminal (g.left p)) (m.goto (state_of below) (g.left p)) (refl, goes) in
      let less : W (Nonterminal (g.left p)) < sums W (g.right p) = falls p in
      let whole : sums W (g.right p) ≡ sums W before + 0 = ap (sums W) shape ∙ sums_both W before [] in
      subst (λ n. load weight (pushed g m most p (popped n [] stack)) < load weight stack) (sym long)
      (by (weight (m.goto (state_of below) (g.left p))) (load weight below) (W (Nonterminal (g.left p)))
      (sums W (g.right p)) (sums W before) (load weight stack) new less whole all)
    where
      by : (a b c d e f : ℕ) → a ≡ c → c < d → d ≡ e + 0 → f ≡ e + b → a + b < f
      by a b c d e f new less whole all = omega (arith, new, less, whole, all)

  shift_less : (fit : Bool) (opens next : ℕ) (token : Token) (stack : List (Cell Value)) (rest : List Token)
      (d : Config Token Value) → m.action (state_of stack) (g.kind token) ≡ Shift opens next
      → shifted g m most fit opens next token stack rest ≡ On d
      → left_over weight top d < left_over weight top (record { stack = stack; rest = token ∷ rest })
  shift_less false opens next token stack rest d is so = absurd cc
  shift_less true opens next token stack rest d is so =
      let cell : Cell Value = record { state = next; room = room_of most stack - opens; value = g.value token } in
      let same : record { stack = cell ∷ stack; rest = rest } ≡ d = cc in
      let one : weight next ≡ W (Terminal opens (g.kind token)) =
      weighs (state_of stack) (Terminal opens (g.kind token)) next
      (is, safe.shift_goes (state_of stack) opens (g.kind token) next is) in
      let small = light opens (g.kind token) in
      subst (λ e. left_over weight top e < left_over weight top (record { stack = stack; rest = token ∷ rest })) same
      (by (weight next) (load weight stack) (length rest) (W (Terminal opens (g.kind token))) top one small)
    where
      by : (a b c d top : ℕ) → a ≡ d → d ≤ top → (a + b) + c * suc top < b + suc c * suc top
      by a b c d top is so =
          let whole : suc c * suc top ≡ suc top + c * suc top = grind (arith) in
          omega (arith, is, so, whole)

  pub step_less : (stack : List (Cell Value)) (rest read : List Token) (d : Config Token Value)
      → Stands g m Has rank safe most stack read → step g m most (record { stack = stack; rest = rest }) ≡ On d
      → left_over weight top d < left_over weight top (record { stack = stack; rest = rest })
  step_less stack rest read d stands is = by (m.action (state_of stack) (look g m most rest)) refl is
    where
      shifts : (opens next : ℕ) (rest : List Token) → m.action (state_of stack) (look g m most rest) ≡ Shift opens next
          → shift g m most opens next stack rest ≡ On d
          → left_over weight top d < left_over weight top (record { stack = stack; rest = rest })
      shifts opens next [] is so = absurd cc
      shifts opens next (token ∷ rest) is so =
          shift_less (fits (g.free token) opens (room_of most stack)) opens next token stack rest d is so

      ends : (stack : List (Cell Value)) → done g m most stack ≡ On d → ⊥
      ends [] so = cc
      ends (cell ∷ []) so = cc
      ends (cell ∷ other ∷ more) so = cc

      by : (action : Action) → m.action (state_of stack) (look g m most rest) ≡ action
          → act g m most action stack rest ≡ On d
          → left_over weight top d < left_over weight top (record { stack = stack; rest = rest })
      by (Shift opens next) is so = shifts opens next rest is so
      by (Reduce p) is so =
          let parts = popped (length (g.right p)) [] stack in
          let same : record { stack = pushed g m most p parts; rest = rest } ≡ d = cc in
          let less = reduce_less p (look g m most rest) stack read stands is in
          subst (λ e. left_over weight top e < left_over weight top (record { stack = stack; rest = rest })) same
          (omega (arith, less))
      by Accept is so = absurd (ends stack so)
      by Refuse is so = absurd cc
