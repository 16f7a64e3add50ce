-- What stands on the stack derives what was read.
use Rattle.std.proofs.Common.{◌≡◌, ℕ, suc, List, [], ◌∷◌, ◌++◌, length, refl, sym, subst, append_assoc, append-nil}
use Rattle.cd_lr.specs.Grammar.{Symbol, Nonterminal, Grammar, Derives, made, Row, nothing, next, within}
use Rattle.cd_lr.specs.Automaton.{Reduce, Automaton, Cell, popped, state_of, room_of, pushed}
use Rattle.cd_lr.specs.Valid.{both, Items, Goes, Leads, IsSafe}

module _ {Token Value : Type 0} (g : Grammar Token Value) (m : Automaton) (Has : Items)
    (rank : (state p : ℕ) → List Symbol → ℕ) (safe : IsSafe g m Has rank) (most : ℕ) where
  pub data Stands : List (Cell Value) → List Token → Type 0 where
    bottom : Stands [] []
    above : (stack : List (Cell Value)) (tokens read : List Token) (x : Symbol) (state : ℕ) (v : Value)
        → Stands stack tokens → Leads m Has (state_of stack) x state → Derives g (room_of most stack) x read v
        → Stands (record { state = state; room = within g (room_of most stack) x; value = v } ∷ stack) (tokens ++ read)

  -- the parts of a rule that stand on the stack
  pub record Popped (p : ℕ) (all : List Symbol) (tokens : List Token)
      (found : List Value × List (Cell Value)) : Type 0 where
    pub prefix : List Token
    pub back : List Token
    pub same : tokens ≡ prefix ++ back
    pub stands : Stands found.1 prefix
    pub row : Row g (room_of most found.1) all back found.0
    pub terminal : ℕ
    pub has : Has (state_of found.1) p [] all terminal

  pub pops : (before after : List Symbol) (p a : ℕ) (stack : List (Cell Value)) (tokens : List Token)
      → Stands stack tokens → Has (state_of stack) p before after a
      → (more : List Token) (values : List Value) → Row g (room_of most stack) after more values
      → Popped p (both before after) (tokens ++ more) (popped (length before) values stack)
  pops [] after p a stack tokens stands has more values row =
      record { prefix = tokens; back = more; same = refl; stands = stands; row = row; terminal = a; has = has }
  pops (x ∷ before) after p a _ _ bottom has more values row = absurd (safe.first_state p x before after a has)
  pops (x ∷ before) after p a _ _ (above stack tokens read y state v stands leads is) has more values row =
      let was = safe.back (state_of stack) state p x y before after a leads has in
      let same : y ≡ x = sym was.0 in
      subst (λ all. Popped p (both before (x ∷ after)) all (popped (length before) (v ∷ values) stack))
      (sym (append_assoc tokens read more))
      (pops before (x ∷ after) p was.1 stack tokens stands was.2 (read ++ more) (v ∷ values)
      (next (room_of most stack) x after read more v values
      (subst (λ z. Derives g (room_of most stack) z read v) same is)
      (subst (λ z. Row g (within g (room_of most stack) z) after more values) same row)))

  -- at a state where a rule can begin, its left side can come
  pub wanted : (s p q : ℕ) → p ≡ suc q → (after : List Symbol) (a : ℕ) → Has s p [] after a
      → Goes Has s (Nonterminal (g.left p))
  wanted s p q is after a has =
      let (r, before, rest, b, up, less) = safe.parent s q after a (subst (λ n. Has s n [] after a) is has) in
      (r, before, rest, b, subst (λ n. Has s r before (Nonterminal (g.left n) ∷ rest) b) (sym is) up)

  -- what a rule's parts make
  pub reduce_stands : (p a : ℕ) (stack : List (Cell Value)) (tokens : List Token) → Stands stack tokens
      → m.action (state_of stack) a ≡ Reduce p
      → Stands (pushed g m most p (popped (length (g.right p)) [] stack)) tokens
  reduce_stands p a stack tokens stands is =
      let found = safe.reduce_has (state_of stack) p a is in
      let q = found.0 in
      let before = found.2 in
      let has = found.4 in
      let shape = safe.shape (state_of stack) p before [] found.3 has in
      let out : Popped p (both before []) (tokens ++ []) (popped (length before) [] stack) =
      pops before [] p found.3 stack tokens stands has [] [] (nothing (room_of most stack)) in
      with_parts p q found.1 (popped (length (g.right p)) [] stack) tokens
      (subst (λ all. Popped p all tokens (popped (length (g.right p)) [] stack)) (sym shape)
      (subst (λ n. Popped p (both before []) tokens (popped n [] stack)) (sym found.5)
      (subst (λ all. Popped p (both before []) all (popped (length before) [] stack)) (append-nil tokens) out)))
    where
      with_parts : (p q : ℕ) → p ≡ suc q → (found : List Value × List (Cell Value)) (tokens : List Token)
          → Popped p (g.right p) tokens found → Stands (pushed g m most p found) tokens
      with_parts p q is found tokens parts =
          let goes = wanted (state_of found.1) p q is (g.right p) parts.terminal parts.has in
          subst (Stands (pushed g m most p found)) (sym parts.same)
          (above found.1 parts.prefix parts.back (Nonterminal (g.left p)) (m.goto (state_of found.1) (g.left p))
          (g.build p found.0) parts.stands (refl, goes) (made (room_of most found.1) p parts.back found.0 parts.row))
