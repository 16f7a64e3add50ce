-- What is derived is read.
use Rattle.std.proofs.Common.{◌≡◌, ◌-◌, ℕ, zero, suc, List, [], ◌∷◌, ◌++◌, length, refl, sym, ap, subst, ◌∙◌, append_assoc, append-nil}
use Rattle.std.specs.Prelude.{true}
use Rattle.cd_lr.specs.Grammar.{Symbol, Nonterminal, Grammar, fits, Derives, one, made, Row, nothing, next, within, Whole}
use Rattle.cd_lr.specs.Automaton.{Action, Shift, Reduce, Automaton, Cell, Config, On, Done, popped, state_of, room_of, look, pushed, shifted, act, step, begin, Reaches, here, on}
use Rattle.cd_lr.specs.Valid.{Items, Firsts, FirstOf, IsComplete}

module _ {Token Value : Type 0} (g : Grammar Token Value) (m : Automaton) (Has : Items) (First : Firsts)
    (full : IsComplete g m Has First) (most : ℕ) where
  pub joined : (c d e : Config Token Value) → Reaches g m most c d → Reaches g m most d e → Reaches g m most c e
  joined _ d e (here c) more = more
  joined _ _ e (on c d f is rest) more = on c d e is (joined d f e rest more)

  -- what derives begins with what it may begin with
  mutual
    begins : (depth : ℕ) (x : Symbol) (read : List Token) (v : Value) → Derives g depth x read v → (rest : List Token)
        → First x (look g m most (read ++ rest))
    begins _ _ _ _ (one depth opens t fit) rest = full.first_token opens (g.kind t)
    begins _ _ _ _ (made depth p tokens values row) rest = row_begins p depth (g.right p) tokens values row refl rest

    row_begins : (p depth : ℕ) (xs : List Symbol) (tokens : List Token) (values : List Value)
        → Row g depth xs tokens values → g.right p ≡ xs → (rest : List Token)
        → First (Nonterminal (g.left p)) (look g m most (tokens ++ rest))
    row_begins p _ _ _ _ (nothing depth) same rest = absurd (full.not_empty p same)
    row_begins p _ _ _ _ (next depth x after a b v vs is row) same rest =
        full.first_rule p (look g m most ((a ++ b) ++ rest)) x after same
        (subst (λ all. First x (look g m most all)) (sym (append_assoc a b rest)) (begins depth x a v is (b ++ rest)))

  first_of : (depth : ℕ) (xs : List Symbol) (tokens : List Token) (values : List Value) → Row g depth xs tokens values
      → (rest : List Token) → FirstOf First xs (look g m most rest) (look g m most (tokens ++ rest))
  first_of _ _ _ _ (nothing depth) rest = refl
  first_of _ _ _ _ (next depth x after a b v vs is row) rest =
      subst (λ all. First x (look g m most all)) (sym (append_assoc a b rest)) (begins depth x a v is (b ++ rest))

  -- one more is popped
  popped_more : (n : ℕ) (values : List Value) (stack : List (Cell Value)) (all : List Value) (cell : Cell Value)
      (below : List (Cell Value)) → popped n values stack ≡ (all, cell ∷ below)
      → popped (suc n) values stack ≡ (cell.value ∷ all, below)
  popped_more zero values stack all cell below same = ap (λ found. popped 1 found.0 found.1) same
  popped_more (suc n) values [] all cell below same = absurd (no_cons (ap (λ found. found.1) same))
    where
      no_cons : [] ≡ cell ∷ below → ⊥
      no_cons same = cc
  popped_more (suc n) values (first ∷ stack) all cell below same =
      popped_more n (first.value ∷ values) stack all cell below same

  pub record Came (depth : ℕ) (x : Symbol) (tokens : List Token) (v : Value) (stack : List (Cell Value))
      (rest : List Token) (p : ℕ) (before after : List Symbol) (a : ℕ) : Type 0 where
    pub state : ℕ
    pub has : Has state p (x ∷ before) after a
    pub comes : Reaches g m most record { stack = stack; rest = tokens ++ rest }
        record { stack = record { state = state; room = within g depth x; value = v } ∷ stack; rest = rest }

  pub record AllCame (depth : ℕ) (xs : List Symbol) (tokens : List Token) (values : List Value)
      (stack : List (Cell Value)) (rest : List Token) (p : ℕ) (before : List Symbol) : Type 0 where
    pub end : List (Cell Value)
    pub read : List Symbol
    pub has : Has (state_of end) p read [] (look g m most rest)
    pub comes : Reaches g m most record { stack = stack; rest = tokens ++ rest } record { stack = end; rest = rest }
    pub pops : (others : List Value) → popped (length xs) others end ≡ (values ++ others, stack)

  by_token_step : (opens to : ℕ) (stack : List (Cell Value)) (t : Token) (rest : List Token) (action : Action)
      → action ≡ Shift opens to → fits (g.free t) opens (room_of most stack) ≡ true
      → act g m most action stack (t ∷ rest)
      ≡ On record {
        stack = record { state = to; room = room_of most stack - opens; value = g.value t } ∷ stack;
        rest = rest;
      }
  by_token_step opens to stack t rest action shifts fit =
      ap (λ one. act g m most one stack (t ∷ rest)) shifts ∙ ap (λ one. shifted g m most one opens to t stack rest) fit

  reduce_step : (q : ℕ) (end stack : List (Cell Value)) (rest : List Token) (values : List Value)
      → m.action (state_of end) (look g m most rest) ≡ Reduce q
      → popped (length (g.right q)) [] end ≡ (values, stack)
      → step g m most record { stack = end; rest = rest }
      ≡ On record { stack = pushed g m most q (values, stack); rest = rest }
  reduce_step q end stack rest values is same =
      ap (λ action. act g m most action end rest) is
      ∙ ap (λ found. On record { stack = pushed g m most q found; rest = rest }) same

  must_reduce : (s q r : ℕ) (before : List Symbol) (a : ℕ) → q ≡ suc r → Has s q before [] a → m.action s a ≡ Reduce q
  must_reduce s q r before a same has =
      subst (λ n. m.action s a ≡ Reduce n) (sym same)
      (full.reduced s r before a (subst (λ n. Has s n before [] a) same has))

  mutual
    came : (depth : ℕ) (x : Symbol) (tokens : List Token) (v : Value) → Derives g depth x tokens v
        → (stack : List (Cell Value)) (rest : List Token) (p : ℕ) (before after : List Symbol) (a : ℕ)
        → room_of most stack ≡ depth → Has (state_of stack) p before (x ∷ after) a
        → FirstOf First after a (look g m most rest) → Came depth x tokens v stack rest p before after a
    came _ _ _ _ (one depth opens t fit) stack rest p before after a room has first =
        let to = full.by_token (state_of stack) p opens (g.kind t) before after a has in
        record {
          state = to.0;
          has = to.2;
          comes = subst (λ r. Reaches g m most record { stack = stack; rest = t ∷ rest }
              record { stack = record { state = to.0; room = r - opens; value = g.value t } ∷ stack; rest = rest }) room
              (on record { stack = stack; rest = t ∷ rest } _ _
              (by_token_step opens to.0 stack t rest (m.action (state_of stack) (g.kind t)) to.1
              (subst (λ r. fits (g.free t) opens r ≡ true) (sym room) fit)) (here _));
        }
    came _ _ _ _ (made depth q tokens values row) stack rest p before after a room has first =
        let inner = full.closed (state_of stack) p q before after a (look g m most rest) has first in
        let all = all_came depth (g.right q) tokens values row stack rest q [] room inner in
        let number = full.not_whole (state_of stack) p q before after a has in
        let to = m.goto (state_of stack) (g.left q) in
        record {
          state = to;
          has = full.by_rule (state_of stack) p (g.left q) before after a has;
          comes = subst (λ r. Reaches g m most record { stack = stack; rest = tokens ++ rest }
              record { stack = record { state = to; room = r; value = g.build q values } ∷ stack; rest = rest }) room
              (joined _ _ _ all.comes (on _ _ _ (reduce_step q all.end stack rest values
              (must_reduce (state_of all.end) q number.0 all.read (look g m most rest) number.1 all.has)
              (all.pops [] ∙ ap (λ found. (found, stack)) (append-nil values))) (here _)));
        }

    all_came : (depth : ℕ) (xs : List Symbol) (tokens : List Token) (values : List Value) → Row g depth xs tokens values
        → (stack : List (Cell Value)) (rest : List Token) (p : ℕ) (before : List Symbol) → room_of most stack ≡ depth
        → Has (state_of stack) p before xs (look g m most rest) → AllCame depth xs tokens values stack rest p before
    all_came _ _ _ _ (nothing depth) stack rest p before room has =
        record { end = stack; read = before; has = has; comes = here _; pops = λ others. refl }
    all_came _ _ _ _ (next depth x after a b v vs is row) stack rest p before room has =
        let first = came depth x a v is stack (b ++ rest) p before after (look g m most rest) room has
        (first_of (within g depth x) after b vs row rest) in
        let cell : Cell Value = record { state = first.state; room = within g depth x; value = v } in
        let more = all_came (within g depth x) after b vs row (cell ∷ stack) rest p (x ∷ before) refl first.has in
        record {
          end = more.end;
          read = more.read;
          has = more.has;
          comes = subst
              (λ all. Reaches g m most record { stack = stack; rest = all } record { stack = more.end; rest = rest })
              (sym (append_assoc a b rest)) (joined _ _ _ first.comes more.comes);
          pops = λ others. popped_more (length after) others more.end (vs ++ others) cell stack (more.pops others);
        }

  -- what the tokens write as a whole is read
  pub record Read (tokens : List Token) (v : Value) : Type 0 where
    pub end : Config Token Value
    pub comes : Reaches g m most (begin g m most tokens) end
    pub ends : step g m most end ≡ Done v

  pub complete : (tokens : List Token) (v : Value) → Whole g most tokens v → Read tokens v
  complete tokens v is =
      let all = came most (Nonterminal g.start) tokens v is [] [] zero [] [] m.finish refl full.start_here refl in
      let top : Cell Value = record { state = all.state; room = most; value = v } in
      record {
        end = record { stack = top ∷ []; rest = [] };
        comes = subst (λ t. Reaches g m most (begin g m most t) record { stack = top ∷ []; rest = [] })
            (append-nil tokens) all.comes;
        ends = ap (λ action. act g m most action (top ∷ []) [])
            (full.accepted all.state (Nonterminal g.start ∷ []) all.has);
      }
