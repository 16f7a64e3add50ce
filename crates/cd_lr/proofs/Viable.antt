-- What stands on the stack can be ended by free tokens.
use Rattle.std.proofs.Common.{◌≡◌, ℕ, zero, suc, List, [], ◌∷◌, ◌++◌, sym, ap, subst, ◌∙◌, append_assoc, append-nil, arith}
use Rattle.std.specs.Prelude.{◌<◌}
use Rattle.cd_lr.specs.Grammar.{Symbol, Terminal, Nonterminal, Grammar, Derives, made, Row, nothing, next, within, AreFree}
use Rattle.cd_lr.specs.Automaton.{Automaton, Cell, state_of, room_of}
use Rattle.cd_lr.specs.Valid.{Items, Goes, Leads, IsSafe}
use Rattle.cd_lr.specs.Reading.{Begin}
use Rattle.cd_lr.proofs.Free.{both_free, later_free}
use Rattle.cd_lr.proofs.Standing.{Stands, bottom, above}

module _ {Token Value : Type 0} (g : Grammar Token Value) where
  -- free tokens that derive a row
  pub record Ending (depth : ℕ) (xs : List Symbol) : Type 0 where
    pub tokens : List Token
    pub values : List Value
    pub free : AreFree g tokens
    pub row : Row g depth xs tokens values

  pub without_first : (depth : ℕ) (x : Symbol) (xs : List Symbol) (tokens : List Token) (values : List Value)
      → AreFree g tokens → Row g depth (x ∷ xs) tokens values → Ending (within g depth x) xs
  without_first _ _ _ _ _ free (next depth x xs a b v vs is row) =
      record { tokens = b; values = vs; free = later_free g a b free; row = row }

  pub only_one : (depth : ℕ) (x : Symbol) (tokens : List Token) (values : List Value)
      → Row g depth (x ∷ []) tokens values → (v : Value) × Derives g depth x tokens v
  only_one _ _ _ _ (next depth x _ a _ v _ is (nothing _)) =
      (v, subst (λ all. Derives g depth x all v) (sym (append-nil a)) is)

module _ {Token Value : Type 0} (g : Grammar Token Value) (m : Automaton) (Has : Items)
    (rank : (state p : ℕ) → List Symbol → ℕ) (safe : IsSafe g m Has rank) (most : ℕ) where
  -- the tokens begin a whole that is at most so deep
  abbrev Begun : List Token → Type 0
  Begun tokens = Begin g most most tokens

  -- with a row of such parts the tokens begin a whole
  abbrev EndsBy : (room : ℕ) → List Symbol → List Token → Type 0
  EndsBy room xs tokens = (more : List Token) (values : List Value) → Row g room xs more values → Begun (tokens ++ more)

  -- so it is with the parts that any item at a state still wants
  abbrev GoesOn : (state room : ℕ) → List Token → Type 0
  GoesOn state room tokens =
      (p : ℕ) (before after : List Symbol) (a : ℕ) → Has state p before after a → EndsBy room after tokens

  abbrev FromKernel : (state room : ℕ) → List Token → Type 0
  FromKernel state room tokens =
      (p : ℕ) (y : Symbol) (before after : List Symbol) (a : ℕ) → Has state p (y ∷ before) after a
      → EndsBy room after tokens

  abbrev FromStart : (state room : ℕ) → List Token → Type 0
  FromStart state room tokens = (after : List Symbol) (a : ℕ) → Has state zero [] after a → EndsBy room after tokens

  longer : (tokens more others : List Token) → AreFree g others → Begun (tokens ++ (more ++ others))
      → Begun (tokens ++ more)
  longer tokens more others free (rest, v, freed, is) =
      let same : (tokens ++ (more ++ others)) ++ rest ≡ (tokens ++ more) ++ (others ++ rest) =
      ap (λ all. all ++ rest) (sym (append_assoc tokens more others)) ∙ append_assoc (tokens ++ more) others rest in
      let whole = subst (λ all. Derives g most (Nonterminal g.start) all v) same is in
      (others ++ rest, v, both_free g others rest free freed, whole)

  -- one part that an item wants is enough, since free tokens derive the others
  by_one : (state room : ℕ) (tokens : List Token) (p : ℕ) (before : List Symbol) (x : Symbol) (after : List Symbol)
      (a : ℕ) → Has state p before (x ∷ after) a → EndsBy room (x ∷ after) tokens
      → (read : List Token) (v : Value) → Derives g room x read v → Begun (tokens ++ read)
  by_one state room tokens p before x after a has ends read v is =
      let any = safe.productive state p before (x ∷ after) a has in
      let others = without_first g room x after any.0 any.1 any.2 (any.3 room) in
      longer tokens read others.tokens others.free
      (ends (read ++ others.tokens) (v ∷ others.values)
      (next room x after read others.tokens v others.values is others.row))

  -- an item with no part read stands for the item that wants its left side, which has a smaller rank
  by_parent : (state room : ℕ) (tokens : List Token) → FromKernel state room tokens
      → (p : ℕ) (after : List Symbol) (a : ℕ) → Has state (suc p) [] after a
      → ((q : ℕ) (others : List Symbol) (b : ℕ) → rank state q [] < rank state (suc p) [] → Has state q [] others b
      → EndsBy room others tokens)
      → EndsBy room after tokens
  by_parent state room tokens kernel p after a has again more values row =
      let (q, before, rest, b, up, less) = safe.parent state p after a has in
      let shape : g.right (suc p) ≡ after = safe.shape state (suc p) [] after a has in
      by_one state room tokens q before (Nonterminal (g.left (suc p))) rest b up
      (from q before (Nonterminal (g.left (suc p)) ∷ rest) b less up) more (g.build (suc p) values)
      (made room (suc p) more values (subst (λ xs. Row g room xs more values) (sym shape) row))
    where
      from : (q : ℕ) (before others : List Symbol) (b : ℕ) → rank state q before < rank state (suc p) []
          → Has state q before others b → EndsBy room others tokens
      from q [] others b less has = again q others b less has
      from q (y ∷ before) others b less has = kernel q y before others b has

  by_rank : (state room : ℕ) (tokens : List Token) → FromKernel state room tokens → FromStart state room tokens
      → (n p : ℕ) (after : List Symbol) (a : ℕ) → rank state p [] < n → Has state p [] after a
      → EndsBy room after tokens
  by_rank state room tokens kernel start zero p after a less has = absurd (omega (arith, less))
  by_rank state room tokens kernel start (suc n) zero after a less has = start after a has
  by_rank state room tokens kernel start (suc n) (suc p) after a less has =
      by_parent state room tokens kernel p after a has
      (λ q others b smaller. by_rank state room tokens kernel start n q others b (omega (arith, smaller, less)))

  each_item : (state room : ℕ) (tokens : List Token) → FromKernel state room tokens → FromStart state room tokens
      → GoesOn state room tokens
  each_item state room tokens kernel start p [] after a has =
      by_rank state room tokens kernel start (suc (rank state p [])) p after a (omega arith) has
  each_item state room tokens kernel start p (y ∷ before) after a has = kernel p y before after a has

  at_start : FromStart zero most []
  at_start after a has more values row =
      let same : after ≡ Nonterminal g.start ∷ [] = sym (safe.shape zero zero [] after a has) ∙ safe.start_rule in
      let one = only_one g most (Nonterminal g.start) more values (subst (λ xs. Row g most xs more values) same row) in
      ([], one.0, tt, subst (λ all. Derives g most (Nonterminal g.start) all one.0) (sym (append-nil more)) one.1)

  goes_on : (stack : List (Cell Value)) (tokens : List Token) → Stands g m Has rank safe most stack tokens
      → GoesOn (state_of stack) (room_of most stack) tokens
  goes_on _ _ bottom =
      each_item zero most [] (λ p y before after a has. absurd (safe.first_state p y before after a has)) at_start
  goes_on _ _ (above stack tokens read x state v stands leads is) =
      by_below (room_of most stack) is (goes_on stack tokens stands)
    where
      by_below : (room : ℕ) → Derives g room x read v → GoesOn (state_of stack) room tokens
          → GoesOn state (within g room x) (tokens ++ read)
      by_below room is below = each_item state (within g room x) (tokens ++ read) kernel start
        where
          kernel : FromKernel state (within g room x) (tokens ++ read)
          kernel p y before after a has more values row =
              let (same, b, was) = safe.back (state_of stack) state p y x before after a leads has in
              subst Begun (sym (append_assoc tokens read more))
              (below p before (y ∷ after) b was (read ++ more) (v ∷ values)
              (next room y after read more v values (subst (λ z. Derives g room z read v) (sym same) is)
              (subst (λ z. Row g (within g room z) after more values) (sym same) row)))

          start : FromStart state (within g room x) (tokens ++ read)
          start after a has =
              absurd (safe.no_way_back (state_of stack) x
              (subst (Leads m Has (state_of stack) x) (safe.starts_once state after a has) leads))

  -- what was read, and one part more that can come, begin a whole
  pub begun_with : (stack : List (Cell Value)) (tokens : List Token) → Stands g m Has rank safe most stack tokens
      → (x : Symbol) → Goes Has (state_of stack) x → (read : List Token) (v : Value)
      → Derives g (room_of most stack) x read v → Begun (tokens ++ read)
  begun_with stack tokens stands x (p, before, after, a, has) =
      by_one (state_of stack) (room_of most stack) tokens p before x after a has
      (goes_on stack tokens stands p before (x ∷ after) a has)

  goes : (s : ℕ) (x : Symbol) (state : ℕ) → Leads m Has s x state → Goes Has s x
  goes s (Terminal opens k) state leads = leads.1
  goes s (Nonterminal n) state leads = leads.1

  -- what was read begins a whole
  pub begun : (stack : List (Cell Value)) (tokens : List Token) → Stands g m Has rank safe most stack tokens
      → Begun tokens
  begun _ _ bottom =
      let any = safe.productive zero zero [] (Nonterminal g.start ∷ []) m.finish safe.start_item in
      let one = only_one g most (Nonterminal g.start) any.0 any.1 (any.3 most) in
      (any.0, one.0, any.2, one.1)
  begun _ _ (above stack tokens read x state v stands leads is) =
      begun_with stack tokens stands x (goes (state_of stack) x state leads) read v is
