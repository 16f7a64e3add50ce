-- What makes an automaton fit a grammar: conditions on the LR items of its states.
use Rattle.std.specs.Prelude.{◌≡◌, ◌≢◌, ◌<◌, ℕ, zero, suc, List, [], ◌∷◌, length}
use Rattle.cd_lr.specs.Grammar.{Symbol, Terminal, Nonterminal, Grammar, AreFree, Row}
use Rattle.cd_lr.specs.Automaton.{Shift, Reduce, Accept, Automaton}

-- a right side, by the symbols before the dot, the last one first, and those after it
abbrev pub both : List Symbol → List Symbol → List Symbol
both [] after = after
both (x ∷ before) after = both before (x ∷ after)

-- The items of each state: a rule with the dot between two lists of symbols, of which the first has
-- its last symbol first, and a lookahead.
abbrev pub Items : Type 1
Items = (state p : ℕ) (before after : List Symbol) (terminal : ℕ) → Type 0

-- the terminals with which what a symbol derives may begin
abbrev pub Firsts : Type 1
Firsts = Symbol → ℕ → Type 0

-- the same of some symbols and a last terminal; no right side is empty, so the first one decides
abbrev pub FirstOf : Firsts → List Symbol → (last terminal : ℕ) → Type 0
FirstOf First [] last terminal = last ≡ terminal
FirstOf First (x ∷ rest) last terminal = First x terminal

-- in an item of the state the dot stands before this symbol
abbrev pub Goes : Items → (state : ℕ) → Symbol → Type 0
Goes Has state x =
    (p : ℕ) × (before : List Symbol) × (after : List Symbol) × (terminal : ℕ)
    × Has state p before (x ∷ after) terminal

-- the symbol, before which the dot of an item stands, leads from the state to the next
abbrev pub Leads : Automaton → Items → (state : ℕ) → Symbol → (next : ℕ) → Type 0
Leads m Has state (Terminal opens k) next =
    (m.action state k ≡ Shift opens next) × Goes Has state (Terminal opens k)
Leads m Has state (Nonterminal n) next =
    (m.goto state n ≡ next) × Goes Has state (Nonterminal n)

module _ {Token Value : Type 0} (g : Grammar Token Value) (m : Automaton) (Has : Items)
    (First : Firsts) where
  -- Enough for the automaton to be complete: it accepts all that the grammar derives.
  pub record IsComplete : Type 0 where
    -- state 0 has rule 0 with the dot before the start symbol and the end as lookahead
    pub start_here : Has zero zero [] (Nonterminal g.start ∷ []) m.finish
    -- Closure: where the dot stands before a nonterminal, the state has its rules with the dot at
    -- the start, and with each lookahead with which what follows it may begin.
    pub closed : (s p q : ℕ) (before after : List Symbol) (a b : ℕ)
        → Has s p before (Nonterminal (g.left q) ∷ after) a → FirstOf First after a b
        → Has s q [] (g.right q) b
    -- Shift: where the dot stands before a terminal, the state shifts it and opens its levels, and
    -- the item with the dot after it is in the next state.
    pub by_token : (s p w k : ℕ) (before after : List Symbol) (a : ℕ)
        → Has s p before (Terminal w k ∷ after) a
        → (next : ℕ) × (m.action s k ≡ Shift w next) × Has next p (Terminal w k ∷ before) after a
    -- Goto: where the dot stands before a nonterminal, the item with the dot after it is in the
    -- state to which the nonterminal leads.
    pub by_rule : (s p n : ℕ) (before after : List Symbol) (a : ℕ)
        → Has s p before (Nonterminal n ∷ after) a
        → Has (m.goto s n) p (Nonterminal n ∷ before) after a
    -- reduce: where the dot stands at the end of a rule, which is not rule 0, the state reduces it
    -- before the lookahead
    pub reduced : (s p : ℕ) (before : List Symbol) (a : ℕ) → Has s (suc p) before [] a
        → m.action s a ≡ Reduce (suc p)
    -- accept: where the dot stands at the end of rule 0, the state accepts at the end of the tokens
    pub accepted : (s : ℕ) (before : List Symbol) → Has s zero before [] m.finish
        → m.action s m.finish ≡ Accept
    -- a terminal begins with itself
    pub first_token : (w k : ℕ) → First (Terminal w k) k
    -- a left side begins with whatever the first symbol of its rule begins with
    pub first_rule : (q b : ℕ) (x : Symbol) (rest : List Symbol) → g.right q ≡ x ∷ rest
        → First x b → First (Nonterminal (g.left q)) b
    -- no right side is empty
    pub not_empty : (q : ℕ) → g.right q ≢ []
    -- no dot stands before the left side of rule 0
    pub not_whole : (s p q : ℕ) (before after : List Symbol) (a : ℕ)
        → Has s p before (Nonterminal (g.left q) ∷ after) a → (r : ℕ) × (q ≡ suc r)

module _ {Token Value : Type 0} (g : Grammar Token Value) (m : Automaton) (Has : Items)
    (rank : (state p : ℕ) → List Symbol → ℕ) where
  -- Enough for the automaton to be sound and safe: it accepts only what the grammar derives, and
  -- the symbols on its stack are a viable prefix, so that some tokens complete what was read.
  pub record IsSafe : Type 0 where
    -- state 0 has rule 0 with the dot before the start symbol and the end as lookahead
    pub start_item : Has zero zero [] (Nonterminal g.start ∷ []) m.finish
    -- the symbols before and after the dot are the right side of the rule
    pub shape : (s p : ℕ) (before after : List Symbol) (a : ℕ) → Has s p before after a
        → g.right p ≡ both before after
    -- rule 0 has the start symbol alone on its right side
    pub start_rule : g.right zero ≡ Nonterminal g.start ∷ []
    -- Where y leads to a state, and the dot of an item there stands after x, they are the same
    -- symbol, and the state before has the item with the dot before it.
    pub back : (s next p : ℕ) (x y : Symbol) (before after : List Symbol) (a : ℕ)
        → Leads m Has s y next → Has next p (x ∷ before) after a
        → (x ≡ y) × (b : ℕ) × Has s p before (x ∷ after) b
    -- in state 0 each dot stands at the start of its right side
    pub first_state : (p : ℕ) (x : Symbol) (before after : List Symbol) (a : ℕ)
        → Has zero p (x ∷ before) after a → ⊥
    -- no symbol leads to state 0
    pub no_way_back : (s : ℕ) (x : Symbol) → Leads m Has s x zero → ⊥
    -- only state 0 has rule 0 with the dot at the start
    pub starts_once : (s : ℕ) (after : List Symbol) (a : ℕ) → Has s zero [] after a → s ≡ zero
    -- An item of another rule with the dot at the start is there by closure: an item of smaller
    -- rank has the dot before the rule's left side.
    pub parent : (s p : ℕ) (after : List Symbol) (a : ℕ) → Has s (suc p) [] after a
        → (q : ℕ) × (before : List Symbol) × (rest : List Symbol) × (b : ℕ)
        × Has s q before (Nonterminal (g.left (suc p)) ∷ rest) b
        × (rank s q before < rank s (suc p) [])
    -- where a terminal is shifted, the dot of an item stands before it, with the same levels
    pub shift_goes : (s w k next : ℕ) → m.action s k ≡ Shift w next → Goes Has s (Terminal w k)
    -- a rule that a state reduces is not rule 0, and the state has it with the dot at the end
    pub reduce_has : (s p k : ℕ) → m.action s k ≡ Reduce p
        → (q : ℕ) × (p ≡ suc q) × (before : List Symbol) × (a : ℕ) × Has s p before [] a
        × (length (g.right p) ≡ length before)
    -- a state accepts at the end of the tokens alone, and has rule 0 with the dot at the end
    pub accept_has : (s k : ℕ) → m.action s k ≡ Accept
        → (k ≡ m.finish) × (a : ℕ) × Has s zero (Nonterminal g.start ∷ []) [] a
    -- no token has the terminal that stands for the end
    pub not_finish : (t : Token) → g.kind t ≢ m.finish
    -- the end of the tokens is not shifted
    pub no_shift_at_end : (s w next : ℕ) → m.action s m.finish ≡ Shift w next → ⊥
    -- what stands after a dot derives some free tokens, at each depth
    pub productive : (s p : ℕ) (before after : List Symbol) (a : ℕ) → Has s p before after a
        → (tokens : List Token) × (values : List Value) × AreFree g tokens
        × ((depth : ℕ) → Row g depth after tokens values)
