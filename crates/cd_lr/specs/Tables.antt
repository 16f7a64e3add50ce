-- The tables of a grammar and of its automaton, as data, and the automaton that they are.
use Rattle.std.specs.Prelude.{ℕ, zero, suc, Bool, true, false, List, [], ◌∷◌, Option, Some, None, nat_eq, nat_lt, bit_and, ◌^◌}
use Rattle.cd_lr.specs.Grammar.{Symbol, Terminal, Nonterminal}
use Rattle.cd_lr.specs.Automaton.{Action, Shift, Reduce, Accept, Refuse, Automaton}

-- a search tree of numbered rows, with the smaller numbers left
pub data Table (A : Type 0) : Type 0 where
  leaf : Table A
  node : ℕ → A → Table A → Table A → Table A

-- a rule: its left side and its right side
pub data Rule : Type 0 where
  rule : ℕ → List Symbol → Rule

-- The closure of a state at a nonterminal, whose rules have the dot at the start: a rank, an item
-- of smaller rank with its dot before the nonterminal (a rule and the place of the dot), and the
-- set of their lookaheads.
pub data Begin : Type 0 where
  begin_at : (rank rule dot mask : ℕ) → Begin

-- A state. An item of the kernel is a rule, the place of its dot, and the set of its lookaheads.
-- The closure is listed by nonterminals. A shift is a terminal, the levels that it opens, and the
-- next state; a goto is a nonterminal and the next state; a reduce is a rule and its lookaheads.
pub data Row : Type 0 where
  at : (kernel : List (ℕ × ℕ × ℕ)) → (closed : List (ℕ × Begin))
      → (shifts : List (ℕ × (ℕ × ℕ))) → (gotos : List (ℕ × ℕ)) → (reduces : List (ℕ × ℕ)) → Row

-- one of two, by a truth value
abbrev pub choose : {A : Type 0} → Bool → A → A → A
choose true a b = a
choose false a b = b

-- and
abbrev pub also : Bool → Bool → Bool
also true b = b
also false b = false

-- or
abbrev pub either : Bool → Bool → Bool
either true b = true
either false b = b

abbrev pub not : Bool → Bool
not true = false
not false = true

-- the row of a number in a tree
abbrev pub find : {A : Type 0} → Table A → ℕ → Option A
find leaf n = None
find (node k a left right) n =
    let l = find left n in let r = find right n in
    choose (nat_eq n k) (Some a) (choose (nat_lt n k) l r)

-- the first entry of a number in a list
abbrev pub seek : {A : Type 0} → List (ℕ × A) → ℕ → Option A
seek [] n = None
seek (one ∷ rest) n = let r = seek rest n in choose (nat_eq one.0 n) (Some one.1) r

-- each of a list passes a test
abbrev pub all : {A : Type 0} → (A → Bool) → List A → Bool
all test [] = true
all test (one ∷ rest) = let r = all test rest in also (test one) r

-- one of a list passes a test
abbrev pub any : {A : Type 0} → (A → Bool) → List A → Bool
any test [] = false
any test (one ∷ rest) = let r = any test rest in either (test one) r

-- each row of a tree passes a test, which also has the row's number
abbrev pub every : {A : Type 0} → (ℕ → A → Bool) → Table A → Bool
every test leaf = true
every test (node k a left right) =
    let l = every test left in let r = every test right in also (test k a) (also l r)

-- what was found, or another value
abbrev pub given : {A : Type 0} → A → Option A → A
given other None = other
given other (Some a) = a

-- something was found, and passes a test
abbrev pub holds : {A : Type 0} → (A → Bool) → Option A → Bool
holds test None = false
holds test (Some a) = test a

-- Sets of terminals are masks: numbers whose binary digit k is 1 where terminal k is in the set.
-- A set is a subset of another one.
abbrev pub inside : ℕ → ℕ → Bool
inside small big = nat_eq (bit_and small big) small

-- a terminal is in a set
abbrev pub among : ℕ → ℕ → Bool
among terminal mask = inside (2 ^ terminal) mask

-- two sets are disjoint
abbrev pub apart : ℕ → ℕ → Bool
apart one other = nat_eq (bit_and one other) zero

abbrev pub same_symbol : Symbol → Symbol → Bool
same_symbol (Terminal w k) (Terminal v l) = also (nat_eq w v) (nat_eq k l)
same_symbol (Nonterminal n) (Nonterminal o) = nat_eq n o
same_symbol _ _ = false

-- the first symbol is this one
abbrev pub head_is : Symbol → List Symbol → Bool
head_is x [] = false
head_is x (y ∷ rest) = same_symbol x y

-- the parts of a state
abbrev pub kernel_of : Row → List (ℕ × ℕ × ℕ)
kernel_of (at kernel closed shifts gotos reduces) = kernel

abbrev pub closed_of : Row → List (ℕ × Begin)
closed_of (at kernel closed shifts gotos reduces) = closed

abbrev pub shifts_of : Row → List (ℕ × (ℕ × ℕ))
shifts_of (at kernel closed shifts gotos reduces) = shifts

abbrev pub gotos_of : Row → List (ℕ × ℕ)
gotos_of (at kernel closed shifts gotos reduces) = gotos

abbrev pub reduces_of : Row → List (ℕ × ℕ)
reduces_of (at kernel closed shifts gotos reduces) = reduces

-- the sides of a rule
abbrev pub left_of : Rule → ℕ
left_of (rule left right) = left

abbrev pub right_of : Rule → List Symbol
right_of (rule left right) = right

-- the lookaheads of a closure, and its rank, which is 0 where there is none
abbrev pub mask_of : Begin → ℕ
mask_of (begin_at rank p d mask) = mask

abbrev pub rank_of : Begin → ℕ
rank_of (begin_at rank p d mask) = rank

abbrev pub rank_in : Option Begin → ℕ
rank_in None = zero
rank_in (Some b) = rank_of b

-- the tables of a grammar, then those of its automaton, and what helps to check them
pub record Tables : Type 0 where
  -- the start symbol
  pub start : ℕ
  -- the terminal that stands for the end of the tokens; those of rules have smaller numbers
  pub finish : ℕ
  -- the left side of rule 0, whose right side is the start symbol
  pub whole : ℕ
  -- each rule, by its number
  pub rules : Table Rule
  -- the numbers of the rules of each nonterminal
  pub sides : Table (List ℕ)
  -- the set of terminals with which what a nonterminal derives may begin
  pub firsts : Table ℕ
  -- of each nonterminal a height and a rule in whose right side all heights are smaller
  pub tall : Table (ℕ × ℕ)
  -- each state, by its number
  pub states : Table Row
  -- the weight of each nonterminal
  pub weights : Table ℕ
  -- the weight of each terminal
  pub top : ℕ

module _ (t : Tables) where
  -- the rule of a number; a number of no rule stands for rule 0
  abbrev pub rule_at : ℕ → Rule
  rule_at p = given (rule t.whole (Nonterminal t.start ∷ [])) (find t.rules p)

  -- the state of a number; a number of no state stands for one with no item and no action
  abbrev pub row_at : ℕ → Row
  row_at s = given (at [] [] [] [] []) (find t.states s)

  abbrev pub left : ℕ → ℕ
  left p = left_of (rule_at p)

  abbrev pub right : ℕ → List Symbol
  right p = right_of (rule_at p)

  -- the action where rule 0 is read, by whether this is the end of the tokens
  abbrev pub ended : Bool → Action
  ended true = Accept
  ended false = Refuse

  -- the action where a rule is read, before a terminal
  abbrev pub read : (p terminal : ℕ) → Action
  read zero k = ended (nat_eq k t.finish)
  read (suc p) k = Reduce (suc p)

  -- the action by the first reduce that has the terminal among its lookaheads
  abbrev pub by_rules : List (ℕ × ℕ) → (terminal : ℕ) → Action
  by_rules [] k = Refuse
  by_rules (one ∷ rest) k =
      let r = by_rules rest k in choose (among k one.1) (read one.0 k) r

  -- a shift that was found, or another action
  abbrev pub by_shift : Option (ℕ × ℕ) → Action → Action
  by_shift None other = other
  by_shift (Some to) other = Shift to.0 to.1

  -- the action of a state before a terminal: its shift, or else its first reduce
  abbrev pub action_in : Row → ℕ → Action
  action_in row k = by_shift (seek (shifts_of row) k) (by_rules (reduces_of row) k)

  -- the automaton of the tables; a goto that is not there leads to state 0
  abbrev pub machine : Automaton
  machine = record {
    action = λ s k. action_in (row_at s) k;
    goto = λ s n. given zero (seek (gotos_of (row_at s)) n);
    finish = t.finish;
  }
