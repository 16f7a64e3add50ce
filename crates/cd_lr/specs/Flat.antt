-- Flat tables: each is one list of numbers, row after row. The automaton and the grammar that they
-- are, and when they are those of given tables.
use Rattle.std.specs.Prelude.{◌≡◌, ℕ, zero, suc, ◌+◌, ◌-◌, ◌*◌, ◌/◌, ◌%◌, List, [], ◌∷◌, length}
use Rattle.std.specs.Prelude.{Option, Some, None, slice_get, bytes_eq}
use Rattle.std.specs.Prelude.{Bool, true, nat_eq, nat_lt, if◌then◌else◌}
use Rattle.cd_lr.specs.Grammar.{Symbol, Terminal, Grammar}
use Rattle.cd_lr.specs.Automaton.{Action, Shift, Reduce, Accept, Refuse, Automaton}
use Rattle.cd_lr.specs.Tables.{Table, leaf, node, Rule, Row, Tables, action_in, seek, gotos_of}
use Rattle.cd_lr.specs.Tables.{shifts_of, reduces_of, left_of, right_of, given, also, all, every}

-- An action as a number: 0 refuses and 1 accepts; a shift is below 2000, by its levels and its
-- state; a reduce is its rule and 2000.
abbrev pub code : Action → ℕ
code Refuse = 0
code Accept = 1
code (Shift opens state) = ((state + state) + opens) + 2
code (Reduce rule) = rule + 2000

-- the action of a number
abbrev pub decode : ℕ → Action
decode n =
    if nat_eq n 0 then Refuse else if nat_eq n 1 then Accept
    else if nat_lt n 2000 then Shift ((n - 2) % 2) ((n - 2) / 2) else Reduce (n - 2000)

-- the number of a shift is below 2000, and its levels and its state are found from it
abbrev pub shift_coded : (ℕ × (ℕ × ℕ)) → Bool
shift_coded to = also (nat_lt to.1.0 2) (nat_lt to.1.1 999)

-- each shift of a state has such a number
abbrev pub row_coded : (s : ℕ) → Row → Bool
row_coded s row = all shift_coded (shifts_of row)

-- the entries of a row in so many columns from this one on, and then more
abbrev pub entries_from : {A : Type 0} → (A → ℕ → ℕ) → A → (count from : ℕ) → List ℕ → List ℕ
entries_from cell row zero from more = more
entries_from cell row (suc count) from more =
    let rest = entries_from cell row count (suc from) more in cell row from ∷ rest

-- the entries of all rows, each in so many columns, and then more
abbrev pub entries_before : {A : Type 0} → (A → ℕ → ℕ) → (count : ℕ) → Table A → List ℕ → List ℕ
entries_before cell count leaf more = more
entries_before cell count (node k row left right) more =
    let after = entries_before cell count right more in
    entries_before cell count left (entries_from cell row count zero after)

-- how many rows there are
abbrev pub size : {A : Type 0} → Table A → ℕ
size leaf = zero
size (node k row left right) = let l = size left in let r = size right in l + suc r

-- the rows have the numbers from this one on, in their order
abbrev pub numbered : {A : Type 0} → Table A → ℕ → Bool
numbered leaf from = true
numbered (node k row left right) from =
    let l = numbered left from in let r = numbered right (from + suc (size left)) in
    also l (also (nat_eq k (from + size left)) r)

-- a list has the actions of the states, before so many terminals
abbrev pub actions_same : Tables → (count : ℕ) → List ℕ → Bool
actions_same t count entries =
    bytes_eq entries (entries_before (λ row k. code (action_in t row k)) count t.states [])

-- a list has the gotos of the states, over so many nonterminals, with 0 where there is none
abbrev pub gotos_same : Tables → (count : ℕ) → List ℕ → Bool
gotos_same t count entries =
    bytes_eq entries
    (entries_before (λ row n. given zero (seek (gotos_of row) n)) count t.states [])

-- a list has the left sides of the rules
abbrev pub lefts_same : Tables → List ℕ → Bool
lefts_same t entries = bytes_eq entries (entries_before (λ r k. left_of r) 1 t.rules [])

-- a list has the lengths of the right sides of the rules
abbrev pub lengths_same : Tables → List ℕ → Bool
lengths_same t entries = bytes_eq entries (entries_before (λ r k. length (right_of r)) 1 t.rules [])

-- the left side of a rule is below a bound
abbrev pub left_below : (bound p : ℕ) → Rule → Bool
left_below bound p r = nat_lt (left_of r) bound

-- each rule that a state reduces is below a bound
abbrev pub reduces_below : (bound s : ℕ) → Row → Bool
reduces_below bound s row = all (λ one. nat_lt one.0 bound) (reduces_of row)

-- a number that was found, or 0
abbrev pub number : Option ℕ → ℕ
number None = zero
number (Some n) = n

-- the entry at a place, or 0 past the last one
abbrev pub entry : List ℕ → ℕ → ℕ
entry table n = number (slice_get table n)

-- so many symbols; they stand for a right side of which the length alone is used
abbrev pub blanks : ℕ → List Symbol
blanks zero = []
blanks (suc n) = Terminal 0 0 ∷ blanks n

-- the tables as lists of numbers
pub record FlatTables : Type 0 where
  -- the action of each state before each terminal
  pub actions : List ℕ
  -- the state to which each nonterminal leads from each state
  pub gotos : List ℕ
  -- the left side of each rule
  pub lefts : List ℕ
  -- the length of each rule's right side
  pub lengths : List ℕ
  -- how many terminals there are, with the end
  pub terminals : ℕ
  -- how many nonterminals there are
  pub nonterminals : ℕ
  -- the terminal that stands for the end of the tokens
  pub finish : ℕ

-- the automaton of flat tables
abbrev pub flat_machine : FlatTables → Automaton
flat_machine f = record {
  action = λ s k. decode (entry f.actions (s * f.terminals + k));
  goto = λ s n. entry f.gotos (s * f.nonterminals + n);
  finish = f.finish;
}

-- The grammar of flat tables, as far as the steps of an automaton use it: the length of each right
-- side is right, and its symbols and the start symbol are not.
abbrev pub flat_grammar : {Token Value : Type 0} → FlatTables → (kind : Token → ℕ)
    → (value : Token → Value) → (free : Token → Bool) → (build : ℕ → List Value → Value)
    → Grammar Token Value
flat_grammar f kind value free build = record {
  kind = kind;
  value = value;
  free = free;
  start = 0;
  left = λ p. entry f.lefts p;
  right = λ p. blanks (entry f.lengths p);
  build = build;
}

-- the flat tables are those of these tables
pub record IsFlat (t : Tables) (f : FlatTables) : Type 0 where
  -- the actions are those of the states, before each terminal
  pub actions : actions_same t f.terminals f.actions ≡ true
  -- the gotos are those of the states, over each nonterminal
  pub gotos : gotos_same t f.nonterminals f.gotos ≡ true
  -- the left sides are those of the rules
  pub lefts : lefts_same t f.lefts ≡ true
  -- the lengths are those of the right sides of the rules
  pub lengths : lengths_same t f.lengths ≡ true
  -- the end of the tokens is the same terminal
  pub finish : nat_eq f.finish t.finish ≡ true
  -- each shift is found from its number
  pub rows_coded : every row_coded t.states ≡ true
  -- the numbers of the states are 0, 1, 2 and so on
  pub rows_numbered : numbered t.states zero ≡ true
  -- the numbers of the rules are 0, 1, 2 and so on
  pub rules_numbered : numbered t.rules zero ≡ true
  -- each left side is one of the nonterminals
  pub lefts_below : every (left_below f.nonterminals) t.rules ≡ true
  -- each rule that a state reduces is one of the rules
  pub rules_below : every (reduces_below (size t.rules)) t.states ≡ true
