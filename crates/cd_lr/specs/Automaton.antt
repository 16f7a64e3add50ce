-- LR automata: their configurations, and the steps between them.
use Rattle.std.specs.Prelude.{◌≡◌, ◌-◌, ℕ, zero, suc, Bool, true, false, List, [], ◌∷◌, length}
use Rattle.cd_lr.specs.Grammar.{Grammar, fits}

-- What is done at a state before a terminal: the token is shifted, opens these levels, and leads to
-- this state; a rule is reduced; all is accepted; or nothing can be done.
pub data Action : Type 0 where
  Shift : (opens state : ℕ) → Action
  Reduce : ℕ → Action
  Accept : Action
  Refuse : Action

pub record Automaton : Type 0 where
  -- what is done at a state before a terminal
  pub action : (state terminal : ℕ) → Action
  -- the state after a nonterminal that was reduced over a state
  pub goto : (state nonterminal : ℕ) → ℕ
  -- the terminal that stands for the end of the tokens
  pub finish : ℕ

-- a cell of the stack, for one symbol that was read
pub record Cell (Value : Type 0) : Type 0 where
  -- the state after the symbol
  pub state : ℕ
  -- how many levels may open after it
  pub room : ℕ
  -- its value
  pub value : Value

-- a configuration
pub record Config (Token Value : Type 0) : Type 0 where
  -- the cells, the last one first
  pub stack : List (Cell Value)
  -- the tokens that are left
  pub rest : List Token

-- What a step leads to: a further configuration; the value of all tokens; no action at this token
-- or at the end; or no room for this token.
pub data Next (Token Value : Type 0) : Type 0 where
  On : Config Token Value → Next Token Value
  Done : Value → Next Token Value
  Wrong : Next Token Value
  TooDeep : Next Token Value

-- so many cells are popped: their values, before these values, and the stack below them
abbrev pub popped : {Value : Type 0} → ℕ → List Value → List (Cell Value)
    → List Value × List (Cell Value)
popped zero values stack = (values, stack)
popped (suc n) values [] = (values, [])
popped (suc n) values (cell ∷ stack) = popped n (cell.value ∷ values) stack

-- the state on top of the stack; state 0 is that of the empty stack
abbrev pub state_of : {Value : Type 0} → List (Cell Value) → ℕ
state_of [] = zero
state_of (cell ∷ stack) = cell.state

-- how many levels may open after the stack, where `most` may open in all
abbrev pub room_of : {Value : Type 0} → (most : ℕ) → List (Cell Value) → ℕ
room_of most [] = most
room_of most (cell ∷ stack) = cell.room

module _ {Token Value : Type 0} (g : Grammar Token Value) (m : Automaton) (most : ℕ) where
  -- the lookahead: the terminal of the next token, or the end
  abbrev pub look : List Token → ℕ
  look [] = m.finish
  look (t ∷ rest) = g.kind t

  -- the stack with the left side of a rule on it, by the values that were popped and what is below
  abbrev pub pushed : (p : ℕ) → List Value × List (Cell Value) → List (Cell Value)
  pushed p found = record {
    state = m.goto (state_of found.1) (g.left p);
    room = room_of most found.1;
    value = g.build p found.0;
  } ∷ found.1

  -- a shift of a token, with the answer whether there is room for its levels
  abbrev pub shifted : Bool → (opens state : ℕ) → Token → List (Cell Value) → List Token
      → Next Token Value
  shifted true opens state t stack rest =
      On record {
        stack = record {
          state = state;
          room = room_of most stack - opens;
          value = g.value t;
        } ∷ stack;
        rest = rest;
      }
  shifted false opens state t stack rest = TooDeep

  -- a shift of the next token; the end is not shifted
  abbrev pub shift : (opens state : ℕ) → List (Cell Value) → List Token → Next Token Value
  shift opens state stack [] = Wrong
  shift opens state stack (t ∷ rest) =
      shifted (fits (g.free t) opens (room_of most stack)) opens state t stack rest

  -- all is accepted where one cell is on the stack
  abbrev pub done : List (Cell Value) → Next Token Value
  done (cell ∷ []) = Done cell.value
  done stack = Wrong

  -- what an action does
  abbrev pub act : Action → List (Cell Value) → List Token → Next Token Value
  act (Shift opens state) stack rest = shift opens state stack rest
  act (Reduce p) stack rest =
      On record { stack = pushed p (popped (length (g.right p)) [] stack); rest = rest }
  act Accept stack rest = done stack
  act Refuse stack rest = Wrong

  -- what the action at the top of the stack before the lookahead does
  abbrev pub step : Config Token Value → Next Token Value
  step c = act (m.action (state_of c.stack) (look c.rest)) c.stack c.rest

  -- the first configuration
  abbrev pub begin : List Token → Config Token Value
  begin tokens = record { stack = []; rest = tokens }

  -- steps lead from a configuration to another
  pub data Reaches : (from to : Config Token Value) → Type 0 where
    here : (c : Config Token Value) → Reaches c c
    on : (c d e : Config Token Value) → step c ≡ On d → Reaches d e → Reaches c e
