-- Context-free grammars as data, and the derivations of tokens from them.
use Rattle.std.specs.Prelude.{◌≡◌, ◌-◌, ℕ, Bool, true, false, List, [], ◌∷◌, ◌++◌, nat_le}

-- A symbol of a right side. A terminal opens some levels, or none, for its token and for the
-- symbols after it in the right side.
pub data Symbol : Type 0 where
  Terminal : (opens kind : ℕ) → Symbol
  Nonterminal : ℕ → Symbol

-- A grammar, and the values of what it derives. Rule 0 has the start symbol as its right side.
pub record Grammar (Token Value : Type 0) : Type 0 where
  -- the terminal of a token
  pub kind : Token → ℕ
  -- the value of a token
  pub value : Token → Value
  -- whether a token may stand at any depth
  pub free : Token → Bool
  -- the start symbol
  pub start : ℕ
  -- the left side of a rule
  pub left : ℕ → ℕ
  -- the right side of a rule
  pub right : ℕ → List Symbol
  -- what a rule builds of the values of its right side
  pub build : ℕ → List Value → Value

-- a token is free, or has room for the levels that it opens
abbrev pub fits : (free : Bool) → (opens room : ℕ) → Bool
fits true opens room = true
fits false opens room = nat_le opens room

module _ {Token Value : Type 0} (g : Grammar Token Value) where
  -- how many levels may open after a symbol
  abbrev pub within : (depth : ℕ) → Symbol → ℕ
  within depth (Terminal opens k) = depth - opens
  within depth (Nonterminal n) = depth

  mutual
    -- A symbol derives the tokens, with this value. At first there is room for `depth` levels, and
    -- each token is free or has room for the levels that it opens.
    pub data Derives : (depth : ℕ) → Symbol → List Token → Value → Type 0 where
      one : (depth opens : ℕ) (t : Token) → fits (g.free t) opens depth ≡ true
          → Derives depth (Terminal opens (g.kind t)) (t ∷ []) (g.value t)
      made : (depth p : ℕ) (tokens : List Token) (values : List Value)
          → Row depth (g.right p) tokens values
          → Derives depth (Nonterminal (g.left p)) tokens (g.build p values)

    -- the symbols of a right side derive the tokens, one after the other
    pub data Row : (depth : ℕ) → List Symbol → List Token → List Value → Type 0 where
      nothing : (depth : ℕ) → Row depth [] [] []
      next : (depth : ℕ) (x : Symbol) (rest : List Symbol) (a b : List Token) (v : Value)
          (vs : List Value) → Derives depth x a v → Row (within depth x) rest b vs
          → Row depth (x ∷ rest) (a ++ b) (v ∷ vs)

  -- the start symbol derives the tokens
  abbrev pub Whole : (depth : ℕ) → List Token → Value → Type 0
  Whole depth tokens v = Derives depth (Nonterminal g.start) tokens v

  -- each of the tokens is free
  abbrev pub AreFree : List Token → Type 0
  AreFree [] = Unit {0}
  AreFree (t ∷ rest) = (g.free t ≡ true) × AreFree rest
