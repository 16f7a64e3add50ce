-- What is derived is derived at each greater depth.
use Rattle.std.proofs.Common.{◌≡◌, ◌+◌, ℕ, zero, List, refl, arith, leb-true, le-leb}
use Rattle.std.specs.Prelude.{◌≤◌, Bool, true, false}
use Rattle.cd_lr.specs.Grammar.{Symbol, Terminal, Nonterminal, Grammar, fits, Derives, one, made, Row, nothing, next, within}

-- a token fits where there is room for its levels
pub fits_room : (free : Bool) (opens room : ℕ) → opens ≤ room → fits free opens room ≡ true
fits_room true opens room less = refl
fits_room false opens room less = le-leb opens room less

-- what fits a room fits each greater one
pub fits_more : (free : Bool) (opens a b : ℕ) → a ≤ b → fits free opens a ≡ true → fits free opens b ≡ true
fits_more true opens a b less is = refl
fits_more false opens a b less is = let small = leb-true opens a is in le-leb opens b (omega (arith, small, less))

-- what does not fit a room fits no smaller one
pub fits_less : (free : Bool) (opens a b : ℕ) → b ≤ a → fits free opens a ≡ false → fits free opens b ≡ false
fits_less free opens a b less is = by (fits free opens b) refl
  where
    by : (fit : Bool) → fits free opens b ≡ fit → fit ≡ false
    by true so = let more : fits free opens a ≡ true = fits_more free opens b a less so in absurd cc
    by false so = refl

-- the levels that a symbol opens
abbrev pub levels : Symbol → ℕ
levels (Terminal opens k) = opens
levels (Nonterminal n) = zero

module _ {Token Value : Type 0} (g : Grammar Token Value) where
  -- where there is room for the levels of a symbol and for some more, there is room for these after it
  pub room_within : (more depth : ℕ) (x : Symbol) → more + levels x ≤ depth → more ≤ within g depth x
  room_within more depth (Terminal opens k) fit = omega (arith, fit)
  room_within more depth (Nonterminal n) fit = omega (arith, fit)

  pub within_less : (depth : ℕ) (x : Symbol) → within g depth x ≤ depth
  within_less depth (Terminal opens k) = omega arith
  within_less depth (Nonterminal n) = omega arith

  pub more_within : (a b : ℕ) (x : Symbol) → a ≤ b → within g a x ≤ within g b x
  more_within a b (Terminal opens k) less = omega (arith, less)
  more_within a b (Nonterminal n) less = less

  -- what is derived with some room is derived with more
  mutual
    pub deeper : (a b : ℕ) (x : Symbol) (tokens : List Token) (v : Value) → a ≤ b
        → Derives g a x tokens v → Derives g b x tokens v
    deeper a b _ _ _ less (one _ opens t fit) = one b opens t (fits_more (g.free t) opens a b less fit)
    deeper a b _ _ _ less (made _ p tokens values row) =
        made b p tokens values (deeper_row a b (g.right p) tokens values less row)

    pub deeper_row : (a b : ℕ) (xs : List Symbol) (tokens : List Token) (values : List Value) → a ≤ b
        → Row g a xs tokens values → Row g b xs tokens values
    deeper_row a b _ _ _ less (nothing _) = nothing b
    deeper_row a b _ _ _ less (next _ x rest one_part other v vs is row) =
        next b x rest one_part other v vs (deeper a b x one_part v less is)
        (deeper_row (within g a x) (within g b x) rest other vs (more_within a b x less) row)
