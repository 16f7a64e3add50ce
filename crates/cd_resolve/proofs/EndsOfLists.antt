-- All ways from a number end where they end from each number that it leads to.
use Rattle.std.proofs.Common.{ℕ, zero, suc, ◌+◌, ◌≤◌, List, [], ◌∷◌, arith}
use Rattle.cd_model.specs.AllOf.{AllOf}
use Rattle.cd_model.proofs.Ones.{each_weaker}
use Rattle.cd_resolve.specs.Inner.Order.{row, IsShort, Ends}

module _ (links : List (List ℕ)) where
  -- ways that are shorter than this are shorter than more
  short_for_more : (most more number : ℕ) → most ≤ more → IsShort links most number → IsShort links more number
  short_for_more zero more number fits short = elim short [ ]
  short_for_more (suc most) zero number fits short = absurd (omega arith)
  short_for_more (suc most) (suc more) number fits short = each_weaker (IsShort links most) (IsShort links more)
      (λ next. short_for_more most more next (omega arith)) (row links number) short

  -- where the ways from each of some numbers end, none is longer than some number
  all_are_short : (numbers : List ℕ) → AllOf (Ends links) numbers → (most : ℕ) × AllOf (IsShort links most) numbers
  all_are_short [] each = (zero, tt)
  all_are_short (number ∷ rest) each = by_rest each.0 (all_are_short rest each.1)
    where
      by_rest : Ends links number → (most : ℕ) × AllOf (IsShort links most) rest
          → (most : ℕ) × AllOf (IsShort links most) (number ∷ rest)
      by_rest one all = (
        one.0 + all.0,
        (
          short_for_more one.0 (one.0 + all.0) number (omega arith) one.1,
          each_weaker (IsShort links all.0) (IsShort links (one.0 + all.0))
              (λ next. short_for_more all.0 (one.0 + all.0) next (omega arith)) rest all.1,
        ),
      )

  -- all ways from a number end, if they end from each in its row
  pub ends_by_row : (number : ℕ) → AllOf (Ends links) (row links number) → Ends links number
  ends_by_row number each = by_most (all_are_short (row links number) each)
    where
      by_most : (most : ℕ) × AllOf (IsShort links most) (row links number) → Ends links number
      by_most all = (suc all.0, all.1)
