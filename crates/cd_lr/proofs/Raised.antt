-- What stands on the stack stands there with as much more room as is wanted.
use Rattle.std.proofs.Common.{◌≡◌, ◌+◌, ℕ, List, [], ◌∷◌, refl, subst, arith}
use Rattle.std.specs.Prelude.{◌≤◌}
use Rattle.cd_lr.specs.Grammar.{Symbol, Grammar, within}
use Rattle.cd_lr.specs.Automaton.{Automaton, Cell, state_of, room_of}
use Rattle.cd_lr.specs.Valid.{Items, Leads, IsSafe}
use Rattle.cd_lr.proofs.Depths.{levels, room_within, within_less, deeper}
use Rattle.cd_lr.proofs.Standing.{Stands, bottom, above}

module _ {Token Value : Type 0} (g : Grammar Token Value) (m : Automaton) (Has : Items)
    (rank : (state p : ℕ) → List Symbol → ℕ) (safe : IsSafe g m Has rank) (most : ℕ) where
  -- at some depth the same states are on the stack, and there is room for so many levels more
  pub record Raised (more : ℕ) (stack : List (Cell Value)) (tokens : List Token) : Type 0 where
    pub depth : ℕ
    pub higher : List (Cell Value)
    pub stands : Stands g m Has rank safe depth higher tokens
    pub same : state_of stack ≡ state_of higher
    pub room : room_of most stack + more ≤ room_of depth higher

  pub raised : (more : ℕ) (stack : List (Cell Value)) (tokens : List Token) → Stands g m Has rank safe most stack tokens
      → Raised more stack tokens
  raised more _ _ bottom =
      record { depth = most + more; higher = []; stands = bottom; same = refl; room = omega arith }
  raised more _ _ (above stack tokens read x state v stands leads is) =
      let up = raised (levels x + more) stack tokens stands in
      let room = up.room in
      record {
        depth = up.depth;
        higher = record { state = state; room = within g (room_of up.depth up.higher) x; value = v } ∷ up.higher;
        stands = above up.higher tokens read x state v up.stands (subst (λ s. Leads m Has s x state) up.same leads)
            (deeper g (room_of most stack) (room_of up.depth up.higher) x read v (omega (arith, room)) is);
        same = refl;
        room = room_within g (within g (room_of most stack) x + more) (room_of up.depth up.higher) x
            (let less = within_less g (room_of most stack) x in omega (arith, less, room));
      }
