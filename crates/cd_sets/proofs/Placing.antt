-- A number put at its place among strictly rising ones.
use Rattle.std.proofs.Common.{◌≡◌, ℕ, zero, suc, ◌<◌, ◌==◌, ◌||◌, Bool, true, false, List, [], ◌∷◌, ◌++◌, Option, Some, nat_le, cond, refl, arith, length}
use Rattle.std.proofs.Math.Seq.{take-length, drop-length}
use Rattle.std.specs.List.{insert}
use Rattle.cd_sets.specs.declared.node_id.NodeId.{NodeId}
use Rattle.cd_sets.specs.IdSet.{IsAbove, RiseFrom, holds, place_of}

-- a list with one number more holds that number too
pub holds_inserted : (ids : List NodeId) (place : ℕ) (id one : NodeId) → holds (insert ids place id) one ≡ ((one.0 == id.0) || holds ids one)
holds_inserted ids zero id one = grind arith
holds_inserted [] (suc place) id one = grind arith
holds_inserted (first ∷ ids) (suc place) id one = let rest = holds_inserted ids place id one in grind arith

pub rises_placed : (before : Option ℕ) (ids : List NodeId) (id : NodeId) → RiseFrom before ids → IsAbove before id.0 → holds ids id ≡ false → RiseFrom before (insert ids (place_of ids id) id)
rises_placed before [] id rises above new = (above, tt)
rises_placed before (one ∷ ids) id rises above new =
    by (nat_le id.0 one.0) refl (λ lt. rises_placed (Some one.0) ids id rises.1 lt (grind arith))
  where
    by : (test : Bool) → nat_le id.0 one.0 ≡ test
        → (one.0 < id.0 → RiseFrom (Some one.0) (insert ids (place_of ids id) id)) → RiseFrom before (insert (one ∷ ids) (cond test 0 (suc (place_of ids id))) id)
    by true is on = (above, (grind arith, rises.1))
    by false is on = (rises.0, on (grind arith))

-- above all of them it is none of them, and stands after them
pub new_beyond : (ids : List NodeId) (id : NodeId) → place_of ids id ≡ length ids → holds ids id ≡ false
new_beyond [] id last = refl
new_beyond (one ∷ ids) id last = by (nat_le id.0 one.0) refl last (new_beyond ids id)
  where
    by : (test : Bool) → nat_le id.0 one.0 ≡ test → cond test 0 (suc (place_of ids id)) ≡ suc (length ids)
        → (place_of ids id ≡ length ids → holds ids id ≡ false) → holds (one ∷ ids) id ≡ false
    by true is last on = absurd (omega arith)
    by false is last on = let none = on (omega arith) in grind (arith, is)

pub inserted_last : (ids : List NodeId) (id : NodeId) → insert ids (length ids) id ≡ ids ++ id ∷ []
inserted_last ids id = rw (take-length ids, drop-length ids) refl
