-- The set of some numbers rises, and has just these.
use Rattle.std.proofs.Common.{◌≡◌, ◌==◌, ◌||◌, ℕ, List, [], ◌∷◌, Option, Some, None, refl, arith}
use Rattle.std.proofs.lemmas.Bool.Decides.{nat_tests}
use Rattle.cd_sets.specs.declared.node_id.NodeId.{NodeId}
use Rattle.cd_sets.specs.IdSet.{IsAbove, RiseFrom, AreRising, holds}
use Rattle.cd_sets.proofs.Members.{same_members}
use Rattle.cd_rules.specs.Needs.{with_id, set_of}

-- a number among those of a set is one of them
holds_with_id : (id : NodeId) (set : List NodeId) (one : NodeId) → holds (with_id id set) one ≡ holds (id ∷ set) one
holds_with_id id [] one = refl
holds_with_id id (other ∷ rest) one = let less = holds_with_id id rest one in grind (arith, nat_tests)

-- and they rise
rises_with_id : (before : Option ℕ) (id : NodeId) (set : List NodeId)
    → RiseFrom before set → IsAbove before id.0 → RiseFrom before (with_id id set)
rises_with_id before id [] rises above = (above, tt)
rises_with_id before id (other ∷ rest) rises above =
    let less = rises_with_id (Some other.0) id rest rises.1 in
    grind (arith, nat_tests)

-- the set of some numbers has just these
holds_set_of : (ids : List NodeId) (one : NodeId) → holds (set_of ids) one ≡ holds ids one
holds_set_of [] one = refl
holds_set_of (id ∷ ids) one =
    let less = holds_set_of ids one in
    let more = holds_with_id id (set_of ids) one in
    grind arith

-- and they rise
rises_set_of : (ids : List NodeId) → AreRising (set_of ids)
rises_set_of [] = tt
rises_set_of (id ∷ ids) = rises_with_id None id (set_of ids) (rises_set_of ids) tt

-- a set that has just these is theirs
pub is_set_of : (set ids : List NodeId)
    → AreRising set → ((one : NodeId) → holds set one ≡ holds ids one) → set ≡ set_of ids
is_set_of set ids rises same =
    same_members None set (set_of ids) rises (rises_set_of ids) (λ one. grind (arith, same one, holds_set_of ids one))

-- a set that has one number more than another is it with that number
pub is_with_id : (id : NodeId) (before after : List NodeId) → AreRising before → AreRising after
    → ((one : NodeId) → holds after one ≡ ((one.0 == id.0) || holds before one)) → after ≡ with_id id before
is_with_id id before after rises rises_after same =
    same_members None after (with_id id before) rises_after (rises_with_id None id before rises tt)
    (λ one. let is = same one in let more = holds_with_id id before one in grind (arith, nat_tests))
