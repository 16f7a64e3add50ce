-- The subsets are the parts; how many there are, that they differ, and that they rise.
use Rattle.std.proofs.Common.{◌≡◌, ◌≢◌, ℕ, zero, suc, ◌*◌, ◌^◌, ◌<◌, List, [], ◌∷◌, Option, Some, length, get_or, refl, sym, ap, ◌∙◌, arith}
use Rattle.std.proofs.Math.Nat.{pow-suc}
use Rattle.std.specs.List.{All, AllPairs, Contains}
use Rattle.std.proofs.lemmas.List.Elements.{All-nil, All-cons, All-head, All-tail, All-weaker, All-contains}
use Rattle.std.proofs.lemmas.List.Kept.{AllPairs-cons}
use Rattle.cd_sets.specs.declared.node_id.NodeId.{NodeId}
use Rattle.cd_sets.specs.IdSet.{RiseFrom}
use Rattle.cd_sets.specs.Subsets.{without_and_with, subsets_of, IsPart, nothing, left_out, taken}
use Rattle.cd_sets.proofs.Counting.{rises_without}

-- what holds of each set, without the number and with it
pub all_doubled : (P : List NodeId → Type 0) (id : NodeId) (sets : List (List NodeId)) → All P sets → All (λ set. P (id ∷ set)) sets → All P (without_and_with id sets)
all_doubled P id [] without_it with_it = All-nil P
all_doubled P id (set ∷ sets) without_it with_it =
    All-cons P set ((id ∷ set) ∷ without_and_with id sets) (All-head P set sets without_it)
    (All-cons P (id ∷ set) (without_and_with id sets) (All-head (λ set. P (id ∷ set)) set sets with_it)
    (all_doubled P id sets (All-tail P set sets without_it) (All-tail (λ set. P (id ∷ set)) set sets with_it)))

pub all_parts : (ids : List NodeId) → All (λ part. IsPart part ids) (subsets_of ids)
all_parts [] = All-cons (λ part. IsPart part []) [] [] nothing (All-nil (λ part. IsPart part []))
all_parts (id ∷ ids) =
    all_doubled (λ part. IsPart part (id ∷ ids)) id (subsets_of ids)
    (All-weaker (λ part. IsPart part ids) (λ part. IsPart part (id ∷ ids)) (λ part is. left_out id part ids is) (subsets_of ids) (all_parts ids))
    (All-weaker (λ part. IsPart part ids) (λ part. IsPart (id ∷ part) (id ∷ ids)) (λ part is. taken id part ids is) (subsets_of ids) (all_parts ids))

pub each_is_part : (ids part : List NodeId) → Contains (subsets_of ids) part → IsPart part ids
each_is_part ids part found = All-contains (λ part. IsPart part ids) (subsets_of ids) part (all_parts ids) found

contained_later : (set one : List NodeId) (sets : List (List NodeId)) → Contains sets set → Contains (one ∷ sets) set
contained_later set one sets found = let within = found.1 in (suc found.0, omega arith, found.2)

without_at : (id : NodeId) (set : List NodeId) (sets : List (List NodeId)) (place : ℕ) → place < length sets → get_or sets place set ≡ set → Contains (without_and_with id sets) set
without_at id set [] place within is = absurd (omega arith)
without_at id set (one ∷ sets) zero within is = (0, omega arith, is)
without_at id set (one ∷ sets) (suc place) within is =
    contained_later set one ((id ∷ one) ∷ without_and_with id sets)
    (contained_later set (id ∷ one) (without_and_with id sets) (without_at id set sets place (omega arith) is))

with_at : (id : NodeId) (set : List NodeId) (sets : List (List NodeId)) (place : ℕ) → place < length sets → get_or sets place set ≡ set → Contains (without_and_with id sets) (id ∷ set)
with_at id set [] place within is = absurd (omega arith)
with_at id set (one ∷ sets) zero within is = (1, omega arith, ap (λ (rest : List NodeId). id ∷ rest) is)
with_at id set (one ∷ sets) (suc place) within is =
    contained_later (id ∷ set) one ((id ∷ one) ∷ without_and_with id sets)
    (contained_later (id ∷ set) (id ∷ one) (without_and_with id sets) (with_at id set sets place (omega arith) is))

pub each_part_is : (ids part : List NodeId) → IsPart part ids → Contains (subsets_of ids) part
each_part_is _ _ nothing = (0, omega arith, refl)
each_part_is _ _ (left_out id part ids is) = let found = each_part_is ids part is in without_at id part (subsets_of ids) found.0 found.1 found.2
each_part_is _ _ (taken id part ids is) = let found = each_part_is ids part is in with_at id part (subsets_of ids) found.0 found.1 found.2

doubled : (id : NodeId) (sets : List (List NodeId)) → length (without_and_with id sets) ≡ length sets * 2
doubled id [] = refl
doubled id (set ∷ sets) = omega (arith, doubled id sets)

pub count : (ids : List NodeId) → length (subsets_of ids) ≡ 2 ^ length ids
count [] = refl
count (id ∷ ids) = doubled id (subsets_of ids) ∙ ap (λ (number : ℕ). number * 2) (count ids) ∙ sym (pow-suc 2 (length ids))

pub all_rise : (before : Option ℕ) (ids : List NodeId) → RiseFrom before ids → All (RiseFrom before) (subsets_of ids)
all_rise before [] rises = All-cons (RiseFrom before) [] [] tt (All-nil (RiseFrom before))
all_rise before (id ∷ ids) rises =
    all_doubled (RiseFrom before) id (subsets_of ids) (all_rise before ids (rises_without before id ids rises))
    (All-weaker (RiseFrom (Some id.0)) (λ set. RiseFrom before (id ∷ set)) (λ set above. (rises.0, above)) (subsets_of ids) (all_rise (Some id.0) ids rises.1))

-- no two of these are the same
abbrev pub AreDistinct : List (List NodeId) → Type 0
AreDistinct sets = AllPairs (λ first second. first ≢ second) sets

-- the set does not begin with the number
abbrev pub BeginsOtherwise : NodeId → List NodeId → Type 0
BeginsOtherwise id set = (rest : List NodeId) → set ≢ (id ∷ rest)

rest_differs : (id : NodeId) (set other : List NodeId) → set ≢ other → (id ∷ set) ≢ (id ∷ other)
rest_differs id set other differs same = differs cc

distinct_head : (set : List NodeId) (sets : List (List NodeId)) → AreDistinct (set ∷ sets) → All (λ other. set ≢ other) sets
distinct_head set sets distinct = λ place default within. distinct zero (suc place) default (omega arith) (omega arith)

distinct_tail : (set : List NodeId) (sets : List (List NodeId)) → AreDistinct (set ∷ sets) → AreDistinct sets
distinct_tail set sets distinct = λ first second default before within. distinct (suc first) (suc second) default (omega arith) (omega arith)

distinct_doubled : (id : NodeId) (sets : List (List NodeId)) → All (BeginsOtherwise id) sets → AreDistinct sets → AreDistinct (without_and_with id sets)
distinct_doubled id [] begin distinct = λ first second default before within. absurd (omega arith)
distinct_doubled id (set ∷ sets) begin distinct =
    let others : All (λ other. set ≢ other) sets = distinct_head set sets distinct in
    let own : BeginsOtherwise id set = All-head (BeginsOtherwise id) set sets begin in
    let begin_others : All (BeginsOtherwise id) sets = All-tail (BeginsOtherwise id) set sets begin in
    AllPairs-cons (λ first second. first ≢ second) set ((id ∷ set) ∷ without_and_with id sets)
    (All-cons (λ other. set ≢ other) (id ∷ set) (without_and_with id sets) (own set)
    (all_doubled (λ other. set ≢ other) id sets others
    (All-weaker (BeginsOtherwise id) (λ other. set ≢ (id ∷ other)) (λ other begins. own other) sets begin_others)))
    (AllPairs-cons (λ first second. first ≢ second) (id ∷ set) (without_and_with id sets)
    (all_doubled (λ other. (id ∷ set) ≢ other) id sets
    (All-weaker (BeginsOtherwise id) (λ other. (id ∷ set) ≢ other) (λ other begins same. begins set (sym same)) sets begin_others)
    (All-weaker (λ other. set ≢ other) (λ other. (id ∷ set) ≢ (id ∷ other)) (λ other differs. rest_differs id set other differs) sets others))
    (distinct_doubled id sets begin_others (distinct_tail set sets distinct)))

-- a set of greater numbers begins otherwise
begins_above : (id : NodeId) (set : List NodeId) → RiseFrom (Some id.0) set → BeginsOtherwise id set
begins_above id set rises rest same =
    let first : RiseFrom (Some id.0) (id ∷ rest) = rw same at rises in
    let below : id.0 < id.0 = first.0 in
    omega arith

pub all_differ : (before : Option ℕ) (ids : List NodeId) → RiseFrom before ids → AreDistinct (subsets_of ids)
all_differ before [] rises = λ first second default less within. absurd (omega arith)
all_differ before (id ∷ ids) rises =
    distinct_doubled id (subsets_of ids)
    (All-weaker (RiseFrom (Some id.0)) (BeginsOtherwise id) (begins_above id) (subsets_of ids) (all_rise (Some id.0) ids rises.1))
    (all_differ (Some id.0) ids rises.1)
