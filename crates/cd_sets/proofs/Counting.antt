-- Each count gives its subset first, and then those of the next count.
use Rattle.std.proofs.Common.{◌≡◌, ℕ, ◌+◌, ◌<◌, Bool, true, false, List, [], ◌∷◌, ◌++◌, Option, Some, None, length, replicate, get_or, set, take, drop, refl, sym, ap, append_assoc, add-one, arith}
use Rattle.std.proofs.lemmas.List.{drop_more, set_split}
use Rattle.std.specs.Option.{option_map}
use Rattle.cd_sets.specs.declared.node_id.NodeId.{NodeId}
use Rattle.cd_sets.specs.IdSet.{RiseFrom}
use Rattle.cd_sets.specs.Subsets.{without_and_with, subsets_of}
use Rattle.cd_sets.specs.Counting.{chosen_of, next_digits, from_digit, subsets_from, left_from}

-- numbers that rise, without the first one
pub rises_without : (before : Option ℕ) (id : NodeId) (ids : List NodeId) → RiseFrom before (id ∷ ids) → RiseFrom before ids
rises_without before id [] rises = tt
rises_without None id (one ∷ ids) rises = (tt, rises.1.1)
rises_without (Some number) id (one ∷ ids) rises =
    let first : number < id.0 = rises.0 in
    let second : id.0 < one.0 = rises.1.0 in
    (omega arith, rises.1.1)

pub rises_chosen : (before : Option ℕ) (ids : List NodeId) (digits : List Bool) → RiseFrom before ids → RiseFrom before (chosen_of ids digits)
rises_chosen before [] digits rises = tt
rises_chosen before (id ∷ ids) [] rises = tt
rises_chosen before (id ∷ ids) (false ∷ digits) rises = rises_chosen before ids digits (rises_without before id ids rises)
rises_chosen before (id ∷ ids) (true ∷ digits) rises = (rises.0, rises_chosen (Some id.0) ids digits rises.1)

-- the step of counting over the subsets of the numbers above
by_digit : (id : NodeId) (ids : List NodeId) (sets : List (List NodeId)) (next : Option (List Bool)) → sets ≡ left_from ids next
    → from_digit id false sets ≡ left_from (id ∷ ids) (option_map (λ rest. false ∷ rest) next)
by_digit id ids sets None is = rw is refl
by_digit id ids sets (Some digits) is = rw is refl

pub counted : (ids : List NodeId) (digits : List Bool) → length digits ≡ length ids → subsets_from ids digits ≡ chosen_of ids digits ∷ left_from ids (next_digits digits)
counted [] [] same = refl
counted [] (digit ∷ digits) same = absurd (omega arith)
counted (id ∷ ids) [] same = absurd (omega arith)
counted (id ∷ ids) (false ∷ digits) same =
    let rest = counted ids digits (omega arith) in
    rw rest refl
counted (id ∷ ids) (true ∷ digits) same =
    let rest = counted ids digits (omega arith) in
    rw (rest, by_digit id ids (left_from ids (next_digits digits)) (next_digits digits) refl) refl

-- counting begins at zero
pub from_zero : (ids : List NodeId) → subsets_from ids (replicate (length ids) false) ≡ subsets_of ids
from_zero [] = refl
from_zero (id ∷ ids) = ap (without_and_with id) (from_zero ids)

-- the count goes on at the first zero
pub found_zero : (digits : List Bool) (index : ℕ) → index < length digits → get_or digits index false ≡ false
    → option_map (λ rest. take index digits ++ rest) (next_digits (drop index digits)) ≡ Some (set digits index true)
found_zero digits index within zero =
    rw (drop_more digits index false within, zero, set_split digits index true within, add-one) refl

-- one digit more is looked at
pub chosen_taken : (front ids : List NodeId) (digits : List Bool) (index : ℕ) (id : NodeId) → index < length ids → index < length digits → get_or digits index false ≡ true
    → front ++ chosen_of (drop index ids) (drop index digits) ≡ (front ++ get_or ids index id ∷ []) ++ chosen_of (drop (index + 1) ids) (drop (index + 1) digits)
chosen_taken front ids digits index id within within_digits one =
    rw (drop_more ids index id within, drop_more digits index false within_digits, one) (sym (append_assoc front (get_or ids index id ∷ []) _))

pub chosen_left : (front ids : List NodeId) (digits : List Bool) (index : ℕ) (id : NodeId) → index < length ids → index < length digits → get_or digits index false ≡ false
    → front ++ chosen_of (drop index ids) (drop index digits) ≡ front ++ chosen_of (drop (index + 1) ids) (drop (index + 1) digits)
chosen_left front ids digits index id within within_digits zero =
    rw (drop_more ids index id within, drop_more digits index false within_digits, zero) refl
