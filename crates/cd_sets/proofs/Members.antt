-- A list that rises strictly is known by its members.
use Rattle.std.proofs.Common.{◌≡◌, ℕ, ◌<◌, ◌≤◌, ◌==◌, ◌||◌, true, false, List, [], ◌∷◌, Option, Some, inl, inr, refl, sym, ap, ◌∙◌, arith, true≢false}
use Rattle.std.proofs.lemmas.Bool.{cases_order, cases_eq}
use Rattle.cd_sets.specs.declared.node_id.NodeId.{NodeId}
use Rattle.cd_sets.specs.IdSet.{RiseFrom, holds}

-- numbers that rise from above a number do not hold one up to it
pub holds_below : (before : ℕ) (ids : List NodeId) (id : NodeId) → RiseFrom (Some before) ids → id.0 ≤ before → holds ids id ≡ false
holds_below before [] id rises le = refl
holds_below before (one ∷ ids) id rises le =
    let above : before < one.0 = rises.0 in
    let rest = holds_below one.0 ids id rises.1 (omega arith) in
    grind arith

pub holds_first : (id : NodeId) (ids : List NodeId) → holds (id ∷ ids) id ≡ true
holds_first id ids = grind arith

pub id_from_number : (id other : NodeId) → id.0 ≡ other.0 → id ≡ other
id_from_number id other same = ap (λ (number : ℕ). let one : NodeId = record { 0 = number } in one) same

-- where the first numbers are the same, so are the members of what follows them
same_rest : (id : NodeId) (ids others : List NodeId) → RiseFrom (Some id.0) ids → RiseFrom (Some id.0) others
    → ((one : NodeId) → holds (id ∷ ids) one ≡ holds (id ∷ others) one) → (one : NodeId) → holds ids one ≡ holds others one
same_rest id ids others rises others_rise same one =
    elim (cases_eq one.0 id.0) [
      | inl is ↦ holds_below id.0 ids one rises (omega arith) ∙ sym (holds_below id.0 others one others_rise (omega arith))
      | inr differs ↦ let all : holds (id ∷ ids) one ≡ holds (id ∷ others) one = same one in grind arith
    ]

pub same_members : (before : Option ℕ) (first second : List NodeId) → RiseFrom before first → RiseFrom before second → ((id : NodeId) → holds first id ≡ holds second id) → first ≡ second
same_members before [] [] rises others_rise same = refl
same_members before [] (other ∷ others) rises others_rise same = absurd (true≢false (sym (same other ∙ holds_first other others)))
same_members before (id ∷ ids) [] rises others_rise same = absurd (true≢false (sym (holds_first id ids) ∙ same id))
same_members before (id ∷ ids) (other ∷ others) rises others_rise same =
    elim (cases_order id.0 other.0) [
      | inl level ↦
          let head : id ≡ other = id_from_number id other level in
          let others_above : RiseFrom (Some id.0) others = rw level others_rise.1 in
          let all : (one : NodeId) → holds (id ∷ ids) one ≡ holds (id ∷ others) one = λ one. same one ∙ ap (λ (number : ℕ). (number == one.0) || holds others one) (sym level) in
          let rest : ids ≡ others = same_members (Some id.0) ids others rises.1 others_above (same_rest id ids others rises.1 others_above all) in
          cc
      | inr apart ↦ elim apart [
        | inl below ↦ absurd (true≢false (sym (holds_first id ids) ∙ same id ∙ holds_below id.0 (other ∷ others) id (below, others_rise.1) (omega arith)))
        | inr above ↦ absurd (true≢false (sym (holds_first other others) ∙ sym (same other) ∙ holds_below other.0 (id ∷ ids) other (above, rises.1) (omega arith)))
      ]
    ]
