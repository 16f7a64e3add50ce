-- The members of a union hold what its parts hold.
use Rattle.std.proofs.Common.{◌≡◌, ◌==◌, ◌||◌, ◌⊎◌, true, false, Bool, List, []}
use Rattle.std.proofs.Common.{◌∷◌, inl, inr, refl, sym, ap, subst, ◌∙◌, arith, true≢false}
use Rattle.std.proofs.lemmas.Bool.{cases_Bool}
use Rattle.std.proofs.lemmas.Bool.Decides.{nat_tests}
use Rattle.cd_sets.specs.IdSet.{holds}
use Rattle.cd_sets.specs.declared.node_id.NodeId.{NodeId}
use Rattle.cd_model.specs.AllOf.{AllOf, AnyOf}
use Rattle.cd_model.specs.BuiltIns.{EMPTY}
use Rattle.cd_forms.specs.Inner.Members.{is_same, is_member}

id_from_number : (id other : NodeId) → id.0 ≡ other.0 → id ≡ other
id_from_number id other same =
    ap (λ n. let one : NodeId = record { 0 = n } in one) same

one_or : (a b : Bool) → (a || b) ≡ true → (a ≡ true) ⊎ (b ≡ true)
one_or true b is = inl refl
one_or false b is = inr is

-- a fact of a node that a set holds
among : (ids : List NodeId) (id : NodeId) → holds ids id ≡ true → AnyOf (λ other. other ≡ id) ids
among [] id is = absurd (true≢false (sym is))
among (one ∷ ids) id is = elim (one_or (one.0 == id.0) (holds ids id) is) [
  | inl here ↦ inl (id_from_number one id (grind (arith, nat_tests)))
  | inr later ↦ inr (among ids id later)
]

among_holds : (ids : List NodeId) (id : NodeId) → AnyOf (λ other. other ≡ id) ids
    → holds ids id ≡ true
among_holds [] id is = absurd is
among_holds (one ∷ ids) id (inl same) =
    let number : one.0 ≡ id.0 = ap (λ (i : NodeId). i.0) same in grind (arith, nat_tests)
among_holds (one ∷ ids) id (inr later) =
    let on = among_holds ids id later in grind (arith, nat_tests)

same_parts : (part id : NodeId) → is_same part id ≡ true → part ≡ id
same_parts part id is = id_from_number part id (grind (arith, nat_tests))

-- a member is a part, and each part is one or the empty node
part_of : (parts : List NodeId) (id : NodeId) → is_member parts id ≡ true
    → AnyOf (λ other. other ≡ id) parts
part_of [] id is = absurd (true≢false (sym is))
part_of (part ∷ parts) id is = elim (one_or (is_same part id) (is_member parts id) is) [
  | inl here ↦ inl (same_parts part id here)
  | inr later ↦ inr (part_of parts id later)
]

empty_or : (parts : List NodeId) (id : NodeId) → AnyOf (λ other. other ≡ id) parts
    → (id ≡ EMPTY) ⊎ (is_member parts id ≡ true)
empty_or [] id is = absurd is
empty_or (part ∷ parts) id (inr later) = elim (empty_or parts id later) [
  | inl empty ↦ inl empty
  | inr on ↦ inr (grind (arith, nat_tests))
]
empty_or (part ∷ parts) id (inl same) = elim (cases_Bool (part.0 == 0)) [
  | inl empty ↦ inl (sym same ∙ id_from_number part EMPTY (grind (arith, nat_tests)))
  | inr other ↦
      let number : part.0 ≡ id.0 = ap (λ (i : NodeId). i.0) same in
      inr (grind (arith, nat_tests))
]

module _ (parts members : List NodeId)
    (are : (id : NodeId) → holds members id ≡ is_member parts id) where
  pub member_is_part : (Fact : NodeId → Type 0) (others : List NodeId)
      → ((id : NodeId) → AnyOf (λ other. other ≡ id) others → holds members id ≡ true)
      → AllOf Fact parts → AllOf Fact others
  member_is_part Fact [] inside each = tt
  member_is_part Fact (id ∷ others) inside each = (
    of_part parts id (part_of parts id (sym (are id) ∙ inside id (inl refl))) each,
    member_is_part Fact others (λ other is. inside other (inr is)) each,
  )
    where
      of_part : (parts : List NodeId) (id : NodeId) → AnyOf (λ other. other ≡ id) parts
          → AllOf Fact parts → Fact id
      of_part [] id is each = absurd is
      of_part (part ∷ parts) id (inl same) each = subst Fact same each.0
      of_part (part ∷ parts) id (inr later) each = of_part parts id later each.1

  -- what holds of each part holds of each member
  pub each_member : (Fact : NodeId → Type 0) → AllOf Fact parts → AllOf Fact members
  each_member Fact each = member_is_part Fact members (λ id is. among_holds members id is) each

  -- a fact of a member is one of a part, and back where the empty node has it not
  one_has : (Fact : NodeId → Type 0) (ids : List NodeId) (id : NodeId)
      → AnyOf (λ other. other ≡ id) ids → Fact id → AnyOf Fact ids
  one_has Fact [] id is fact = absurd is
  one_has Fact (other ∷ ids) id (inl same) fact = inl (subst Fact (sym same) fact)
  one_has Fact (other ∷ ids) id (inr later) fact = inr (one_has Fact ids id later fact)

  of_members : (Fact : NodeId → Type 0) (ids : List NodeId)
      → ((id : NodeId) → AnyOf (λ other. other ≡ id) ids → holds members id ≡ true)
      → AnyOf Fact ids → AnyOf Fact parts
  of_members Fact [] inside is = absurd is
  of_members Fact (id ∷ ids) inside (inl here) =
      one_has Fact parts id (part_of parts id (sym (are id) ∙ inside id (inl refl))) here
  of_members Fact (id ∷ ids) inside (inr later) =
      of_members Fact ids (λ other is. inside other (inr is)) later

  pub member_of_part : (Fact : NodeId → Type 0) → AnyOf Fact members → AnyOf Fact parts
  member_of_part Fact is = of_members Fact members (λ id is. among_holds members id is) is

  of_parts : (Fact : NodeId → Type 0) → (Fact EMPTY → ⊥) → (ids : List NodeId)
      → ((id : NodeId) → AnyOf (λ other. other ≡ id) ids → AnyOf (λ other. other ≡ id) parts)
      → AnyOf Fact ids → AnyOf Fact members
  of_parts Fact none [] inside is = absurd is
  of_parts Fact none (id ∷ ids) inside (inl here) =
      elim (empty_or parts id (inside id (inl refl))) [
        | inl empty ↦ absurd (none (subst Fact empty here))
        | inr is ↦ one_has Fact members id (among members id (are id ∙ is)) here
      ]
  of_parts Fact none (id ∷ ids) inside (inr later) =
      of_parts Fact none ids (λ other is. inside other (inr is)) later

  pub part_has_member : (Fact : NodeId → Type 0) → (Fact EMPTY → ⊥) → AnyOf Fact parts
      → AnyOf Fact members
  part_has_member Fact none is = of_parts Fact none parts (λ id is. is) is
