-- Members of a list that agree with one of them are a group, which is taken out of the list.
use Rattle.std.proofs.Common.{◌≡◌, ◌==◌, ◌<◌, ℕ, zero, suc, Bool, true, false, List, [], ◌∷◌, if◌then◌else◌, Some, slice_get, get_or, length}
use Rattle.std.proofs.Common.{inl, inr, refl, sym, ap, ◌∙◌, true≢false, subst}
use Rattle.std.specs.List.{remove}
use Rattle.std.proofs.lemmas.Bool.{eqb-true, eq-eqb, and_parts}
use Rattle.std.proofs.lemmas.Option.{slice_get-get_or, same_Some}
use Rattle.cd_sets.specs.declared.node_id.NodeId.{NodeId}
use Rattle.cd_model.specs.AllOf.{AllOf, AnyOf}
use Rattle.cd_rules.specs.Clauses.{Pair, Triple}
use Rattle.cd_rules.specs.Groups.{Side, AtFirst, AtSecond, XmlSide, AtTag, AtAttributes, AtContent, part, xml_part}
use Rattle.cd_rules.specs.Groups.{other_sides, other_xml_sides, IsGroup}
use Rattle.cd_rules.specs.Tasks.{taken_here, taken_later, TakesAll, takes_none, takes_one}
use Rattle.cd_model.proofs.Ones.{each_of_all}
use Rattle.cd_tasks.specs.Inner.Groups.{agrees, xml_agrees, divided}
use Rattle.cd_tasks.proofs.Taken.{takes}

-- what is taken out of a list is taken out of it with one more before
taken_behind : {X : Type 0} (x : X) (some all rest : List X) → TakesAll some all rest → TakesAll some (x ∷ all) (x ∷ rest)
taken_behind x _ _ _ (takes_none all) = takes_none (x ∷ all)
taken_behind x _ _ _ (takes_one one some all fewer rest taken more) =
    takes_one one some (x ∷ all) (x ∷ fewer) (x ∷ rest) (taken_later x all fewer taken) (taken_behind x some fewer rest more)

-- one more is put among those that pass, or among the others
abbrev put : {X : Type 0} → X → List X × List X → Bool → List X × List X
put x rest b = if b then (x ∷ rest.0, rest.1) else (rest.0, x ∷ rest.1)

module _ {X : Type 0} (passes : X → Bool) where
  -- those that pass are taken out
  divided_taken : (xs : List X) → TakesAll (divided passes xs).0 xs (divided passes xs).1
  divided_taken [] = takes_none []
  divided_taken (x ∷ xs) = by_test (passes x) (divided passes xs) (divided_taken xs)
    where
      by_test : (b : Bool) (rest : List X × List X) → TakesAll rest.0 xs rest.1 → TakesAll (put x rest b).0 (x ∷ xs) (put x rest b).1
      by_test true rest taken = takes_one x rest.0 (x ∷ xs) xs rest.1 (taken_here xs) taken
      by_test false rest taken = taken_behind x rest.0 xs rest.1 taken

  -- each of them has what follows from that
  divided_each : (Fact : X → Type 0) → ((x : X) → passes x ≡ true → Fact x) → (xs : List X) → AllOf Fact (divided passes xs).0
  divided_each Fact has [] = tt
  divided_each Fact has (x ∷ xs) = by_test (passes x) refl (divided passes xs) (divided_each Fact has xs)
    where
      by_test : (b : Bool) → passes x ≡ b → (rest : List X × List X) → AllOf Fact rest.0 → AllOf Fact (put x rest b).0
      by_test true is rest each = (has x is, each)
      by_test false is rest each = each

  -- and one of the list that passes is one of them
  divided_one : (x : X) → passes x ≡ true → (xs : List X) → AnyOf (λ other. other ≡ x) xs → AnyOf (λ other. other ≡ x) (divided passes xs).0
  divided_one x is [] there = there
  divided_one x is (y ∷ xs) there = by_test (passes y) refl (divided passes xs) there (divided_one x is xs)
    where
      by_test : (b : Bool) → passes y ≡ b → (rest : List X × List X) → AnyOf (λ other. other ≡ x) (y ∷ xs)
          → (AnyOf (λ other. other ≡ x) xs → AnyOf (λ other. other ≡ x) rest.0) → AnyOf (λ other. other ≡ x) (put y rest b).0
      by_test true so rest (inl same) further = inl same
      by_test true so rest (inr later) further = inr (further later)
      by_test false so rest (inl same) further = absurd (true≢false (sym is ∙ ap passes (sym same) ∙ so))
      by_test false so rest (inr later) further = further later

-- one that agrees with a member has its parts on the other sides
one_node : (first second : NodeId) → first.0 == second.0 ≡ true → first ≡ second
one_node first second same = let number = eqb-true first.0 second.0 same in λ i. record { 0 = number i }

agreeing : (differs : Side) (member one : Pair) → agrees differs member one ≡ true
    → AllOf (λ side. part side one ≡ part side member) (other_sides differs)
agreeing AtFirst member one is = (one_node one.1 member.1 is, tt)
agreeing AtSecond member one is = (one_node one.0 member.0 is, tt)

xml_agreeing : (differs : XmlSide) (member one : Triple) → xml_agrees differs member one ≡ true
    → AllOf (λ side. xml_part side one ≡ xml_part side member) (other_xml_sides differs)
xml_agreeing AtTag member one is =
    let both = and_parts (one.1.0 == member.1.0) (one.2.0 == member.2.0) is in
    (one_node one.1 member.1 both.0, (one_node one.2 member.2 both.1, tt))
xml_agreeing AtAttributes member one is =
    let both = and_parts (one.0.0 == member.0.0) (one.2.0 == member.2.0) is in
    (one_node one.0 member.0 both.0, (one_node one.2 member.2 both.1, tt))
xml_agreeing AtContent member one is =
    let both = and_parts (one.0.0 == member.0.0) (one.1.0 == member.1.0) is in
    (one_node one.0 member.0 both.0, (one_node one.1 member.1 both.1, tt))

-- each agrees with itself
agrees_itself : (differs : Side) (member : Pair) → agrees differs member member ≡ true
agrees_itself AtFirst member = eq-eqb member.1.0 member.1.0 refl
agrees_itself AtSecond member = eq-eqb member.0.0 member.0.0 refl

xml_agrees_itself : (differs : XmlSide) (member : Triple) → xml_agrees differs member member ≡ true
xml_agrees_itself AtTag member = rw (eq-eqb member.1.0 member.1.0 refl, eq-eqb member.2.0 member.2.0 refl) refl
xml_agrees_itself AtAttributes member = rw (eq-eqb member.0.0 member.0.0 refl, eq-eqb member.2.0 member.2.0 refl) refl
xml_agrees_itself AtContent member = rw (eq-eqb member.0.0 member.0.0 refl, eq-eqb member.1.0 member.1.0 refl) refl

-- what stands at a place does not depend on what would stand in for it
same_default : {X : Type 0} (all : List X) (place : ℕ) (one other : X) → place < length all → get_or all place one ≡ get_or all place other
same_default all place one other within =
    same_Some (get_or all place one) (get_or all place other) (sym (slice_get-get_or all place one within) ∙ slice_get-get_or all place other within)

-- the member at a place is one of the list
one_at : {X : Type 0} (all : List X) (place : ℕ) (x : X) → slice_get all place ≡ Some x → AnyOf (λ other. other ≡ x) all
one_at [] place x at = absurd cc
one_at (y ∷ all) zero x at = inl (cc at)
one_at (y ∷ all) (suc place) x at = inr (one_at all place x at)

-- so that one with all that agree with it is a group
pub group_together : (differs : Side) (left group rest : List Pair) (place : ℕ) (no_one : Pair) → place < length left
    → (group, rest) ≡ divided (agrees differs (get_or left place no_one)) left
    → TakesAll group left rest × ((member : Pair) × (slice_get left place ≡ Some member) × IsGroup part (other_sides differs) member group)
group_together differs left group rest place no_one within same =
    subst (λ (both : List Pair × List Pair). TakesAll both.0 left both.1
    × ((member : Pair) × (slice_get left place ≡ Some member) × IsGroup part (other_sides differs) member both.0)) (sym same) (
      divided_taken (agrees differs member) left,
      (
        member,
        at,
        (
          divided_one (agrees differs member) member (agrees_itself differs member) left (one_at left place member at),
          divided_each (agrees differs member) (λ one. AllOf (λ side. part side one ≡ part side member) (other_sides differs))
              (agreeing differs member) left,
        ),
      ),
    )
  where
    member : Pair
    member = get_or left place no_one

    at : slice_get left place ≡ Some member
    at = slice_get-get_or left place no_one within

pub xml_group_together : (differs : XmlSide) (left group rest : List Triple) (place : ℕ) (no_one : Triple) → place < length left
    → (group, rest) ≡ divided (xml_agrees differs (get_or left place no_one)) left
    → TakesAll group left rest
    × ((member : Triple) × (slice_get left place ≡ Some member) × IsGroup xml_part (other_xml_sides differs) member group)
xml_group_together differs left group rest place no_one within same =
    subst (λ (both : List Triple × List Triple). TakesAll both.0 left both.1
    × ((member : Triple) × (slice_get left place ≡ Some member) × IsGroup xml_part (other_xml_sides differs) member both.0)) (sym same) (
      divided_taken (xml_agrees differs member) left,
      (
        member,
        at,
        (
          divided_one (xml_agrees differs member) member (xml_agrees_itself differs member) left (one_at left place member at),
          divided_each (xml_agrees differs member)
              (λ one. AllOf (λ side. xml_part side one ≡ xml_part side member) (other_xml_sides differs))
              (xml_agreeing differs member) left,
        ),
      ),
    )
  where
    member : Triple
    member = get_or left place no_one

    at : slice_get left place ≡ Some member
    at = slice_get-get_or left place no_one within

-- and it is one alone
pub group_alone : {S X : Type 0} (part_on : S → X → NodeId) (sides : List S) (left group rest : List X) (place : ℕ) (no_one : X)
    → place < length left → group ≡ get_or left place no_one ∷ [] → rest ≡ remove left place
    → TakesAll group left rest × ((member : X) × (slice_get left place ≡ Some member) × IsGroup part_on sides member group)
group_alone {S} {X} part_on sides left group rest place no_one within group_is rest_is = (
  subst (λ (group : List X). TakesAll group left rest) (sym group_is) (subst (TakesAll (member ∷ []) left) (sym rest_is)
      (takes_one member [] left (remove left place) (remove left place)
      (takes left place member (same_default left place no_one member within) within) (takes_none (remove left place)))),
  (
    member,
    slice_get-get_or left place no_one within,
    subst (IsGroup part_on sides member) (sym group_is)
        (inl refl, (each_of_all (λ side. part_on side member ≡ part_on side member) (λ side. refl) sides, tt)),
  ),
)
  where
    member : X
    member = get_or left place no_one
