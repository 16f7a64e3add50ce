-- Unions and meets over nodes hold the same without the members that are dropped.
use Rattle.std.proofs.Common.{◌≡◌, ℕ, Bool, true, false, ◌&&◌, ◌||◌, List, [], ◌∷◌, ◌++◌, ◌⊎◌, inl, inr, map, refl, sym}
use Rattle.std.proofs.Common.{ap, subst, ◌∙◌, if◌then◌else◌}
use Rattle.std.specs.Bool.{beq}
use Rattle.std.specs.Cmp.{booleans_Decides}
use Rattle.std.specs.List.{list_any}
use Rattle.std.proofs.lemmas.Bool.{or_cases, eqb-true, false≢true}
use Rattle.cd_sets.specs.declared.node_id.NodeId.{NodeId}
use Rattle.cd_model.specs.BuiltIns.{EMPTY, ANY, node}
use Rattle.cd_model.specs.Formula as formula
use Rattle.cd_model.specs.Formula.{Graph, Formula, Formulas, NoFormula, AFormula, formula_at, formulas_of}
use Rattle.cd_resolve.specs.Inner.Equates.{HasUnion, HasMeet}
use Rattle.cd_shared.specs.Equation.{Equations, And, Or}
use Rattle.cd_resolve.specs.Inner.Members.{Sign, same_node, adds_nothing, joined_to, union_of, same_sign, takes_nothing}
use Rattle.cd_resolve.specs.Inner.Members.{met_with, meet_of}
use Rattle.cd_resolve.specs.Inner.Solves.{Solves, signed}
use Rattle.cd_resolve.proofs.BuiltInNodes.{Begins, formula_of_empty, formula_of_any}
use Rattle.cd_resolve.proofs.GivenFormulas.{solved}
use Rattle.cd_model.proofs.Simplified.{Among, AreAmong, AreKept, HasMembers, AddsNothing, TakesNothing, IsUnion, IsMeet}

-- what is among some is among more, and all of some are among themselves
among_more : (some all : Formulas) (one : Formula) → AreAmong some all → AreAmong some (AFormula one all)
among_more NoFormula all one among = tt
among_more (AFormula first rest) all one among = (inr among.0, among_more rest all one among.1)

all_among : (all : Formulas) → AreAmong all all
all_among NoFormula = tt
all_among (AFormula first rest) = (inl refl, among_more rest rest first (all_among rest))

-- Members of any kind, each with a formula, are gathered after others: some that change nothing or are there already
-- are dropped
module _ {X : Type 0} (formula_of : X → Formula) (drops : List X → X → Bool) (ChangesNothing : Formula → Type 0) where
  abbrev formulas : List X → Formulas
  formulas members = formulas_of (map formula_of members)

  abbrev gathered : List X → List X → List X
  gathered members [] = members
  gathered members (x ∷ rest) = gathered (if drops members x then members else members ++ x ∷ []) rest

  -- one more at the end
  among_with : (members : List X) (x : X) (all : Formulas) → AreAmong (formulas members) all → Among (formula_of x) all
      → AreAmong (formulas (members ++ x ∷ [])) all
  among_with [] x all are is = (is, tt)
  among_with (member ∷ members) x all are is = (are.0, among_with members x all are.1 is)

  still_among : (is : Formula) (members : List X) (x : X) → Among is (formulas members)
      → Among is (formulas (members ++ x ∷ []))
  still_among is [] x among = elim among [ ]
  still_among is (member ∷ members) x (inl same) = inl same
  still_among is (member ∷ members) x (inr later) = inr (still_among is members x later)

  last_among : (members : List X) (x : X) → Among (formula_of x) (formulas (members ++ x ∷ []))
  last_among [] x = inl refl
  last_among (member ∷ members) x = inr (last_among members x)

  -- what is gathered are members that were there or come after
  all_gathered : (members rest : List X) (all : Formulas) → AreAmong (formulas members) all
      → AreAmong (formulas rest) all
      → AreAmong (formulas (gathered members rest)) all
  all_gathered members [] all are later = are
  all_gathered members (x ∷ rest) all are later = by_test (drops members x)
      (λ members are. all_gathered members rest all are later.1)
    where
      by_test : (b : Bool)
          → ((members : List X) → AreAmong (formulas members) all → AreAmong (formulas (gathered members rest)) all)
          → AreAmong (formulas (gathered (if b then members else members ++ x ∷ []) rest)) all
      by_test true next = next members are
      by_test false next = next (members ++ x ∷ []) (among_with members x all are later.0)

  -- members that are there stay
  stays : (is : Formula) (members rest : List X) → Among is (formulas members)
      → Among is (formulas (gathered members rest))
  stays is members [] among = among
  stays is members (x ∷ rest) among = by_test (drops members x) (λ members. stays is members rest)
    where
      by_test : (b : Bool)
          → ((members : List X) → Among is (formulas members) → Among is (formulas (gathered members rest)))
          → Among is (formulas (gathered (if b then members else members ++ x ∷ []) rest))
      by_test true next = next members among
      by_test false next = next (members ++ x ∷ []) (still_among is members x among)

  module _ (is_dropped : (members : List X) (x : X) → drops members x ≡ true
      → ChangesNothing (formula_of x) ⊎ Among (formula_of x) (formulas members)) where
    -- each that comes is gathered, changes nothing, or is there
    each_kept : (members rest : List X) → AreKept ChangesNothing (formulas rest) (formulas (gathered members rest))
    each_kept members [] = tt
    each_kept members (x ∷ rest) = by_test (drops members x) refl (λ members. each_kept members rest)
      where
        or_stays : ChangesNothing (formula_of x) ⊎ Among (formula_of x) (formulas members)
            → ChangesNothing (formula_of x) ⊎ Among (formula_of x) (formulas (gathered members rest))
        or_stays (inl nothing) = inl nothing
        or_stays (inr among) = inr (stays (formula_of x) members rest among)

        by_test : (b : Bool) → drops members x ≡ b
            → ((members : List X) → AreKept ChangesNothing (formulas rest) (formulas (gathered members rest)))
            → AreKept ChangesNothing (formulas (x ∷ rest))
            (formulas (gathered (if b then members else members ++ x ∷ []) rest))
        by_test true test next = (or_stays (is_dropped members x test), next members)
        by_test false test next =
            (inr (stays (formula_of x) (members ++ x ∷ []) rest (last_among members x)), next (members ++ x ∷ []))

    gathered_members : (all : List X) → HasMembers ChangesNothing (formulas (gathered [] all)) (formulas all)
    gathered_members all = record {
      among = all_gathered [] all (formulas all) tt (all_among (formulas all));
      kept = each_kept [] all;
    }

-- nodes that are the same, and signs that are
is_same_node : (one other : NodeId) → same_node one other ≡ true → one ≡ other
is_same_node one other test = ap node (eqb-true one.0 other.0 test)

both_true : (a b : Bool) → (a && b) ≡ true → (a ≡ true) × (b ≡ true)
both_true true b test = (refl, test)
both_true false b test = absurd (false≢true test)

is_same_sign : (one other : Sign) → same_sign one other ≡ true → one ≡ other
is_same_sign one other test = by_parts (both_true _ _ test)
  where
    same_pair : (kept kept' : Bool) (id id' : NodeId) → kept ≡ kept' → id ≡ id'
        → ◌≡◌ {A = Sign} (kept, id) (kept', id')
    same_pair kept kept' id id' same_kept same_id =
        ap (λ (kept : Bool). (kept, id)) same_kept ∙ ap (λ (id : NodeId). (kept', id)) same_id

    by_parts : (beq one.0 other.0 ≡ true) × (same_node one.1 other.1 ≡ true) → one ≡ other
    by_parts parts = same_pair one.0 other.0 one.1 other.1
        ((booleans_Decides one.0 other.0).0 parts.0) (is_same_node one.1 other.1 parts.1)

-- one that stands among others is the same as one of them
module _ {X : Type 0} (same : X → X → Bool) (is_same : (one other : X) → same one other ≡ true → one ≡ other)
    (formula_of : X → Formula) where
  is_there : (x : X) (members : List X) → list_any (same x) members ≡ true
      → Among (formula_of x) (formulas_of (map formula_of members))
  is_there x [] test = absurd (false≢true test)
  is_there x (member ∷ members) test = by_test (or_cases _ _ test) (is_there x members)
    where
      by_test : (same x member ≡ true) ⊎ (list_any (same x) members ≡ true)
          → (list_any (same x) members ≡ true → Among (formula_of x) (formulas_of (map formula_of members)))
          → Among (formula_of x) (formulas_of (map formula_of (member ∷ members)))
      by_test (inl here) later = inl (ap formula_of (is_same x member here))
      by_test (inr there) later = inr (later there)

module _ (graph : Graph) (begins : Begins graph) where
  -- the formula after a sign
  abbrev of_sign : Sign → Formula
  of_sign sign = signed sign.0 (formula_at graph sign.1)

  -- what a union and a meet drop
  dropped_id : (members : List NodeId) (id : NodeId) → adds_nothing members id ≡ true
      → AddsNothing (formula_at graph id) ⊎ Among (formula_at graph id) (formulas_of (map (formula_at graph) members))
  dropped_id members id test = by_test (or_cases _ _ test)
    where
      by_test : (same_node EMPTY id ≡ true) ⊎ (list_any (same_node id) members ≡ true)
          → AddsNothing (formula_at graph id)
          ⊎ Among (formula_at graph id) (formulas_of (map (formula_at graph) members))
      by_test (inl empty) = inl
          (ap (formula_at graph) (sym (is_same_node EMPTY id empty)) ∙ formula_of_empty graph begins)
      by_test (inr there) = inr (is_there same_node is_same_node (formula_at graph) id members there)

  dropped_sign : (signs : List Sign) (sign : Sign) → takes_nothing signs sign ≡ true
      → TakesNothing (of_sign sign) ⊎ Among (of_sign sign) (formulas_of (map of_sign signs))
  dropped_sign signs sign test = by_test (or_cases _ _ test)
    where
      by_formula : (same_sign (true, ANY) sign ≡ true) ⊎ (same_sign (false, EMPTY) sign ≡ true)
          → TakesNothing (of_sign sign)
      by_formula (inl any) = inl (ap of_sign (sym (is_same_sign (true, ANY) sign any)) ∙ formula_of_any graph begins)
      by_formula (inr empty) = inr (ap of_sign (sym (is_same_sign (false, EMPTY) sign empty))
          ∙ ap formula.Not (formula_of_empty graph begins))

      by_test : ((same_sign (true, ANY) sign || same_sign (false, EMPTY) sign) ≡ true)
          ⊎ (list_any (same_sign sign) signs ≡ true)
          → TakesNothing (of_sign sign) ⊎ Among (of_sign sign) (formulas_of (map of_sign signs))
      by_test (inl nothing) = inl (by_formula (or_cases _ _ nothing))
      by_test (inr there) = inr (is_there same_sign is_same_sign of_sign sign signs there)

  -- members after those that are there are gathered
  joined_is : (members ids : List NodeId)
      → gathered (formula_at graph) adds_nothing AddsNothing members ids ≡ joined_to members ids
  joined_is members [] = refl
  joined_is members (id ∷ ids) = joined_is (if adds_nothing members id then members else members ++ id ∷ []) ids

  met_is : (members signs : List Sign)
      → gathered of_sign takes_nothing TakesNothing members signs ≡ met_with members signs
  met_is members [] = refl
  met_is members (sign ∷ signs) = met_is (if takes_nothing members sign then members else members ++ sign ∷ []) signs

  union_members : (ids : List NodeId)
      → HasMembers AddsNothing (formulas_of (map (formula_at graph) (union_of ids)))
      (formulas_of (map (formula_at graph) ids))
  union_members ids = subst
      (λ members. HasMembers AddsNothing (formulas_of (map (formula_at graph) members))
      (formulas_of (map (formula_at graph) ids)))
      (joined_is [] ids) (gathered_members (formula_at graph) adds_nothing AddsNothing dropped_id ids)

  meet_members : (signs : List Sign)
      → HasMembers TakesNothing (formulas_of (map of_sign (meet_of signs))) (formulas_of (map of_sign signs))
  meet_members signs = subst
      (λ members. HasMembers TakesNothing (formulas_of (map of_sign members)) (formulas_of (map of_sign signs)))
      (met_is [] signs) (gathered_members of_sign takes_nothing TakesNothing dropped_sign signs)

  module _ (first : ℕ) (equations : Equations) (solves : Solves graph first equations) where
    by_members : (id : NodeId) (members : List NodeId) (all : Formulas) → HasUnion first equations id members
        → HasMembers AddsNothing (formulas_of (map (formula_at graph) members)) all → IsUnion (formula_at graph id) all
    by_members id [] all has are = subst (λ formula. IsUnion formula all)
        (sym (ap (formula_at graph) has ∙ formula_of_empty graph begins)) (IsUnion.no_part all are)
    by_members id (one ∷ []) all has are = subst (λ id. IsUnion (formula_at graph id) all) (sym has)
        (IsUnion.one_part (formula_at graph one) all are)
    by_members id (one ∷ other ∷ rest) all has are = subst (λ formula. IsUnion formula all)
        (sym (solved graph first equations id (Or (one ∷ other ∷ rest)) solves has)) (IsUnion.parts _ all are)

    by_signs : (id : NodeId) (signs : List Sign) (all : Formulas) → HasMeet first equations id signs
        → HasMembers TakesNothing (formulas_of (map of_sign signs)) all → IsMeet (formula_at graph id) all
    by_signs id [] all has are = subst (λ formula. IsMeet formula all)
        (sym (ap (formula_at graph) has ∙ formula_of_any graph begins)) (IsMeet.no_part all are)
    by_signs id ((true, one) ∷ []) all has are = subst (λ id. IsMeet (formula_at graph id) all) (sym has)
        (IsMeet.one_part (formula_at graph one) all are)
    by_signs id ((true, one) ∷ sign ∷ rest) all has are = subst (λ formula. IsMeet formula all)
        (sym (solved graph first equations id (And ((true, one) ∷ sign ∷ rest)) solves has)) (IsMeet.parts _ all are)
    by_signs id ((false, one) ∷ rest) all has are = subst (λ formula. IsMeet formula all)
        (sym (solved graph first equations id (And ((false, one) ∷ rest)) solves has)) (IsMeet.parts _ all are)

    -- the formula at the node of a union, and of a meet
    pub is_union : (id : NodeId) (ids : List NodeId) → HasUnion first equations id (union_of ids)
        → IsUnion (formula_at graph id) (formulas_of (map (formula_at graph) ids))
    is_union id ids has = by_members id (union_of ids) _ has (union_members ids)

    pub is_meet : (id : NodeId) (signs : List Sign) → HasMeet first equations id (meet_of signs)
        → IsMeet (formula_at graph id) (formulas_of (map of_sign signs))
    is_meet id signs has = by_signs id (meet_of signs) _ has (meet_members signs)
