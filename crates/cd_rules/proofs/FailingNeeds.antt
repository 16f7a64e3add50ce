-- A need is refuted where a tree of cases shows that each way has a subsumed question.
use Rattle.std.proofs.Common.{◌≡◌, ◌⊎◌, List, [], ◌∷◌, map, inl, inr}
use Rattle.cd_sets.specs.declared.node_id.NodeId.{NodeId}
use Rattle.cd_sets.specs.declared.question.Question.{Question}
use Rattle.cd_model.specs.AllOf.{AllOf, AnyOf}
use Rattle.cd_rules.specs.Clauses.{Pair, Triple}
use Rattle.cd_model.specs.BuiltIns.{ATOM, RECORD}
use Rattle.cd_rules.specs.Fails.{Fails, seen, cases, ThreeFail, three_seen, three_cases}
use Rattle.cd_rules.specs.Groups.{AtFirst, AtSecond, AtTag, AtAttributes, AtContent, part, xml_part}
use Rattle.cd_rules.specs.Tasks.{HasSubsumed}
use Rattle.cd_rules.specs.Family.{IsSubsumed, RefutesNeed, AreAmong}
use Rattle.cd_rules.specs.Needs.{question, pair_way, xml_way, arrow_way, result_questions, splits, splits_in_three}
use Rattle.cd_rules.specs.Needs.{to_one, to_other, to_first, to_middle, to_last}
use Rattle.cd_rules.proofs.Among.{of_each, each_of_its, among_itself, among_map}
use Rattle.cd_rules.proofs.Asking.{each_of_map}
use Rattle.cd_rules.proofs.GroupsFail.{ArePartsAmong, AreSidesAmong, AreThreeAmong}
use Rattle.cd_rules.proofs.Subsumption.{asks_more, subsumes_more}
use Rattle.cd_rules.proofs.Sides.{splits_back, splits_in_three_back}

-- two sides, and a fact that comes from sides to longer ones
abbrev Sides : (X : Type 0) → Type 0
Sides X = List X × List X

abbrev ComesOn : {X : Type 0} → (Sides X → Type 0) → Type 0
ComesOn {X} fact = (sides longer : Sides X) → AreAmong sides.0 longer.0 → AreAmong sides.1 longer.1 → fact sides → fact longer

-- and three
abbrev ThreeSides : (X : Type 0) → Type 0
ThreeSides X = List X × List X × List X

abbrev ComesOnInThree : {X : Type 0} → (ThreeSides X → Type 0) → Type 0
ComesOnInThree {X} fact = (sides longer : ThreeSides X)
    → AreAmong sides.0 longer.0 → AreAmong sides.1 longer.1 → AreAmong sides.2 longer.2 → fact sides → fact longer

-- one of a list stands on a side
abbrev IsGiven : {X : Type 0} → Sides X → X → Type 0
IsGiven {X} sides x = AnyOf (λ (other : X). other ≡ x) sides.0 ⊎ AnyOf (λ (other : X). other ≡ x) sides.1

abbrev IsGivenInThree : {X : Type 0} → ThreeSides X → X → Type 0
IsGivenInThree {X} sides x = AnyOf (λ (other : X). other ≡ x) sides.0 ⊎ AnyOf (λ (other : X). other ≡ x) sides.1
    ⊎ AnyOf (λ (other : X). other ≡ x) sides.2

by_cases : {A B C : Type 0} → A ⊎ B → (A → C) → (B → C) → C
by_cases (inl a) one other = one a
by_cases (inr b) one other = other b

by_three : {A B C D : Type 0} → A ⊎ B ⊎ C → (A → D) → (B → D) → (C → D) → D
by_three (inl a) one other last = one a
by_three (inr (inl b)) one other last = other b
by_three (inr (inr c)) one other last = last c

-- sides on which each of a list stands have the fact, if they have all that is given
fails_at : {X : Type 0} (Fact : Sides X → Type 0) → ComesOn Fact → (all : List X) (sides : Sides X) → AllOf (IsGiven sides) all
    → (given : Sides X) → Fails Fact all given → AreAmong given.0 sides.0 → AreAmong given.1 sides.1 → Fact sides
fails_at Fact comes all sides each _ (seen given is) one other = comes given sides one other is
fails_at Fact comes all sides each _ (cases given x there first second) one other =
    by_cases (of_each (IsGiven sides) all x each there)
    (λ is. fails_at Fact comes all sides each (to_one x given) first (is, one) other)
    (λ is. fails_at Fact comes all sides each (to_other x given) second one (is, other))

-- so each way to split the list has the fact
pub all_fail : {X : Type 0} (Fact : Sides X → Type 0) → ComesOn Fact → (all : List X) → Fails Fact all ([], []) → AllOf Fact (splits all)
all_fail {X} Fact comes all tree = each_of_its Fact (splits all) (λ sides is. fails_at Fact comes all sides
    (splits_back (λ x. AnyOf (λ (other : X). other ≡ x) sides.0) (λ x. AnyOf (λ (other : X). other ≡ x) sides.1) all sides is
    (among_itself sides.0) (among_itself sides.1)) ([], []) tree tt tt)

-- three sides
three_fail_at : {X : Type 0} (Fact : ThreeSides X → Type 0) → ComesOnInThree Fact → (all : List X) (sides : ThreeSides X)
    → AllOf (IsGivenInThree sides) all → (given : ThreeSides X) → ThreeFail Fact all given
    → AreAmong given.0 sides.0 → AreAmong given.1 sides.1 → AreAmong given.2 sides.2 → Fact sides
three_fail_at Fact comes all sides each _ (three_seen given is) one other last = comes given sides one other last is
three_fail_at Fact comes all sides each _ (three_cases given x there first middle third) one other last =
    by_three (of_each (IsGivenInThree sides) all x each there)
    (λ is. three_fail_at Fact comes all sides each (to_first x given) first (is, one) other last)
    (λ is. three_fail_at Fact comes all sides each (to_middle x given) middle one (is, other) last)
    (λ is. three_fail_at Fact comes all sides each (to_last x given) third one other (is, last))

pub all_three_fail : {X : Type 0} (Fact : ThreeSides X → Type 0) → ComesOnInThree Fact → (all : List X) → ThreeFail Fact all ([], [], [])
    → AllOf Fact (splits_in_three all)
all_three_fail {X} Fact comes all tree = each_of_its Fact (splits_in_three all) (λ sides is. three_fail_at Fact comes all sides
    (splits_in_three_back (λ x. AnyOf (λ (other : X). other ≡ x) sides.0) (λ x. AnyOf (λ (other : X). other ≡ x) sides.1)
    (λ x. AnyOf (λ (other : X). other ≡ x) sides.2) all sides is
    (among_itself sides.0) (among_itself sides.1) (among_itself sides.2)) ([], [], []) tree tt tt tt)

module _ (family : List Question) where
  -- a family subsumes the question that wants and refuses more, where it subsumes the one that
  -- wants and refuses less
  asks_further : (pos neg more_pos more_neg : List NodeId) → AreAmong pos more_pos → AreAmong neg more_neg
      → IsSubsumed (question pos neg) family → IsSubsumed (question more_pos more_neg) family
  asks_further pos neg more_pos more_neg wanted refused =
      subsumes_more family (question more_pos more_neg) (question pos neg) (asks_more pos neg more_pos more_neg wanted refused)

  pub pair_on : (wanted : List Pair) (sides more : Sides Pair) → AreSidesAmong sides more → HasSubsumed family (pair_way wanted sides)
      → HasSubsumed family (pair_way wanted more)
  pair_on wanted sides more less (inl first) = inl (asks_further (map (λ parts. parts.0) wanted) (map (λ parts. parts.0) sides.0)
      (map (λ parts. parts.0) wanted) (map (λ parts. parts.0) more.0) (among_itself (map (λ parts. parts.0) wanted)) less.0 first)
  pair_on wanted sides more less (inr (inl second)) = inr (inl (asks_further (map (λ parts. parts.1) wanted)
      (map (λ parts. parts.1) sides.1) (map (λ parts. parts.1) wanted) (map (λ parts. parts.1) more.1)
      (among_itself (map (λ parts. parts.1) wanted)) less.1 second))
  pair_on wanted sides more less (inr (inr none)) = elim none [ ]

  -- the question of a result asks more where more arrows speak of it
  results_on : (refused : Pair) (some all : List Pair) → ArePartsAmong (part AtSecond) some all
      → HasSubsumed family (result_questions refused some) → HasSubsumed family (result_questions refused all)
  results_on refused [] all among is = elim is [ ]
  results_on refused (x ∷ some) [] among is = elim among.0 [ ]
  results_on refused (x ∷ some) (y ∷ all) among (inl is) = inl (asks_further (map (λ parts. parts.1) (x ∷ some)) (refused.1 ∷ [])
      (map (λ parts. parts.1) (y ∷ all)) (refused.1 ∷ []) among (among_itself (refused.1 ∷ [])) is)
  results_on refused (x ∷ some) (y ∷ all) among (inr none) = elim none [ ]

  pub arrow_on : (refused : Pair) (sides more : Sides Pair) → AreSidesAmong sides more → HasSubsumed family (arrow_way refused sides)
      → HasSubsumed family (arrow_way refused more)
  arrow_on refused sides more less (inl argument) = inl (asks_further (refused.0 ∷ []) (map (λ parts. parts.0) sides.0)
      (refused.0 ∷ []) (map (λ parts. parts.0) more.0) (among_itself (refused.0 ∷ [])) less.0 argument)
  arrow_on refused sides more less (inr result) = inr (results_on refused sides.1 more.1 less.1 result)

  -- what is so of more parts is so of more members
  of_members : (Fact : Sides Pair → Type 0) → ((sides more : Sides Pair) → AreSidesAmong sides more → Fact sides → Fact more) → ComesOn Fact
  of_members Fact on sides longer one other =
      on sides longer (among_map (part AtFirst) sides.0 longer.0 one, among_map (part AtSecond) sides.1 longer.1 other)

  pub pair_need_fails : (wanted refused : List Pair) → Fails (λ sides. HasSubsumed family (pair_way wanted sides)) refused ([], [])
      → RefutesNeed family (map (pair_way wanted) (splits refused))
  pair_need_fails wanted refused tree = each_of_map (pair_way wanted) (HasSubsumed family) (splits refused)
      (all_fail (λ sides. HasSubsumed family (pair_way wanted sides))
      (of_members (λ sides. HasSubsumed family (pair_way wanted sides)) (pair_on wanted)) refused tree)

  pub arrow_need_fails : (refused : Pair) (wanted : List Pair) → Fails (λ sides. HasSubsumed family (arrow_way refused sides)) wanted ([], [])
      → RefutesNeed family (map (arrow_way refused) (splits wanted))
  arrow_need_fails refused wanted tree = each_of_map (arrow_way refused) (HasSubsumed family) (splits wanted)
      (all_fail (λ sides. HasSubsumed family (arrow_way refused sides))
      (of_members (λ sides. HasSubsumed family (arrow_way refused sides)) (arrow_on refused)) wanted tree)

  pub xml_on : (wanted : List Triple) (sides more : ThreeSides Triple) → AreThreeAmong sides more → HasSubsumed family (xml_way wanted sides)
      → HasSubsumed family (xml_way wanted more)
  xml_on wanted sides more less (inl first) = inl (asks_further (ATOM ∷ map (λ parts. parts.0) wanted)
      (map (λ parts. parts.0) sides.0) (ATOM ∷ map (λ parts. parts.0) wanted) (map (λ parts. parts.0) more.0)
      (among_itself (ATOM ∷ map (λ parts. parts.0) wanted)) less.0 first)
  xml_on wanted sides more less (inr (inl second)) = inr (inl (asks_further (RECORD ∷ map (λ parts. parts.1) wanted)
      (map (λ parts. parts.1) sides.1) (RECORD ∷ map (λ parts. parts.1) wanted) (map (λ parts. parts.1) more.1)
      (among_itself (RECORD ∷ map (λ parts. parts.1) wanted)) less.1 second))
  xml_on wanted sides more less (inr (inr (inl third))) = inr (inr (inl (asks_further (map (λ parts. parts.2) wanted)
      (map (λ parts. parts.2) sides.2) (map (λ parts. parts.2) wanted) (map (λ parts. parts.2) more.2)
      (among_itself (map (λ parts. parts.2) wanted)) less.2 third)))
  xml_on wanted sides more less (inr (inr (inr none))) = elim none [ ]

  of_xml_members : (Fact : ThreeSides Triple → Type 0) → ((sides more : ThreeSides Triple) → AreThreeAmong sides more → Fact sides → Fact more)
      → ComesOnInThree Fact
  of_xml_members Fact on sides longer one other last = on sides longer (
    among_map (xml_part AtTag) sides.0 longer.0 one,
    among_map (xml_part AtAttributes) sides.1 longer.1 other,
    among_map (xml_part AtContent) sides.2 longer.2 last,
  )

  pub xml_need_fails : (wanted refused : List Triple) → ThreeFail (λ sides. HasSubsumed family (xml_way wanted sides)) refused ([], [], [])
      → RefutesNeed family (map (xml_way wanted) (splits_in_three refused))
  xml_need_fails wanted refused tree = each_of_map (xml_way wanted) (HasSubsumed family) (splits_in_three refused)
      (all_three_fail (λ sides. HasSubsumed family (xml_way wanted sides))
      (of_xml_members (λ sides. HasSubsumed family (xml_way wanted sides)) (xml_on wanted)) refused tree)
