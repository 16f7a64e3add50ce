-- Members that are given to sides together: where all of them fail on each side, nothing is left.
use Rattle.std.proofs.Common.{◌≡◌, List, [], ◌∷◌, ◌++◌, map, inl, sym, ◌∙◌}
use Rattle.cd_sets.specs.declared.node_id.NodeId.{NodeId}
use Rattle.cd_model.specs.AllOf.{AllOf, AnyOf}
use Rattle.cd_rules.specs.Clauses.{Pair, Triple}
use Rattle.cd_rules.specs.Family.{AreAmong}
use Rattle.cd_rules.specs.Fails.{Fails, seen, cases, ThreeFail, three_seen, three_cases}
use Rattle.cd_rules.specs.Groups.{Side, AtFirst, AtSecond, XmlSide, AtTag, AtAttributes, AtContent, part, xml_part}
use Rattle.cd_rules.specs.Groups.{other_sides, other_xml_sides, to_side, to_xml_side, IsGroup}
use Rattle.cd_rules.specs.Needs.{to_one, to_other, to_first, to_middle, to_last}
use Rattle.cd_rules.proofs.Among.{among_itself, among_both, among_map, each_of_its}
use Rattle.cd_model.proofs.Covered.{each_parts}
use Rattle.cd_model.proofs.Ones.{each_weaker, each_of_two, one_on_right}

module _ {X : Type 0} (part_of : X → NodeId) where
  -- the parts of some are among those of others
  abbrev pub ArePartsAmong : (some others : List X) → Type 0
  ArePartsAmong some others = AreAmong (map part_of some) (map part_of others)

  alike : (some : List X) → ArePartsAmong some some
  alike some = among_itself (map part_of some)

  more_before : (group others : List X) → ArePartsAmong others (group ++ others)
  more_before group others = among_map part_of others (group ++ others)
      (each_of_its (λ x. AnyOf (λ (other : X). other ≡ x) (group ++ others)) others
      (λ x is. one_on_right (λ (other : X). other ≡ x) group others is))

  -- where all of a group have the part of one, that one has all their parts
  one_for_all : (x : X) (group others : List X) → AllOf (λ y. part_of y ≡ part_of x) group → ArePartsAmong (group ++ others) (x ∷ others)
  one_for_all x [] others same = more_before (x ∷ []) others
  one_for_all x (y ∷ group) others same = (inl (sym same.0), one_for_all x group others same.1)

  -- so each of the group has them
  each_has_all : (Is : X → Type 0) (x : X) (group : List X) → AllOf (λ y. part_of y ≡ part_of x) group
      → ((y : X) → ((others : List X) → ArePartsAmong (group ++ others) (y ∷ others)) → Is y) → AllOf Is group
  each_has_all Is x group same leads = each_weaker (λ y. part_of y ≡ part_of x) Is
      (λ y same_y. leads y (λ others. one_for_all y group others (each_weaker (λ z. part_of z ≡ part_of x) (λ z. part_of z ≡ part_of y)
      (λ z same_z. same_z ∙ sym same_y) group same))) group same

-- the members that a group is of
abbrev AreOf : {X : Type 0} → (group all : List X) → Type 0
AreOf {X} group all = AllOf (λ y. AnyOf (λ (other : X). other ≡ y) all) group

-- two sides, and others with no fewer parts on each
abbrev pub AreSidesAmong : (sides more : List Pair × List Pair) → Type 0
AreSidesAmong sides more = ArePartsAmong (part AtFirst) sides.0 more.0 × ArePartsAmong (part AtSecond) sides.1 more.1

with_group : (side : Side) (group : List Pair) (given : List Pair × List Pair) → AreSidesAmong given (to_side side group given)
with_group AtFirst group given = (more_before (part AtFirst) group given.0, alike (part AtSecond) given.1)
with_group AtSecond group given = (alike (part AtFirst) given.0, more_before (part AtSecond) group given.1)

-- a group on a side where one member has all its parts
with_one : (side : Side) (y : Pair) (group : List Pair) (given : List Pair × List Pair)
    → ((others : List Pair) → ArePartsAmong (part side) (group ++ others) (y ∷ others))
    → AreSidesAmong (to_side side group given) (to_side side (y ∷ []) given)
with_one AtFirst y group given less = (less given.0, alike (part AtSecond) given.1)
with_one AtSecond y group given less = (alike (part AtFirst) given.0, less given.1)

module _ (Fact : List Pair × List Pair → Type 0) (all : List Pair)
    (comes : (sides more : List Pair × List Pair) → AreSidesAmong sides more → Fact sides → Fact more) where
  -- what fails fails where more is given
  fails_on : (given : List Pair × List Pair) → Fails Fact all given → (more : List Pair × List Pair) → AreSidesAmong given more
      → Fails Fact all more
  fails_on _ (seen given is) more less = seen more (comes given more less is)
  fails_on _ (cases given x there first second) more less = cases more x there
      (fails_on (to_one x given) first (to_one x more)
      (among_both (part AtFirst x) (map (part AtFirst) given.0) (map (part AtFirst) more.0) less.0, less.1))
      (fails_on (to_other x given) second (to_other x more)
      (less.0, among_both (part AtSecond x) (map (part AtSecond) given.1) (map (part AtSecond) more.1) less.1))

  -- each of a group that fails on a side where all have one part fails there
  each_fails : (side : Side) (x : Pair) (group : List Pair) (given : List Pair × List Pair)
      → AllOf (λ y. part side y ≡ part side x) group → Fails Fact all (to_side side group given)
      → AllOf (λ y. Fails Fact all (to_side side (y ∷ []) given)) group
  each_fails side x group given same fails = each_has_all (part side) (λ y. Fails Fact all (to_side side (y ∷ []) given)) x group same
      (λ y less. fails_on (to_side side group given) fails (to_side side (y ∷ []) given) (with_one side y group given less))

  -- where each of a group fails on the one side, and all of them together on the other
  fails_at_first : (group : List Pair) (given : List Pair × List Pair) → AreOf group all
      → AllOf (λ y. Fails Fact all (to_side AtSecond (y ∷ []) given)) group → Fails Fact all (to_side AtFirst group given)
      → Fails Fact all given
  fails_at_first [] given there each tree = tree
  fails_at_first (x ∷ group) given there each tree = fails_at_first group given there.1 each.1
      (cases (to_side AtFirst group given) x there.0 tree
      (fails_on (to_other x given) each.0 (to_other x (to_side AtFirst group given)) (with_group AtFirst group (to_other x given))))

  fails_at_second : (group : List Pair) (given : List Pair × List Pair) → AreOf group all
      → AllOf (λ y. Fails Fact all (to_side AtFirst (y ∷ []) given)) group → Fails Fact all (to_side AtSecond group given)
      → Fails Fact all given
  fails_at_second [] given there each tree = tree
  fails_at_second (x ∷ group) given there each tree = fails_at_second group given there.1 each.1
      (cases (to_side AtSecond group given) x there.0
      (fails_on (to_one x given) each.0 (to_one x (to_side AtSecond group given)) (with_group AtSecond group (to_one x given))) tree)

  pub group_fails : (differs : Side) (x : Pair) (group : List Pair) (given : List Pair × List Pair) → AreOf group all
      → IsGroup part (other_sides differs) x group
      → AllOf (λ side. Fails Fact all (to_side side group given)) (other_sides differs ++ differs ∷ []) → Fails Fact all given
  group_fails AtFirst x group given there is fail = fails_at_first group given there (each_fails AtSecond x group given
      (each_weaker (λ y. AllOf (λ side. part side y ≡ part side x) (AtSecond ∷ [])) (λ y. part AtSecond y ≡ part AtSecond x)
      (λ y same. same.0) group is.1) fail.0) fail.1.0
  group_fails AtSecond x group given there is fail = fails_at_second group given there (each_fails AtFirst x group given
      (each_weaker (λ y. AllOf (λ side. part side y ≡ part side x) (AtFirst ∷ [])) (λ y. part AtFirst y ≡ part AtFirst x)
      (λ y same. same.0) group is.1) fail.0) fail.1.0

-- three sides
abbrev ThreeSides : Type 0
ThreeSides = List Triple × List Triple × List Triple

abbrev pub AreThreeAmong : (sides more : ThreeSides) → Type 0
AreThreeAmong sides more = ArePartsAmong (xml_part AtTag) sides.0 more.0
    × ArePartsAmong (xml_part AtAttributes) sides.1 more.1 × ArePartsAmong (xml_part AtContent) sides.2 more.2

with_xml_group : (side : XmlSide) (group : List Triple) (given : ThreeSides) → AreThreeAmong given (to_xml_side side group given)
with_xml_group AtTag group given =
    (more_before (xml_part AtTag) group given.0, alike (xml_part AtAttributes) given.1, alike (xml_part AtContent) given.2)
with_xml_group AtAttributes group given =
    (alike (xml_part AtTag) given.0, more_before (xml_part AtAttributes) group given.1, alike (xml_part AtContent) given.2)
with_xml_group AtContent group given =
    (alike (xml_part AtTag) given.0, alike (xml_part AtAttributes) given.1, more_before (xml_part AtContent) group given.2)

with_one_xml : (side : XmlSide) (y : Triple) (group : List Triple) (given : ThreeSides)
    → ((others : List Triple) → ArePartsAmong (xml_part side) (group ++ others) (y ∷ others))
    → AreThreeAmong (to_xml_side side group given) (to_xml_side side (y ∷ []) given)
with_one_xml AtTag y group given less = (less given.0, alike (xml_part AtAttributes) given.1, alike (xml_part AtContent) given.2)
with_one_xml AtAttributes y group given less = (alike (xml_part AtTag) given.0, less given.1, alike (xml_part AtContent) given.2)
with_one_xml AtContent y group given less = (alike (xml_part AtTag) given.0, alike (xml_part AtAttributes) given.1, less given.2)

module _ (Fact : ThreeSides → Type 0) (all : List Triple)
    (comes : (sides more : ThreeSides) → AreThreeAmong sides more → Fact sides → Fact more) where
  three_fail_on : (given : ThreeSides) → ThreeFail Fact all given → (more : ThreeSides) → AreThreeAmong given more → ThreeFail Fact all more
  three_fail_on _ (three_seen given is) more less = three_seen more (comes given more less is)
  three_fail_on _ (three_cases given x there first middle last) more less = three_cases more x there
      (three_fail_on (to_first x given) first (to_first x more)
      (among_both (xml_part AtTag x) (map (xml_part AtTag) given.0) (map (xml_part AtTag) more.0) less.0, less.1, less.2))
      (three_fail_on (to_middle x given) middle (to_middle x more)
      (less.0, among_both (xml_part AtAttributes x) (map (xml_part AtAttributes) given.1) (map (xml_part AtAttributes) more.1) less.1, less.2))
      (three_fail_on (to_last x given) last (to_last x more)
      (less.0, less.1, among_both (xml_part AtContent x) (map (xml_part AtContent) given.2) (map (xml_part AtContent) more.2) less.2))

  -- each of a group that fails on sides where all have one part fails there
  each_of_three_fails : (side : XmlSide) (x : Triple) (group : List Triple) (given : ThreeSides)
      → AllOf (λ y. xml_part side y ≡ xml_part side x) group → ThreeFail Fact all (to_xml_side side group given)
      → AllOf (λ y. ThreeFail Fact all (to_xml_side side (y ∷ []) given)) group
  each_of_three_fails side x group given same fails = each_has_all (xml_part side) (λ y. ThreeFail Fact all (to_xml_side side (y ∷ []) given)) x group same
      (λ y less. three_fail_on (to_xml_side side group given) fails (to_xml_side side (y ∷ []) given) (with_one_xml side y group given less))

  each_of_group : (sides : List XmlSide) (x : Triple) (group : List Triple) (given : ThreeSides)
      → AllOf (λ y. AllOf (λ side. xml_part side y ≡ xml_part side x) sides) group
      → AllOf (λ side. ThreeFail Fact all (to_xml_side side group given)) sides
      → AllOf (λ y. AllOf (λ side. ThreeFail Fact all (to_xml_side side (y ∷ []) given)) sides) group
  each_of_group [] x group given same fail = each_weaker (λ y. AllOf (λ side. xml_part side y ≡ xml_part side x) []) (λ y. Unit {0}) (λ y none. tt) group same
  each_of_group (side ∷ sides) x group given same fail = each_of_two (λ y. ThreeFail Fact all (to_xml_side side (y ∷ []) given))
      (λ y. AllOf (λ side. ThreeFail Fact all (to_xml_side side (y ∷ []) given)) sides)
      (λ y. AllOf (λ side. ThreeFail Fact all (to_xml_side side (y ∷ []) given)) (side ∷ sides)) (λ y one others. (one, others)) group
      (each_of_three_fails side x group given (each_weaker (λ y. AllOf (λ side. xml_part side y ≡ xml_part side x) (side ∷ sides))
      (λ y. xml_part side y ≡ xml_part side x) (λ y same. same.0) group same) fail.0)
      (each_of_group sides x group given (each_weaker (λ y. AllOf (λ side. xml_part side y ≡ xml_part side x) (side ∷ sides))
      (λ y. AllOf (λ side. xml_part side y ≡ xml_part side x) sides) (λ y same. same.1) group same) fail.1)

  -- where one of a group fails on the shared sides, and all of it on the last side, the others fail there
  one_less : (differs : XmlSide) (x : Triple) (group : List Triple) (given : ThreeSides) → AnyOf (λ other. other ≡ x) all
      → AllOf (λ side. ThreeFail Fact all (to_xml_side side (x ∷ []) given)) (other_xml_sides differs)
      → ThreeFail Fact all (to_xml_side differs (x ∷ group) given) → ThreeFail Fact all (to_xml_side differs group given)
  one_less AtTag x group given there fail tree = three_cases (to_xml_side AtTag group given) x there tree
      (three_fail_on (to_middle x given) fail.0 (to_middle x (to_xml_side AtTag group given)) (with_xml_group AtTag group (to_middle x given)))
      (three_fail_on (to_last x given) fail.1.0 (to_last x (to_xml_side AtTag group given)) (with_xml_group AtTag group (to_last x given)))
  one_less AtAttributes x group given there fail tree = three_cases (to_xml_side AtAttributes group given) x there
      (three_fail_on (to_first x given) fail.0 (to_first x (to_xml_side AtAttributes group given)) (with_xml_group AtAttributes group (to_first x given)))
      tree
      (three_fail_on (to_last x given) fail.1.0 (to_last x (to_xml_side AtAttributes group given)) (with_xml_group AtAttributes group (to_last x given)))
  one_less AtContent x group given there fail tree = three_cases (to_xml_side AtContent group given) x there
      (three_fail_on (to_first x given) fail.0 (to_first x (to_xml_side AtContent group given)) (with_xml_group AtContent group (to_first x given)))
      (three_fail_on (to_middle x given) fail.1.0 (to_middle x (to_xml_side AtContent group given)) (with_xml_group AtContent group (to_middle x given)))
      tree

  fails_at_last : (differs : XmlSide) (group : List Triple) (given : ThreeSides) → AreOf group all
      → AllOf (λ y. AllOf (λ side. ThreeFail Fact all (to_xml_side side (y ∷ []) given)) (other_xml_sides differs)) group
      → ThreeFail Fact all (to_xml_side differs group given) → ThreeFail Fact all given
  fails_at_last AtTag [] given there each tree = tree
  fails_at_last AtAttributes [] given there each tree = tree
  fails_at_last AtContent [] given there each tree = tree
  fails_at_last differs (x ∷ group) given there each tree =
      fails_at_last differs group given there.1 each.1 (one_less differs x group given there.0 each.0 tree)

  pub xml_group_fails : (differs : XmlSide) (x : Triple) (group : List Triple) (given : ThreeSides) → AreOf group all
      → IsGroup xml_part (other_xml_sides differs) x group
      → AllOf (λ side. ThreeFail Fact all (to_xml_side side group given)) (other_xml_sides differs ++ differs ∷ [])
      → ThreeFail Fact all given
  xml_group_fails differs x group given there is fail =
      let both = each_parts (λ side. ThreeFail Fact all (to_xml_side side group given)) (other_xml_sides differs) (differs ∷ []) fail in
      fails_at_last differs group given there (each_of_group (other_xml_sides differs) x group given is.1 both.0) both.1.0
