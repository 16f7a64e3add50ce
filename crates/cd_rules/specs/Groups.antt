-- Members of a clause that are given to sides together, as groups of members that have the same
-- parts on all sides but one.
use Rattle.std.specs.Prelude.{◌≡◌, List, [], ◌∷◌, ◌++◌}
use Rattle.cd_sets.specs.declared.node_id.NodeId.{NodeId}
use Rattle.cd_model.specs.AllOf.{AllOf, AnyOf}
use Rattle.cd_rules.specs.Clauses.{Pair, Triple}

-- the sides of pairs and of arrows
pub data Side : Type 0 where
  AtFirst : Side
  AtSecond : Side

-- the sides of XML elements
pub data XmlSide : Type 0 where
  AtTag : XmlSide
  AtAttributes : XmlSide
  AtContent : XmlSide

-- the part of a member on a side
abbrev pub part : Side → Pair → NodeId
part AtFirst parts = parts.0
part AtSecond parts = parts.1

abbrev pub xml_part : XmlSide → Triple → NodeId
xml_part AtTag parts = parts.0
xml_part AtAttributes parts = parts.1
xml_part AtContent parts = parts.2

-- all sides but one
abbrev pub other_sides : Side → List Side
other_sides AtFirst = AtSecond ∷ []
other_sides AtSecond = AtFirst ∷ []

abbrev pub other_xml_sides : XmlSide → List XmlSide
other_xml_sides AtTag = AtAttributes ∷ AtContent ∷ []
other_xml_sides AtAttributes = AtTag ∷ AtContent ∷ []
other_xml_sides AtContent = AtTag ∷ AtAttributes ∷ []

-- a group is given to a side, beside what was given to it
abbrev pub to_side : {X : Type 0} → Side → List X → List X × List X → List X × List X
to_side AtFirst group given = (group ++ given.0, given.1)
to_side AtSecond group given = (given.0, group ++ given.1)

abbrev pub to_xml_side : {X : Type 0} → XmlSide → List X → List X × List X × List X
    → List X × List X × List X
to_xml_side AtTag group given = (group ++ given.0, given.1, given.2)
to_xml_side AtAttributes group given = (given.0, group ++ given.1, given.2)
to_xml_side AtContent group given = (given.0, given.1, group ++ given.2)

-- a group with this member, all of which have its parts on these sides
abbrev pub IsGroup : {S X : Type 0} → (S → X → NodeId) → (shared : List S) → X → List X → Type 0
IsGroup part_on shared member group = AnyOf (λ one. one ≡ member) group
    × AllOf (λ one. AllOf (λ side. part_on side one ≡ part_on side member) shared) group
