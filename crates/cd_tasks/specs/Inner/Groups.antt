-- Members of a task that are given to sides together.
use Rattle.std.specs.Prelude.{◌≡◌, ◌==◌, ◌&&◌, ◌++◌, ℕ, Bool, List, [], ◌∷◌, Some, slice_get}
use Rattle.std.specs.Prelude.{if◌then◌else◌}
use Rattle.cd_rules.specs.Clauses.{Pair, Triple}
use Rattle.cd_rules.specs.Groups as rules
use Rattle.cd_rules.specs.Groups.{AtFirst, AtSecond, AtTag, AtAttributes, AtContent, part, xml_part}
use Rattle.cd_rules.specs.Groups.{other_sides, other_xml_sides, to_side, to_xml_side, IsGroup}
use Rattle.cd_rules.specs.Tasks as tasks
use Rattle.cd_rules.specs.Tasks.{Task, TakesAll}
use Rattle.cd_tasks.specs.declared.group.Side.{Side}
use Rattle.cd_tasks.specs.declared.group.Side.TheVariants.{First, Second}
use Rattle.cd_tasks.specs.declared.group.Group.{Group}
use Rattle.cd_tasks.specs.declared.xml_group.XmlSide.{XmlSide}
use Rattle.cd_tasks.specs.declared.xml_group.XmlSide.TheVariants.{Tag, Attributes, Content}
use Rattle.cd_tasks.specs.declared.xml_group.XmlGroup.{XmlGroup}
use Rattle.cd_tasks.specs.declared.task.PairTask.{PairTask}
use Rattle.cd_tasks.specs.declared.task.XmlTask.{XmlTask}
use Rattle.cd_tasks.specs.declared.task.ArrowTask.{ArrowTask}

-- the sides of the code as sides of the rules
abbrev pub plain_side : Side → rules.Side
plain_side First = AtFirst
plain_side Second = AtSecond

abbrev pub plain_xml_side : XmlSide → rules.XmlSide
plain_xml_side Tag = AtTag
plain_xml_side Attributes = AtAttributes
plain_xml_side Content = AtContent

-- which of these is for a side
abbrev pub of_side : {X : Type 0} → (first second : X) → rules.Side → X
of_side first second AtFirst = first
of_side first second AtSecond = second

abbrev pub of_xml_side : {X : Type 0} → (tag attributes content : X) → rules.XmlSide → X
of_xml_side tag attributes content AtTag = tag
of_xml_side tag attributes content AtAttributes = attributes
of_xml_side tag attributes content AtContent = content

-- whether one has the parts of a member on all sides but this one
abbrev pub agrees : rules.Side → (member one : Pair) → Bool
agrees AtFirst member one = one.1.0 == member.1.0
agrees AtSecond member one = one.0.0 == member.0.0

abbrev pub xml_agrees : rules.XmlSide → (member one : Triple) → Bool
xml_agrees AtTag member one = one.1.0 == member.1.0 && one.2.0 == member.2.0
xml_agrees AtAttributes member one = one.0.0 == member.0.0 && one.2.0 == member.2.0
xml_agrees AtContent member one = one.0.0 == member.0.0 && one.1.0 == member.1.0

-- those of a list that pass, and the others
abbrev pub divided : {X : Type 0} → (X → Bool) → List X → List X × List X
divided passes [] = ([], [])
divided passes (x ∷ xs) = if passes x then (x ∷ (divided passes xs).0, (divided passes xs).1)
    else ((divided passes xs).0, x ∷ (divided passes xs).1)

-- all sides, this one as the last
abbrev pub sides_to : rules.Side → List rules.Side
sides_to last = other_sides last ++ last ∷ []

abbrev pub xml_sides_to : rules.XmlSide → List rules.XmlSide
xml_sides_to last = other_xml_sides last ++ last ∷ []

-- the cases of a task where a group is given to a side
abbrev pub pair_case : PairTask → Group → rules.Side → Task
pair_case task group side = tasks.PairTask task.wanted.value.items task.refused.value.items
    (to_side side group.members.items (task.firsts.items, task.seconds.items))
    group.rest.value.items

abbrev pub arrow_case : ArrowTask → Group → rules.Side → Task
arrow_case task group side = tasks.ArrowTask task.refused task.wanted.value.items
    (to_side side group.members.items (task.outside.items, task.results.items))
    group.rest.value.items

abbrev pub xml_case : XmlTask → XmlGroup → rules.XmlSide → Task
xml_case task group side = tasks.XmlTask task.wanted.value.items task.refused.value.items
    (to_xml_side side group.members.items
    (task.tags.items, task.attributes.items, task.contents.items)) group.rest.value.items

-- the member at a place is one of a group that is taken out of those left, and all of it have its
-- parts but on one side
abbrev pub IsGroupAt : (left : List Pair) → (place : ℕ) → Group → Type 0
IsGroupAt left place group = TakesAll group.members.items left group.rest.value.items
    × ((member : Pair) × (slice_get left place ≡ Some member)
    × IsGroup part (other_sides (plain_side group.differs)) member group.members.items)

abbrev pub IsXmlGroupAt : (left : List Triple) → (place : ℕ) → XmlGroup → Type 0
IsXmlGroupAt left place group = TakesAll group.members.items left group.rest.value.items
    × ((member : Triple) × (slice_get left place ≡ Some member)
    × IsGroup xml_part (other_xml_sides (plain_xml_side group.differs)) member
    group.members.items)
