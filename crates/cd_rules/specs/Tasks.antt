-- What is to do for a need of a clause, or for its rows: what was given to each side, and which of
-- its members are given to none.
use Rattle.std.specs.Prelude.{◌≡◌, ℕ, List, [], ◌∷◌, ◌++◌, map, length, Some, None}
use Rattle.std.specs.Prelude.{if◌then◌else◌}
use Rattle.cd_sets.specs.declared.question.Question.{Question}
use Rattle.cd_syntax.specs.Name.{Name, IsLabel}
use Rattle.cd_model.specs.AllOf.{AllOf, AnyOf}
use Rattle.cd_rules.specs.Clauses.{Clause, Pairs, Xmls, Records, Arrows, Pair, Triple, RecordType}
use Rattle.cd_rules.specs.Family.{SameMembers, IsSubsumed, RefutesRow, AsksNodes}
use Rattle.cd_rules.specs.Within.{IsWithin}
use Rattle.cd_rules.specs.Groups.{Side, XmlSide, part, xml_part, other_sides, other_xml_sides}
use Rattle.cd_rules.specs.Groups.{to_side, to_xml_side, IsGroup}
use Rattle.cd_rules.specs.Needs.{Way, pair_way, xml_way, arrow_way}
use Rattle.cd_rules.specs.Rows.{Cell, Row, Reason, Reasons, row_of, labels_of}
use Rattle.cd_rules.specs.Fails.{Fails, ThreeFail, RowsFail}

pub data Task : Type 0 where
  PairTask : (wanted refused : List Pair) (given : List Pair × List Pair) (left : List Pair) → Task
  XmlTask : (wanted refused : List Triple) (given : List Triple × List Triple × List Triple)
      (left : List Triple) → Task
  -- for one refused arrow; the members are the wanted ones
  ArrowTask : (refused : Pair) (wanted : List Pair) (given : List Pair × List Pair)
      (left : List Pair) → Task
  RecordTask : (wanted refused : List RecordType) (given : Reasons) (left : List RecordType) → Task

-- the row of what was given
abbrev pub row_of_given : (wanted refused : List RecordType) → Reasons → Row
row_of_given wanted refused given = row_of (labels_of (wanted ++ refused)) wanted given

-- the questions of the cells that may not be absent
abbrev pub present : List (Name × Cell) → List Question
present [] = []
present (cell ∷ cells) =
    if cell.1.absent then present cells else cell.1.value ∷ present cells

-- the questions of which each has to have an element, for what was given
abbrev pub questions_of : Task → List Question
questions_of (PairTask wanted refused given left) = pair_way wanted given
questions_of (XmlTask wanted refused given left) = xml_way wanted given
questions_of (ArrowTask refused wanted given left) = arrow_way refused given
questions_of (RecordTask wanted refused given left) =
    present (row_of_given wanted refused given).cells ++ (row_of_given wanted refused given).some

-- some way has a question that the family subsumes
abbrev pub HasSubsumed : List Question → Way → Type 0
HasSubsumed family way = AnyOf (λ question. IsSubsumed question family) way

-- whatever else is given, no way is left
abbrev pub TaskFails : List Question → Task → Type 0
TaskFails family (PairTask wanted refused given left) =
    Fails (λ sides. HasSubsumed family (pair_way wanted sides)) refused given
TaskFails family (XmlTask wanted refused given left) =
    ThreeFail (λ sides. HasSubsumed family (xml_way wanted sides)) refused given
TaskFails family (ArrowTask refused wanted given left) =
    Fails (λ sides. HasSubsumed family (arrow_way refused sides)) wanted given
TaskFails family (RecordTask wanted refused given left) =
    RowsFail (λ reasons. RefutesRow family (row_of_given wanted refused reasons))
    (labels_of (wanted ++ refused)) refused given

-- What is to do for a clause, all of it: one task for each refused arrow, else one. A clause of a
-- basic kind has none
abbrev pub tasks_of : Clause → List Task
tasks_of (Pairs wanted refused) = PairTask wanted refused ([], []) refused ∷ []
tasks_of (Xmls wanted refused) = XmlTask wanted refused ([], [], []) refused ∷ []
tasks_of (Arrows wanted refused) = map (λ one. ArrowTask one wanted ([], []) wanted) refused
tasks_of (Records wanted refused) = RecordTask wanted refused [] refused ∷ []
tasks_of clause = []

-- one of a list is taken out of it
pub data Takes {X : Type 0} (x : X) : (all rest : List X) → Type 0 where
  taken_here : (rest : List X) → Takes x (x ∷ rest) rest
  taken_later : (other : X) (all rest : List X) → Takes x all rest
      → Takes x (other ∷ all) (other ∷ rest)

-- these are taken out of a list, one after the other
pub data TakesAll {X : Type 0} : (some all rest : List X) → Type 0 where
  takes_none : (all : List X) → TakesAll [] all all
  takes_one : (x : X) (some all fewer rest : List X) → Takes x all fewer
      → TakesAll some fewer rest → TakesAll (x ∷ some) all rest

-- A group of members that were given to none is given to each side in turn. Its members have the
-- same parts on all sides but the last one, and it may be one member alone. Of records one type is
-- given each reason in turn
pub data AreCases : Task → List Task → Type 0 where
  pair_cases : (wanted refused : List Pair) (given : List Pair × List Pair)
      (left group rest : List Pair) (x : Pair) (differs : Side) → TakesAll group left rest
      → IsGroup part (other_sides differs) x group
      → AreCases (PairTask wanted refused given left)
      (map (λ side. PairTask wanted refused (to_side side group given) rest)
      (other_sides differs ++ differs ∷ []))
  xml_cases : (wanted refused : List Triple) (given : List Triple × List Triple × List Triple)
      (left group rest : List Triple) (x : Triple) (differs : XmlSide) → TakesAll group left rest
      → IsGroup xml_part (other_xml_sides differs) x group
      → AreCases (XmlTask wanted refused given left)
      (map (λ side. XmlTask wanted refused (to_xml_side side group given) rest)
      (other_xml_sides differs ++ differs ∷ []))
  arrow_cases : (refused : Pair) (wanted : List Pair) (given : List Pair × List Pair)
      (left group rest : List Pair) (x : Pair) (differs : Side) → TakesAll group left rest
      → IsGroup part (other_sides differs) x group
      → AreCases (ArrowTask refused wanted given left)
      (map (λ side. ArrowTask refused wanted (to_side side group given) rest)
      (other_sides differs ++ differs ∷ []))
  record_cases : (wanted refused : List RecordType) (given : Reasons) (left rest : List RecordType)
      (type : RecordType) → Takes type left rest
      → AreCases (RecordTask wanted refused given left)
      (map (λ reason. RecordTask wanted refused ((type, reason) ∷ given) rest)
      (None ∷ map Some (labels_of (wanted ++ refused))))

-- a reason is one of these labels, or a label that no type names
abbrev pub IsNamedReason : List Name → Reason → Type 0
IsNamedReason labels reason = AnyOf (λ other. other ≡ reason) (None ∷ map Some labels)

-- each member is left or was given, and each reason that was given is one
abbrev pub IsTask : Task → Type 0
IsTask (PairTask wanted refused given left) = SameMembers (given.0 ++ given.1 ++ left) refused
IsTask (XmlTask wanted refused given left) =
    SameMembers (given.0 ++ given.1 ++ given.2 ++ left) refused
IsTask (ArrowTask refused wanted given left) = SameMembers (given.0 ++ given.1 ++ left) wanted
IsTask (RecordTask wanted refused given left) =
    SameMembers (map (λ one. one.0) given ++ left) refused
    × AllOf (λ one. IsNamedReason (labels_of (wanted ++ refused)) one.1) given

-- what a task is for
abbrev pub IsForClause : Clause → Task → Type 0
IsForClause (Pairs wanted refused) (PairTask some others given left) =
    (some ≡ wanted) × (others ≡ refused)
IsForClause (Xmls wanted refused) (XmlTask some others given left) =
    (some ≡ wanted) × (others ≡ refused)
IsForClause (Arrows wanted refused) (ArrowTask one some given left) =
    (some ≡ wanted) × AnyOf (λ other. other ≡ one) refused
IsForClause (Records wanted refused) (RecordTask some others given left) =
    (some ≡ wanted) × (others ≡ refused)
IsForClause _ _ = ⊥

-- a task of a clause
abbrev pub IsTaskOf : Clause → Task → Type 0
IsTaskOf clause task = IsForClause clause task × IsTask task

-- the members that were given to none, as a clause that refuses them
abbrev pub left_of : Task → Clause
left_of (PairTask wanted refused given left) = Pairs [] left
left_of (XmlTask wanted refused given left) = Xmls [] left
left_of (ArrowTask refused wanted given left) = Arrows [] left
left_of (RecordTask wanted refused given left) = Records [] left

-- how many these are
abbrev pub count_left : Task → ℕ
count_left (PairTask wanted refused given left) = length left
count_left (XmlTask wanted refused given left) = length left
count_left (ArrowTask refused wanted given left) = length left
count_left (RecordTask wanted refused given left) = length left

-- the labels that the types of a task name
abbrev pub labels_in : Task → List Name
labels_in (RecordTask wanted refused given left) = labels_of (wanted ++ refused)
labels_in task = []

-- a task of a clause whose parts are nodes among so many, and whose labels are labels
pub record IsTaskOfNodes (nodes : ℕ) (this : Task) : Type 0 where
  pub task : IsTask this
  pub asks : AllOf (AsksNodes nodes) (questions_of this)
  pub left : IsWithin nodes (left_of this)
  pub labels : AllOf IsLabel (labels_in this)
