-- The tasks of a clause are tasks of it, and so are the cases of one.
use Rattle.std.proofs.Common.{◌≡◌, List, [], ◌∷◌, ◌++◌, map, Some, None, refl}
use Rattle.cd_model.specs.AllOf.{AllOf, AnyOf}
use Rattle.cd_rules.specs.Clauses.{Clause, Ints, Chars, Atoms, Pairs, Xmls, Records, Arrows}
use Rattle.cd_rules.specs.Family.{AreAmong, SameMembers}
use Rattle.cd_rules.specs.Rows.{labels_of}
use Rattle.cd_rules.specs.Groups.{Side, AtFirst, AtSecond, XmlSide, AtTag, AtAttributes, AtContent}
use Rattle.cd_rules.specs.Groups.{other_sides, other_xml_sides, to_side, to_xml_side}
use Rattle.cd_rules.specs.Tasks.{Task, PairTask, XmlTask, ArrowTask, RecordTask, tasks_of}
use Rattle.cd_rules.specs.Tasks.{Takes, taken_here, taken_later, TakesAll, takes_none, takes_one, IsForClause, IsTask, IsTaskOf}
use Rattle.cd_rules.specs.Tasks.{AreCases, pair_cases, xml_cases, arrow_cases, record_cases}
use Rattle.cd_rules.proofs.Among.{among_itself, among_on, each_of_its}
use Rattle.cd_rules.proofs.Asking.{each_of_map}
use Rattle.cd_rules.proofs.PairsBack.{both_of_each}
use Rattle.cd_model.proofs.Ones.{each_weaker, each_of_all}

-- what is so of all that is made of things is so of each that is made of a list
pub of_all : {X Y : Type 0} (make : X → Y) (Fact : Y → Type 0) → ((x : X) → Fact (make x)) → (xs : List X) → AllOf Fact (map make xs)
of_all make Fact is xs = each_of_map make Fact xs (each_of_all (λ x. Fact (make x)) is xs)

-- what is taken out of a list is one of it, and the others are what is left
pub taken_one : {X : Type 0} (Fact : X → Type 0) (x : X) (all rest : List X) → Takes x all rest
    → AllOf Fact all → Fact x × AllOf Fact rest
taken_one Fact x _ _ (taken_here rest) each = each
taken_one Fact x _ _ (taken_later other all rest taken) each =
    let both = taken_one Fact x all rest taken each.1 in (both.0, (each.0, both.1))

-- and back
one_taken : {X : Type 0} (Fact : X → Type 0) (x : X) (all rest : List X) → Takes x all rest
    → Fact x → AllOf Fact rest → AllOf Fact all
one_taken Fact x _ _ (taken_here rest) one each = (one, each)
one_taken Fact x _ _ (taken_later other all rest taken) one each = (each.0, one_taken Fact x all rest taken one each.1)

-- so of all that are taken out
pub taken_all : {X : Type 0} (Fact : X → Type 0) (some all rest : List X) → TakesAll some all rest
    → AllOf Fact all → AllOf Fact some × AllOf Fact rest
taken_all Fact _ _ _ (takes_none all) each = (tt, each)
taken_all Fact _ _ _ (takes_one x some all fewer rest taken more) each =
    let first = taken_one Fact x all fewer taken each in
    let others = taken_all Fact some fewer rest more first.1 in ((first.0, others.0), others.1)

all_taken : {X : Type 0} (Fact : X → Type 0) (some all rest : List X) → TakesAll some all rest
    → AllOf Fact some → AllOf Fact rest → AllOf Fact all
all_taken Fact _ _ _ (takes_none all) some each = each
all_taken Fact _ _ _ (takes_one x some all fewer rest taken more) first each =
    one_taken Fact x all fewer taken first.0 (all_taken Fact some fewer rest more first.1 each)

-- they may stand after others, and before others
taken_after : {X : Type 0} (x : X) (some all rest : List X) → Takes x all rest → Takes x (some ++ all) (some ++ rest)
taken_after x [] all rest taken = taken
taken_after x (other ∷ some) all rest taken = taken_later other (some ++ all) (some ++ rest) (taken_after x some all rest taken)

taken_before : {X : Type 0} (x : X) (all rest others : List X) → Takes x all rest → Takes x (all ++ others) (rest ++ others)
taken_before x _ _ others (taken_here rest) = taken_here (rest ++ others)
taken_before x _ _ others (taken_later other all rest taken) =
    taken_later other (all ++ others) (rest ++ others) (taken_before x all rest others taken)

all_after : {X : Type 0} (group some all rest : List X) → TakesAll group all rest → TakesAll group (some ++ all) (some ++ rest)
all_after _ some _ _ (takes_none all) = takes_none (some ++ all)
all_after _ some _ _ (takes_one x group all fewer rest taken more) =
    takes_one x group (some ++ all) (some ++ fewer) (some ++ rest) (taken_after x some all fewer taken) (all_after group some fewer rest more)

all_before : {X : Type 0} (group all rest others : List X) → TakesAll group all rest → TakesAll group (all ++ others) (rest ++ others)
all_before _ _ _ others (takes_none all) = takes_none (all ++ others)
all_before _ _ _ others (takes_one x group all fewer rest taken more) =
    takes_one x group (all ++ others) (fewer ++ others) (rest ++ others) (taken_before x all fewer others taken)
    (all_before group fewer rest others more)

all_here : {X : Type 0} (group rest : List X) → TakesAll group (group ++ rest) rest
all_here [] rest = takes_none rest
all_here (x ∷ group) rest = takes_one x group (x ∷ (group ++ rest)) (group ++ rest) rest (taken_here (group ++ rest)) (all_here group rest)

one_alone : {X : Type 0} (x : X) (all rest : List X) → Takes x all rest → TakesAll (x ∷ []) all rest
one_alone x all rest taken = takes_one x [] all rest rest taken (takes_none rest)

module _ {X : Type 0} (group : List X) where
  -- lists that are the same but for the places of some have the same members
  moved : (some others rest : List X) → TakesAll group some rest → TakesAll group others rest → AreAmong some others
  moved some others rest one other =
      let there = taken_all (λ (y : X). AnyOf (λ other. other ≡ y) others) group others rest other (among_itself others) in
      all_taken (λ (y : X). AnyOf (λ other. other ≡ y) others) group some rest one there.0 there.1

  -- so some that were left may be given
  group_given : (members given left more rest : List X) → TakesAll group left rest → TakesAll group more given
      → SameMembers (given ++ left) members → SameMembers (more ++ rest) members
  group_given members given left more rest taken given_it same = (
    among_on (more ++ rest) (given ++ left) members (moved (more ++ rest) (given ++ left) (given ++ rest) after before) same.0,
    among_on members (given ++ left) (more ++ rest) same.1 (moved (given ++ left) (more ++ rest) (given ++ rest) before after),
  )
    where
      before : TakesAll group (given ++ left) (given ++ rest)
      before = all_after group given left rest taken

      after : TakesAll group (more ++ rest) (given ++ rest)
      after = all_before group more given rest given_it

module _ {X : Type 0} (group members left rest : List X) (taken : TakesAll group left rest) where
  -- to one of two sides
  given_to_side : (side : Side) (given : List X × List X) → SameMembers (given.0 ++ given.1 ++ left) members
      → SameMembers ((to_side side group given).0 ++ (to_side side group given).1 ++ rest) members
  given_to_side AtFirst given same = group_given group members (given.0 ++ given.1) left ((group ++ given.0) ++ given.1) rest taken
      (all_before group (group ++ given.0) given.0 given.1 (all_here group given.0)) same
  given_to_side AtSecond given same = group_given group members (given.0 ++ given.1) left (given.0 ++ (group ++ given.1)) rest taken
      (all_after group given.0 (group ++ given.1) given.1 (all_here group given.1)) same

  -- to one of three sides
  given_to_xml_side : (side : XmlSide) (given : List X × List X × List X) → SameMembers (given.0 ++ given.1 ++ given.2 ++ left) members
      → SameMembers ((to_xml_side side group given).0 ++ (to_xml_side side group given).1 ++ (to_xml_side side group given).2 ++ rest) members
  given_to_xml_side AtTag given same =
      group_given group members (given.0 ++ given.1 ++ given.2) left ((group ++ given.0) ++ given.1 ++ given.2) rest taken
      (all_before group ((group ++ given.0) ++ given.1) (given.0 ++ given.1) given.2
      (all_before group (group ++ given.0) given.0 given.1 (all_here group given.0))) same
  given_to_xml_side AtAttributes given same =
      group_given group members (given.0 ++ given.1 ++ given.2) left (given.0 ++ (group ++ given.1) ++ given.2) rest taken
      (all_before group (given.0 ++ (group ++ given.1)) (given.0 ++ given.1) given.2
      (all_after group given.0 (group ++ given.1) given.1 (all_here group given.1))) same
  given_to_xml_side AtContent given same =
      group_given group members (given.0 ++ given.1 ++ given.2) left (given.0 ++ given.1 ++ (group ++ given.2)) rest taken
      (all_after group (given.0 ++ given.1) (group ++ given.2) given.2 (all_here group given.2)) same

cases_are_tasks : (task : Task) (all : List Task) → AreCases task all → IsTask task → AllOf IsTask all
cases_are_tasks _ _ (pair_cases wanted refused given left group rest x differs taken is) same =
    of_all (λ side. PairTask wanted refused (to_side side group given) rest) IsTask
    (λ side. given_to_side group refused left rest taken side given same) (other_sides differs ++ differs ∷ [])
cases_are_tasks _ _ (xml_cases wanted refused given left group rest x differs taken is) same =
    of_all (λ side. XmlTask wanted refused (to_xml_side side group given) rest) IsTask
    (λ side. given_to_xml_side group refused left rest taken side given same) (other_xml_sides differs ++ differs ∷ [])
cases_are_tasks _ _ (arrow_cases refused wanted given left group rest x differs taken is) same =
    of_all (λ side. ArrowTask refused wanted (to_side side group given) rest) IsTask
    (λ side. given_to_side group wanted left rest taken side given same) (other_sides differs ++ differs ∷ [])
cases_are_tasks _ _ (record_cases wanted refused given left rest type taken) is =
    each_of_map (λ reason. RecordTask wanted refused ((type, reason) ∷ given) rest) IsTask (None ∷ map Some (labels_of (wanted ++ refused)))
    (each_of_its (λ reason. IsTask (RecordTask wanted refused ((type, reason) ∷ given) rest)) (None ∷ map Some (labels_of (wanted ++ refused)))
    (λ reason named. (
      group_given (type ∷ []) refused (map (λ one. one.0) given) left (type ∷ map (λ one. one.0) given) rest (one_alone type left rest taken)
          (all_here (type ∷ []) (map (λ one. one.0) given)) is.0,
      (named, is.1),
    )))

-- they are for the same clause
for_same_clause : (clause : Clause) (task : Task) (all : List Task) → AreCases task all → IsForClause clause task
    → AllOf (IsForClause clause) all
for_same_clause (Pairs some others) _ _ (pair_cases wanted refused given left group rest x differs taken same) is =
    of_all (λ side. PairTask wanted refused (to_side side group given) rest) (IsForClause (Pairs some others)) (λ side. is)
    (other_sides differs ++ differs ∷ [])
for_same_clause (Xmls some others) _ _ (xml_cases wanted refused given left group rest x differs taken same) is =
    of_all (λ side. XmlTask wanted refused (to_xml_side side group given) rest) (IsForClause (Xmls some others)) (λ side. is)
    (other_xml_sides differs ++ differs ∷ [])
for_same_clause (Arrows some others) _ _ (arrow_cases refused wanted given left group rest x differs taken same) is =
    of_all (λ side. ArrowTask refused wanted (to_side side group given) rest) (IsForClause (Arrows some others)) (λ side. is)
    (other_sides differs ++ differs ∷ [])
for_same_clause (Records some others) _ _ (record_cases wanted refused given left rest type taken) is =
    of_all (λ reason. RecordTask wanted refused ((type, reason) ∷ given) rest) (IsForClause (Records some others)) (λ reason. is)
    (None ∷ map Some (labels_of (wanted ++ refused)))
for_same_clause _ _ _ _ is = absurd is

pub cases_of_task : (clause : Clause) (task : Task) (all : List Task) → AreCases task all → IsTaskOf clause task
    → AllOf (IsTaskOf clause) all
cases_of_task clause task all cases is = both_of_each (IsForClause clause) IsTask all
    (for_same_clause clause task all cases is.0) (cases_are_tasks task all cases is.1)

-- at first none is given
pub tasks_are : (clause : Clause) → AllOf (IsTaskOf clause) (tasks_of clause)
tasks_are (Pairs wanted refused) = (((refl, refl), (among_itself refused, among_itself refused)), tt)
tasks_are (Xmls wanted refused) = (((refl, refl), (among_itself refused, among_itself refused)), tt)
tasks_are (Records wanted refused) = (((refl, refl), ((among_itself refused, among_itself refused), tt)), tt)
tasks_are (Arrows wanted refused) = each_of_map (λ one. ArrowTask one wanted ([], []) wanted) (IsTaskOf (Arrows wanted refused)) refused
    (each_weaker (λ one. AnyOf (λ other. other ≡ one) refused) (λ one. IsTaskOf (Arrows wanted refused) (ArrowTask one wanted ([], []) wanted))
    (λ one there. ((refl, there), (among_itself wanted, among_itself wanted))) refused (among_itself refused))
tasks_are (Ints wanted refused) = tt
tasks_are (Chars wanted refused) = tt
tasks_are (Atoms wanted refused) = tt
