-- What is to do fails where a question of it is subsumed, and where each case of a member fails; a
-- larger family keeps it; and a clause of whose tasks one fails is refuted.
use Rattle.std.proofs.Common.{◌≡◌, ◌⊎◌, true, false, List, [], ◌∷◌, ◌++◌, map, Some, None, inl, inr, refl, subst}
use Rattle.std.proofs.lemmas.Bool.{cases_Bool}
use Rattle.cd_sets.specs.declared.question.Question.{Question}
use Rattle.cd_syntax.specs.Name.{Name}
use Rattle.cd_model.specs.AllOf.{AllOf, AnyOf}
use Rattle.cd_rules.specs.Clauses.{Clause, Ints, Chars, Atoms, Pairs, Xmls, Records, Arrows}
use Rattle.cd_rules.specs.Family.{IsSubsumed, RefutesRow, RefutesNeed, Refutes, AreAmong}
use Rattle.cd_rules.specs.Needs.{pair_way, xml_way, arrow_way, splits}
use Rattle.cd_rules.specs.Rows.{Cell, labels_of}
use Rattle.cd_rules.proofs.Among.{of_each}
use Rattle.cd_rules.proofs.Answered.{map_of_each}
use Rattle.cd_model.proofs.Ones.{one_weaker, one_of_map, map_of_one, one_on_a_side}
use Rattle.cd_rules.specs.Fails.{seen, three_seen, row_seen, row_cases}
use Rattle.cd_rules.specs.Groups.{other_sides, other_xml_sides, to_side, to_xml_side}
use Rattle.cd_rules.specs.Tasks.{Task, PairTask, XmlTask, ArrowTask, RecordTask, TaskFails, IsTask, tasks_of, questions_of}
use Rattle.cd_rules.specs.Tasks.{HasSubsumed, present, row_of_given, Takes, TakesAll, AreCases, pair_cases, xml_cases, arrow_cases, record_cases}
use Rattle.cd_model.proofs.Covered.{each_parts}
use Rattle.cd_rules.proofs.CasesAreTasks.{taken_one, taken_all}
use Rattle.cd_rules.proofs.FailingNeeds.{pair_need_fails, xml_need_fails, arrow_need_fails, pair_on, xml_on, arrow_on}
use Rattle.cd_rules.proofs.GroupsFail.{group_fails, xml_group_fails}
use Rattle.cd_rules.proofs.FailingRows.{records_fail}

-- a subsumed question of a cell that may not be absent refutes the row
present_refutes : (family : List Question) (cells : List (Name × Cell)) → AnyOf (λ question. IsSubsumed question family) (present cells)
    → AnyOf (λ cell. (cell.1.absent ≡ false) × IsSubsumed cell.1.value family) cells
present_refutes family [] is = elim is [ ]
present_refutes family (cell ∷ cells) is = by_absent (cases_Bool cell.1.absent) (present_refutes family cells)
  where
    by_absent : (cell.1.absent ≡ true) ⊎ (cell.1.absent ≡ false) → (AnyOf (λ question. IsSubsumed question family) (present cells)
        → AnyOf (λ cell. (cell.1.absent ≡ false) × IsSubsumed cell.1.value family) cells)
        → AnyOf (λ cell. (cell.1.absent ≡ false) × IsSubsumed cell.1.value family) (cell ∷ cells)
    by_absent (inl may) rest = inr (rest (subst (AnyOf (λ question. IsSubsumed question family)) (absent_so may) is))
      where
        absent_so : cell.1.absent ≡ true → present (cell ∷ cells) ≡ present cells
        absent_so same = rw same refl
    by_absent (inr has) rest = by_one (subst (AnyOf (λ question. IsSubsumed question family)) (present_so has) is)
      where
        present_so : cell.1.absent ≡ false → present (cell ∷ cells) ≡ cell.1.value ∷ present cells
        present_so same = rw same refl

        by_one : AnyOf (λ question. IsSubsumed question family) (cell.1.value ∷ present cells)
            → AnyOf (λ cell. (cell.1.absent ≡ false) × IsSubsumed cell.1.value family) (cell ∷ cells)
        by_one (inl subsumed) = inl (has, subsumed)
        by_one (inr there) = inr (rest there)

-- a question that the family subsumes
pub subsumed_fails : (family : List Question) (task : Task) → AnyOf (λ question. IsSubsumed question family) (questions_of task)
    → TaskFails family task
subsumed_fails family (PairTask wanted refused given left) is = seen given is
subsumed_fails family (XmlTask wanted refused given left) is = three_seen given is
subsumed_fails family (ArrowTask refused wanted given left) is = seen given is
subsumed_fails family (RecordTask wanted refused given left) is = row_seen given (by_side
    (one_on_a_side (λ question. IsSubsumed question family) (present (row_of_given wanted refused given).cells) (row_of_given wanted refused given).some is))
  where
    by_side : AnyOf (λ question. IsSubsumed question family) (present (row_of_given wanted refused given).cells)
        ⊎ AnyOf (λ question. IsSubsumed question family) (row_of_given wanted refused given).some → RefutesRow family (row_of_given wanted refused given)
    by_side (inl cell) = inl (present_refutes family (row_of_given wanted refused given).cells cell)
    by_side (inr some) = inr some

-- what is taken out of those that are left are members
taken_are : {X : Type 0} (group given left rest members : List X) → TakesAll group left rest → AreAmong (given ++ left) members
    → AreAmong group members
taken_are {X} group given left rest members taken among = (taken_all (λ (y : X). AnyOf (λ other. other ≡ y) members) group left rest taken
    (each_parts (λ (y : X). AnyOf (λ other. other ≡ y) members) given left among).1).0

taken_is_one : {X : Type 0} (x : X) (given left rest members : List X) → Takes x left rest → AreAmong (given ++ left) members
    → AnyOf (λ (other : X). other ≡ x) members
taken_is_one {X} x given left rest members taken among = (taken_one (λ (y : X). AnyOf (λ other. other ≡ y) members) x left rest taken
    (each_parts (λ (y : X). AnyOf (λ other. other ≡ y) members) given left among).1).0

-- a task each of whose cases fails
pub cases_fail : (family : List Question) (task : Task) (all : List Task) → AreCases task all → IsTask task → AllOf (TaskFails family) all
    → TaskFails family task
cases_fail family _ _ (pair_cases wanted refused given left group rest x differs taken same) is fail =
    group_fails (λ sides. HasSubsumed family (pair_way wanted sides)) refused (pair_on family wanted) differs x group given
    (taken_are group (given.0 ++ given.1) left rest refused taken is.0) same
    (map_of_each (λ side. PairTask wanted refused (to_side side group given) rest) (TaskFails family)
    (other_sides differs ++ differs ∷ []) fail)
cases_fail family _ _ (xml_cases wanted refused given left group rest x differs taken same) is fail =
    xml_group_fails (λ sides. HasSubsumed family (xml_way wanted sides)) refused (xml_on family wanted) differs x group given
    (taken_are group (given.0 ++ given.1 ++ given.2) left rest refused taken is.0) same
    (map_of_each (λ side. XmlTask wanted refused (to_xml_side side group given) rest) (TaskFails family)
    (other_xml_sides differs ++ differs ∷ []) fail)
cases_fail family _ _ (arrow_cases refused wanted given left group rest x differs taken same) is fail =
    group_fails (λ sides. HasSubsumed family (arrow_way refused sides)) wanted (arrow_on family refused) differs x group given
    (taken_are group (given.0 ++ given.1) left rest wanted taken is.0) same
    (map_of_each (λ side. ArrowTask refused wanted (to_side side group given) rest) (TaskFails family)
    (other_sides differs ++ differs ∷ []) fail)
cases_fail family _ _ (record_cases wanted refused given left rest type taken) is fail =
    row_cases given type (taken_is_one type (map (λ one. one.0) given) left rest refused taken is.0.0)
    (λ reason one. of_each (λ reason. TaskFails family (RecordTask wanted refused ((type, reason) ∷ given) rest))
    (None ∷ map Some (labels_of (wanted ++ refused))) reason
    (map_of_each (λ reason. RecordTask wanted refused ((type, reason) ∷ given) rest) (TaskFails family)
    (None ∷ map Some (labels_of (wanted ++ refused))) fail) one)

-- a clause of whose tasks one fails is refuted
pub task_refutes : (family : List Question) (clause : Clause) → AnyOf (TaskFails family) (tasks_of clause) → Refutes family clause
task_refutes family (Pairs wanted refused) (inl fails) =
    (map (pair_way wanted) (splits refused) ∷ [], refl, inl (pair_need_fails family wanted refused fails))
task_refutes family (Pairs wanted refused) (inr none) = elim none [ ]
task_refutes family (Xmls wanted refused) (inl fails) = (_, refl, inl (xml_need_fails family wanted refused fails))
task_refutes family (Xmls wanted refused) (inr none) = elim none [ ]
task_refutes family (Arrows wanted refused) is = (
  _,
  refl,
  one_of_map (λ one. map (arrow_way one) (splits wanted)) (RefutesNeed family) refused
      (one_weaker (λ one. TaskFails family (ArrowTask one wanted ([], []) wanted)) (λ one. RefutesNeed family (map (arrow_way one) (splits wanted)))
      (λ one fails. arrow_need_fails family one wanted fails) refused
      (map_of_one (λ one. ArrowTask one wanted ([], []) wanted) (TaskFails family) refused is)),
)
task_refutes family (Records wanted refused) (inl fails) = records_fail family wanted refused fails
task_refutes family (Records wanted refused) (inr none) = elim none [ ]
task_refutes family (Ints wanted refused) is = elim is [ ]
task_refutes family (Chars wanted refused) is = elim is [ ]
task_refutes family (Atoms wanted refused) is = elim is [ ]
