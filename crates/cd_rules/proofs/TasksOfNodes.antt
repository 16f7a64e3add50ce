-- The parts of a task of a clause of a question are nodes of the graph, and its labels are labels.
use Rattle.std.proofs.Common.{◌≡◌, ◌≤◌, ℕ, Bool, true, false, List, [], ◌∷◌, ◌++◌, map, length, if◌then◌else◌, ap, sym, subst, ◌∙◌}
use Rattle.std.proofs.Common.{length-append}
use native.Mathlib.Omega.{arith}
use Rattle.cd_sets.specs.declared.question.Question.{Question}
use Rattle.cd_syntax.specs.Name.{Name, IsLabel}
use Rattle.cd_model.specs.AllOf.{AllOf}
use Rattle.cd_model.specs.BuiltIns.{built_ins}
use Rattle.cd_model.specs.Formula.{Graph, IsGraph}
use Rattle.cd_model.proofs.Covered.{each_parts}
use Rattle.cd_rules.specs.Clauses.{Clause, RecordType, Pairs, Xmls, Records, Arrows, IsClauseOfQuestion}
use Rattle.cd_rules.specs.Family.{AreAmong, AsksNodes}
use Rattle.cd_rules.specs.Members.{HaveLabels, NamesLabels}
use Rattle.cd_rules.specs.Rows.{Cell, labels_of}
use Rattle.cd_rules.specs.Tasks.{Task, PairTask, XmlTask, ArrowTask, RecordTask, questions_of, row_of_given, present}
use Rattle.cd_rules.specs.Tasks.{IsTaskOf, IsTaskOfNodes, left_of, labels_in}
use Rattle.cd_rules.specs.Within.{IsWithin, IsPairWithin, IsXmlWithin, IsTypeWithin}
use Rattle.cd_rules.proofs.Among.{of_each, each_of_among}
use Rattle.cd_rules.proofs.Answered.{map_of_each}
use Rattle.cd_rules.proofs.MembersOfRecords.{labels_are}
use Rattle.cd_model.proofs.Ones.{each_of_lists}
use Rattle.cd_rules.proofs.PartsAsk.{clause_is_within, clause_names_labels, pair_way_asks, xml_way_asks, arrow_way_asks, row_asks}

-- what each member has, each one that was given has, and each one that is left
module _ {X : Type 0} (Has : X → Type 0) (members left : List X) (each : AllOf Has members) where
  given_has : (given : List X) → AreAmong (given ++ left) members → AllOf Has given
  given_has given among = (each_parts Has given left (each_of_among Has (given ++ left) members among each)).0

  left_has : (given : List X) → AreAmong (given ++ left) members → AllOf Has left
  left_has given among = (each_parts Has given left (each_of_among Has (given ++ left) members among each)).1

  both_have : (given : List X × List X) → AreAmong (given.0 ++ given.1 ++ left) members
      → AllOf Has given.0 × AllOf Has given.1
  both_have given among = each_parts Has given.0 given.1 (given_has (given.0 ++ given.1) among)

  three_have : (given : List X × List X × List X) → AreAmong (given.0 ++ given.1 ++ given.2 ++ left) members
      → AllOf Has given.0 × AllOf Has given.1 × AllOf Has given.2
  three_have given among =
      let all = each_parts Has (given.0 ++ given.1) given.2 (given_has (given.0 ++ given.1 ++ given.2) among) in
      let both = each_parts Has given.0 given.1 all.0 in (both.0, both.1, all.1)

module _ (nodes : ℕ) where
  present_ask : (cells : List (Name × Cell)) → AllOf (λ cell. AsksNodes nodes cell.1.value) cells → AllOf (AsksNodes nodes) (present cells)
  present_ask [] each = tt
  present_ask (cell ∷ cells) each = by_test cell.1.absent (present_ask cells each.1)
    where
      by_test : (test : Bool) → AllOf (AsksNodes nodes) (present cells)
          → AllOf (AsksNodes nodes) (if test then present cells else cell.1.value ∷ present cells)
      by_test true later = later
      by_test false later = (each.0, later)

  -- the questions of a task ask nodes, where the parts of its clause are among these
  task_asks : 14 ≤ nodes → (clause : Clause) (task : Task) → IsTaskOf clause task → IsWithin nodes clause
      → AllOf (AsksNodes nodes) (questions_of task)
  task_asks least (Pairs wanted refused) (PairTask some others given left) ((same, same_too), is) within =
      pair_way_asks nodes some (subst (AllOf (IsPairWithin nodes)) (sym same) within.0) given
      (both_have (IsPairWithin nodes) others left (subst (AllOf (IsPairWithin nodes)) (sym same_too) within.1) given is.0)
  task_asks least (Xmls wanted refused) (XmlTask some others given left) ((same, same_too), is) within =
      xml_way_asks nodes least some (subst (AllOf (IsXmlWithin nodes)) (sym same) within.0) given
      (three_have (IsXmlWithin nodes) others left (subst (AllOf (IsXmlWithin nodes)) (sym same_too) within.1) given is.0)
  task_asks least (Arrows wanted refused) (ArrowTask one some given left) ((same, there), is) within =
      arrow_way_asks nodes one (of_each (IsPairWithin nodes) refused one within.1 there) given
      (both_have (IsPairWithin nodes) some left (subst (AllOf (IsPairWithin nodes)) (sym same) within.0) given is.0)
  task_asks least (Records wanted refused) (RecordTask some others given left) ((same, same_too), is) within =
      let asks = row_asks nodes (labels_of (some ++ others)) some (subst (AllOf (IsTypeWithin nodes)) (sym same) within.0) given
      (map_of_each (λ one. one.0) (IsTypeWithin nodes) given (given_has (IsTypeWithin nodes) others left
      (subst (AllOf (IsTypeWithin nodes)) (sym same_too) within.1) (map (λ one. one.0) given) is.0.0)) in
      each_of_lists (AsksNodes nodes) (present (row_of_given some others given).cells) (row_of_given some others given).some
      (present_ask (row_of_given some others given).cells asks.0) asks.1
  task_asks _ _ _ is _ = absurd is.0

  -- the parts of the members that are left are among these nodes too
  left_within : (clause : Clause) (task : Task) → IsTaskOf clause task → IsWithin nodes clause → IsWithin nodes (left_of task)
  left_within (Pairs wanted refused) (PairTask some others given left) ((same, same_too), is) within = (
    tt,
    left_has (IsPairWithin nodes) others left (subst (AllOf (IsPairWithin nodes)) (sym same_too) within.1) (given.0 ++ given.1) is.0,
  )
  left_within (Xmls wanted refused) (XmlTask some others given left) ((same, same_too), is) within = (
    tt,
    left_has (IsXmlWithin nodes) others left (subst (AllOf (IsXmlWithin nodes)) (sym same_too) within.1)
        (given.0 ++ given.1 ++ given.2) is.0,
  )
  left_within (Arrows wanted refused) (ArrowTask one some given left) ((same, there), is) within = (
    tt,
    left_has (IsPairWithin nodes) some left (subst (AllOf (IsPairWithin nodes)) (sym same) within.0) (given.0 ++ given.1) is.0,
  )
  left_within (Records wanted refused) (RecordTask some others given left) ((same, same_too), is) within = (
    tt,
    left_has (IsTypeWithin nodes) others left (subst (AllOf (IsTypeWithin nodes)) (sym same_too) within.1)
        (map (λ one. one.0) given) is.0.0,
  )
  left_within _ _ is _ = absurd is.0

-- the labels that its types name are labels, where those of the clause are
labels_of_task : (clause : Clause) (task : Task) → IsTaskOf clause task → NamesLabels clause → AllOf IsLabel (labels_in task)
labels_of_task (Records wanted refused) (RecordTask some others given left) ((same, same_too), is) names =
    labels_are (some ++ others) (each_of_lists (λ (type : RecordType). AllOf (λ field. IsLabel field.0) type.named) some others
    (subst HaveLabels (sym same) names.0) (subst HaveLabels (sym same_too) names.1))
labels_of_task _ (PairTask wanted refused given left) is names = tt
labels_of_task _ (XmlTask wanted refused given left) is names = tt
labels_of_task _ (ArrowTask refused wanted given left) is names = tt
labels_of_task _ _ is names = absurd is.0

pub task_of_nodes : (graph more : Graph) (question : Question) (clause : Clause) (task : Task) → graph ≡ built_ins ++ more → IsGraph graph
    → IsClauseOfQuestion graph question clause → IsTaskOf clause task → IsTaskOfNodes (length graph) task
task_of_nodes graph more question clause task begins sound of is = record {
  task = is.1;
  asks = task_asks (length graph) least clause task is within;
  left = left_within (length graph) clause task is within;
  labels = labels_of_task clause task is (clause_names_labels graph sound question clause of);
}
  where
    least : 14 ≤ length graph
    least = let long = ap length begins ∙ length-append built_ins more in omega arith

    within : IsWithin (length graph) clause
    within = clause_is_within graph sound question clause of
