-- Keys that compare as equal are equal.
use Rattle.std.proofs.Common.{◌≡◌, ◌==◌, ◌&&◌, Bool, true, sym, ap, true≢false}
use Rattle.std.specs.Cmp.{first_so, second_so, unsigned_Decides}
use Rattle.cd_asking.specs.declared.node_sets.SetId.{SetId}
use Rattle.cd_asking.specs.declared.row.RowId.{RowId}
use Rattle.cd_asking.specs.declared.row.Answered.{Answered}
use Rattle.cd_asking.specs.declared.row.Longer.{Longer}
use Rattle.cd_asking.specs.declared.case.Case.{Case}
use Rattle.cd_asking.specs.declared.case.Case.TheVariants as case
use Rattle.cd_asking.specs.declared.asker.Lead.{Lead}
use Rattle.cd_asking.specs.declared.asker.Question.{Question}
use Rattle.cd_asking.specs.contracts.node_sets.SetIdPartialEq.TheImpl as set_equality
use Rattle.cd_asking.specs.contracts.row.RowIdPartialEq.TheImpl as row_equality
use Rattle.cd_asking.specs.contracts.row.AnsweredPartialEq.TheImpl as field_equality
use Rattle.cd_asking.specs.contracts.row.LongerPartialEq.TheImpl as longer_equality
use Rattle.cd_asking.specs.contracts.case.CasePartialEq.TheImpl as case_equality
use Rattle.cd_asking.specs.contracts.asker.LeadPartialEq.TheImpl as lead_equality
use Rattle.cd_asking.specs.contracts.asker.QuestionPartialEq.TheImpl as question_equality

-- what `==` answers
abbrev pub same_set : SetId → SetId → Bool
same_set = (set_equality.ghosts).eq

abbrev pub same_row : RowId → RowId → Bool
same_row = (row_equality.ghosts).eq

abbrev pub same_field : Answered → Answered → Bool
same_field = (field_equality.ghosts).eq

abbrev pub same_longer : Longer → Longer → Bool
same_longer = (longer_equality.ghosts).eq

abbrev pub same_case : Case → Case → Bool
same_case = (case_equality.ghosts).eq

abbrev pub same_lead : Lead → Lead → Bool
same_lead = (lead_equality.ghosts).eq

abbrev pub same_question : Question → Question → Bool
same_question = (question_equality.ghosts).eq

pub same_sets : (one other : SetId) → same_set one other ≡ true → one ≡ other
same_sets one other same = λ i. record { 0 = (unsigned_Decides one.0 other.0).0 same i }

same_rows : (one other : RowId) → same_row one other ≡ true → one ≡ other
same_rows one other same = λ i. record { 0 = (unsigned_Decides one.0 other.0).0 same i }

same_fields : (one other : Answered) → same_field one other ≡ true → one ≡ other
same_fields one other same = λ i. record {
  label = (unsigned_Decides one.label other.label).0 (first_so (one.label == other.label) (same_set one.nodes other.nodes) same) i;
  nodes = same_sets one.nodes other.nodes (second_so (one.label == other.label) (same_set one.nodes other.nodes) same) i;
}

pub same_longers : (one other : Longer) → same_longer one other ≡ true → one ≡ other
same_longers one other same = λ i. record {
  row = same_rows one.row other.row (first_so (same_row one.row other.row) (same_field one.field other.field) same) i;
  field = same_fields one.field other.field (second_so (same_row one.row other.row) (same_field one.field other.field) same) i;
}

same_cases : (one other : Case) → same_case one other ≡ true → one ≡ other
same_cases (case.Letter c) (case.Letter d) same = ap case.Letter ((unsigned_Decides c d).0 same)
same_cases (case.Atom n) (case.Atom m) same = ap case.Atom ((unsigned_Decides n m).0 same)
same_cases (case.Pair first second) (case.Pair one other) same = λ i. case.Pair
    (same_sets first one (first_so (same_set first one) (same_set second other) same) i)
    (same_sets second other (second_so (same_set first one) (same_set second other) same) i)
same_cases (case.Xml tag attributes content) (case.Xml one other last) same =
    let rest = second_so (same_set tag one) (same_set attributes other && same_set content last) same in λ i.
    case.Xml (same_sets tag one (first_so (same_set tag one) (same_set attributes other && same_set content last) same) i)
    (same_sets attributes other (first_so (same_set attributes other) (same_set content last) rest) i)
    (same_sets content last (second_so (same_set attributes other) (same_set content last) rest) i)
same_cases (case.Record one) (case.Record other) same = ap case.Record (same_rows one other same)
same_cases _ _ same = absurd (true≢false (sym same))

pub same_leads : (one other : Lead) → same_lead one other ≡ true → one ≡ other
same_leads one other same = λ i. record {
  set = same_sets one.set other.set (first_so (same_set one.set other.set) (one.label == other.label) same) i;
  label = (unsigned_Decides one.label other.label).0 (second_so (same_set one.set other.set) (one.label == other.label) same) i;
}

pub same_questions : (one other : Question) → same_question one other ≡ true → one ≡ other
same_questions one other same = λ i. record {
  set = same_sets one.set other.set (first_so (same_set one.set other.set) (same_case one.case other.case) same) i;
  case = same_cases one.case other.case (second_so (same_set one.set other.set) (same_case one.case other.case) same) i;
}
