-- What is known stays right when sets and rows are added, and with one thing more.
use Rattle.std.proofs.Common.{◌≡◌, ℕ, ◌+◌, ◌*◌, ◌<◌, ◌≤◌, Bool, true, false, List, [], ◌∷◌, ◌++◌, Option, Some, get_or, length, map, refl, sym, ap, ◌∙◌, subst, arith, length-append, append_assoc, append-nil, ◌⊎◌, inl, inr}
use Rattle.std.specs.Map.{lookup}
use Rattle.std.proofs.lemmas.Bool.{cases_Bool}
use Rattle.std.proofs.lemmas.List.{get_or_append_left}
use Rattle.indexmap.specs.IndexMap.{insert_entry}
use Rattle.cd_sets.specs.declared.node_id.NodeId.{NodeId}
use Rattle.cd_syntax.specs.Name.{Name}
use Rattle.cd_model.specs.AllOf.{AllOf}
use Rattle.cd_model.specs.Formula.{Graph}
use Rattle.cd_model.specs.Thing.{Thing}
use Rattle.cd_cells.specs.Cells.{name_at}
use Rattle.cd_asking.specs.Known.{KnowsOf}
use Rattle.cd_asking.specs.Inner.Rows.{row_at}
use Rattle.cd_asking.specs.Inner.Shapes.{nodes_with, members}
use Rattle.cd_asking.specs.Inner.Shapes as plain
use Rattle.cd_cells.specs.Slots.{PutsOnly}
use Rattle.cd_asking.specs.Inner.Slots.{EachSlot}
use Rattle.cd_asking.specs.Inner.Tasks.{Covers, First, Second, Tag, Attributes, Content, At, answered}
use Rattle.cd_asking.specs.Inner.Asked.{set_at, shape_by, done_by, plain_task, IsField, IsRow, IsTask, IsCase, IsCaseWithin, Grow, Grows, AddsOnly, AreBelow, AreNodesOf, Found}
use Rattle.cd_asking.specs.Inner.Entries.{LeadBoth, LeadAll, ArePairLeads, AreXmlLeads, AreLetters, IsLead, IsAnswer, IsRecent}
use Rattle.cd_asking.specs.declared.node_sets.SetId.{SetId}
use Rattle.cd_asking.specs.declared.asker.Lead.{Lead}
use Rattle.cd_asking.specs.declared.asker.Question.{Question}
use Rattle.cd_asking.specs.declared.asker.Recent.{Recent}
use Rattle.cd_asking.specs.declared.asker.PairLeads.{PairLeads}
use Rattle.cd_asking.specs.declared.asker.XmlLeads.{XmlLeads}
use Rattle.cd_asking.specs.declared.asker.Asker.{Asker}
use Rattle.cd_asking.specs.declared.case.Case.{Case}
use Rattle.cd_asking.specs.declared.case.Case.TheVariants as case
use Rattle.cd_asking.specs.declared.row.Answered.{Answered}
use Rattle.cd_asking.specs.declared.row.RowId.{RowId}
use Rattle.cd_asking.specs.declared.task.Task.{Task}
use Rattle.cd_asking.specs.declared.task.Task.TheVariants as code
use Rattle.cd_asking.proofs.Members.{at_number, each_by, each_more, each_passing}

-- entries of a map
module _ {K V : Type 0} (same : K → K → Bool) (decides : (one other : K) → same one other ≡ true → one ≡ other) (Fact : K × V → Type 0) where
  pub found : (entries : List (K × V)) (key : K) (value : V) → AllOf Fact entries → lookup (same key) entries ≡ Some value → Fact (key, value)
  found [] key value each is = absurd cc
  found (entry ∷ entries) key value each is = by_test (cases_Bool (same key entry.0)) (found entries key value each.1)
    where
      by_test : (same key entry.0 ≡ true) ⊎ (same key entry.0 ≡ false) → (lookup (same key) entries ≡ Some value → Fact (key, value)) → Fact (key, value)
      by_test (inl equal) later =
          let says : Some entry.1 ≡ Some value = rw equal at is in
          let value_is : entry.1 ≡ value = cc says in
          subst (λ (value : V). Fact (key, value)) value_is
          (subst (λ (key : K). Fact (key, entry.1)) (sym (decides key entry.0 equal)) each.0)
      by_test (inr other) later = later (rw other at is)

  pub inserted : (entries : List (K × V)) (key : K) (value : V) → AllOf Fact entries → Fact (key, value) → AllOf Fact (insert_entry same entries key value)
  inserted [] key value each is = (is, tt)
  inserted (entry ∷ entries) key value each is = by_test (cases_Bool (same key entry.0)) (inserted entries key value each.1 is)
    where
      by_test : (same key entry.0 ≡ true) ⊎ (same key entry.0 ≡ false) → AllOf Fact (insert_entry same entries key value)
          → AllOf Fact (insert_entry same (entry ∷ entries) key value)
      by_test (inl equal) later = rw equal (subst (λ (key : K). Fact (key, value)) (decides key entry.0 equal) is, each.1)
      by_test (inr other) later = rw other (each.0, later)

-- values of numbers
module _ {X : Type 0} where
  pub slots_stay : (F G : ℕ → X → Type 0) → ((number : ℕ) (one : X) → F number one → G number one) → (slots : List (Option X)) → EachSlot F slots → EachSlot G slots
  slots_stay F G on slots each number one is = on number one (each number one is)

  pub more_slots : (F : ℕ → X → Type 0) (slots after : List (Option X)) (number : ℕ) (one : X) → EachSlot F slots → F number one
      → PutsOnly number one slots after → EachSlot F after
  more_slots F slots after number one each is puts other value found = elim (puts other value found) [
    | inl new ↦ subst (λ (number : ℕ). F number value) (sym new.0) (subst (F number) (sym new.1) is)
    | inr was ↦ each other value was
  ]

-- sets of nodes with numbers below a bound
pub set_below : (bound : ℕ) (sets : List (List NodeId)) (set : SetId) → AllOf (AreBelow bound) sets → AreBelow bound (set_at sets set)
set_below bound sets set each = at_number (AreBelow bound) sets set.0 [] each tt

pub members_below : (bound : ℕ) (graph : Graph) (shape : plain.Shape) (sets : List (List NodeId)) (set : SetId) (ids : List NodeId)
    → AllOf (AreBelow bound) sets → ids ≡ members graph shape (set_at sets set) → AreBelow bound ids
members_below bound graph shape sets set ids each is =
    subst (AreBelow bound) (sym is) (each_passing (λ id. id.0 < bound) (nodes_with graph shape) (set_at sets set) (set_below bound sets set each))

-- what is added
module _ {X : Type 0} where
  pub grown_none : (all : List X) → Grow all all
  grown_none all = ([], sym (append-nil all))

  pub grown_on : (old middle new : List X) → Grow old middle → Grow middle new → Grow old new
  grown_on old middle new first second = (
    first.0 ++ second.0,
    second.1 ∙ ap (λ all. all ++ second.0) first.1 ∙ append_assoc old first.0 second.0,
  )

  pub adds_grow : (one : X) (old new : List X) → AddsOnly one old new → Grow old new
  adds_grow one old new adds = elim adds [
    | inl same ↦ ([], same ∙ sym (append-nil old))
    | inr more ↦ (one ∷ [], more)
  ]

  pub adds_each : (F : X → Type 0) (one : X) (old new : List X) → AllOf F old → F one → AddsOnly one old new → AllOf F new
  adds_each F one old new each is adds = elim adds [
    | inl same ↦ subst (AllOf F) (sym same) each
    | inr more ↦ subst (AllOf F) (sym more) (each_more F old one each is)
  ]

  length_grows : (old new : List X) → Grow old new → length old ≤ length new
  length_grows old new grow =
      let longer : length new ≡ length (old ++ grow.0) = ap length grow.1 in
      omega (arith, length-append old grow.0)

  pub at_stays : (old new : List X) (default : X) → Grow old new → (index : ℕ) → index < length old → get_or new index default ≡ get_or old index default
  at_stays old new default grow index within = ap (λ all. get_or all index default) grow.1 ∙ get_or_append_left old grow.0 default index within

pub grows_none : (asker : Asker) → Grows asker asker
grows_none asker = (grown_none asker.sets, grown_none asker.rows)

pub grows_on : (old middle new : Asker) → Grows old middle → Grows middle new → Grows old new
grows_on old middle new first second = (
  grown_on old.sets middle.sets new.sets first.0 second.0,
  grown_on old.rows middle.rows new.rows first.1 second.1,
)

-- rows
pub row_stays : (old new : List (List Answered)) → Grow old new → (row : RowId) → row.0 ≤ length old → row_at new row ≡ row_at old row
row_stays old new grow row within = at_stays ([] ∷ old) ([] ∷ new) [] (grow.0, ap (λ rows. [] ∷ rows) grow.1) row.0 (omega (arith, within))

module _ (old new : List (List NodeId)) (grow : Grow old new) where
  pub stays : (id : SetId) → id.0 < length old → set_at new id ≡ set_at old id
  stays id within = at_stays old new [] grow id.0 within

  pub still_within : (number : ℕ) → number < length old → number < length new
  still_within number within = omega (arith, length_grows old new grow)

  -- what was found of a set
  pub found_later : (graph : Graph) (shape : plain.Shape) (set answer : SetId) → set.0 < length old
      → Found graph shape (set_at old set) new answer → Found graph shape (set_at new set) new answer
  found_later graph shape set answer within is = (is.0, is.1 ∙ ap (members graph shape) (sym (stays set within)))

  module _ (names : List Name) (rows more : List (List Answered)) (grow_rows : Grow rows more) where
    done_stays : (done : List Answered) → AllOf (IsField names (length old)) done → map (done_by names new) done ≡ map (done_by names old) done
    done_stays [] within = refl
    done_stays (one ∷ done) within = cc (stays one.nodes within.0.1, done_stays done within.1)

    pub row_is : (row : RowId) → IsRow names old rows row → map (done_by names new) (row_at more row) ≡ map (done_by names old) (row_at rows row)
    row_is row within = ap (map (done_by names new)) (row_stays rows more grow_rows row within.0) ∙ done_stays (row_at rows row) within.1

    pub row_within : (row : RowId) → IsRow names old rows row → IsRow names new more row
    row_within row within = (
      omega (arith, length_grows rows more grow_rows, within.0),
      subst (AllOf (IsField names (length new))) (sym (row_stays rows more grow_rows row within.0))
          (each_by _ _ (row_at rows row) (λ field is. (is.0, still_within field.nodes.0 is.1)) within.1),
    )

    shape_stays : (is : Case) → IsCaseWithin names old rows is → shape_by names new more is ≡ shape_by names old rows is
    shape_stays (case.Letter c) within = refl
    shape_stays (case.Atom name) within = refl
    shape_stays (case.Pair first second) within = cc (stays first within.0, stays second within.1)
    shape_stays (case.Xml tag attributes content) within = cc (stays tag within.0, stays attributes within.1, stays content within.2)
    shape_stays (case.Record row) within = ap (λ done. plain.Record (answered done)) (row_is row within)

    case_within : (is : Case) → IsCaseWithin names old rows is → IsCaseWithin names new more is
    case_within (case.Letter c) within = tt
    case_within (case.Atom name) within = tt
    case_within (case.Pair first second) within = (still_within first.0 within.0, still_within second.0 within.1)
    case_within (case.Xml tag attributes content) within =
        (still_within tag.0 within.0, still_within attributes.0 within.1, still_within content.0 within.2)
    case_within (case.Record row) within = row_within row within

    module _ (graph : Graph) where
      -- an answer to a question at a set, also where it is new
      pub new_answer : (set : SetId) (is : Case) (answer : SetId) → set.0 < length old → IsCase names is → IsCaseWithin names old rows is
          → Found graph (shape_by names old rows is) (set_at old set) new answer
          → IsAnswer graph new names more (record { set = set; case = is }, answer)
      new_answer set is answer within labelled parts found = (
        still_within set.0 within,
        labelled,
        case_within is parts,
        found_later graph _ set answer within (found.0, found.1 ∙ ap (λ shape. members graph shape (set_at old set)) (sym (shape_stays is parts))),
      )

      answer_stays : (answer : Question × SetId) → IsAnswer graph old names rows answer → IsAnswer graph new names more answer
      answer_stays answer is = new_answer answer.0.set answer.0.case answer.1 is.0 is.1 is.2
          (still_within answer.1.0 is.3.0, stays answer.1 is.3.0 ∙ is.3.1)

      recent_stays : (place : ℕ) (recent : Recent) → IsRecent graph old names rows place recent → IsRecent graph new names more place recent
      recent_stays place recent is = answer_stays (recent.question, recent.answer) is

  module _ (graph : Graph) where
    both_stay : (number : ℕ) (leads : PairLeads) → ArePairLeads graph old number leads → ArePairLeads graph new number leads
    both_stay number leads is = let set : SetId = record { 0 = number } in (
      still_within number is.0,
      subst (λ (ids : List NodeId). LeadBoth graph new ids leads) (sym (stays set is.0)) (
        still_within leads.first.0 is.1.0,
        still_within leads.second.0 is.1.1,
        subst (Covers graph First (set_at old set)) (sym (stays leads.first is.1.0)) is.1.2,
        subst (Covers graph Second (set_at old set)) (sym (stays leads.second is.1.1)) is.1.3,
      ),
    )

    all_stay : (number : ℕ) (leads : XmlLeads) → AreXmlLeads graph old number leads → AreXmlLeads graph new number leads
    all_stay number leads is = let set : SetId = record { 0 = number } in (
      still_within number is.0,
      subst (λ (ids : List NodeId). LeadAll graph new ids leads) (sym (stays set is.0)) (
        still_within leads.tag.0 is.1.0,
        still_within leads.attributes.0 is.1.1,
        still_within leads.content.0 is.1.2,
        subst (Covers graph Tag (set_at old set)) (sym (stays leads.tag is.1.0)) is.1.3,
        subst (Covers graph Attributes (set_at old set)) (sym (stays leads.attributes is.1.1)) is.1.4,
        subst (Covers graph Content (set_at old set)) (sym (stays leads.content is.1.2)) is.1.5,
      ),
    )

    letters_stay : (letters : List (Option SetId)) → AreLetters graph old letters → AreLetters graph new letters
    letters_stay letters right set c answer ascii is =
        let was = right set c answer ascii is in (
          still_within set was.0,
          found_later graph (plain.Character c) (record { 0 = set }) answer was.0 (still_within answer.0 was.1.0, stays answer was.1.0 ∙ was.1.1),
        )

    lead_stays : (names : List Name) (lead : Lead × SetId) → IsLead graph old names lead → IsLead graph new names lead
    lead_stays names lead is = (
      is.0,
      still_within lead.0.set.0 is.1,
      still_within lead.1.0 is.2,
      subst (λ (set : List NodeId). Covers graph (At (name_at names lead.0.label)) set (set_at new lead.1)) (sym (stays lead.0.set is.1))
          (subst (λ (next : List NodeId). Covers graph (At (name_at names lead.0.label)) (set_at old lead.0.set) next) (sym (stays lead.1 is.2)) is.3),
    )

-- one letter more
pub more_letters : (graph : Graph) (sets : List (List NodeId)) (letters after : List (Option SetId)) (set : SetId) (c : ℕ) (answer : SetId)
    → AreLetters graph sets letters → set.0 < length sets → c < 128 → Found graph (plain.Character c) (set_at sets set) sets answer
    → PutsOnly (128 * set.0 + c) answer letters after → AreLetters graph sets after
more_letters graph sets letters after set c answer right within ascii is puts other d one small found = elim (puts (128 * other + d) one found) [
  | inl new_one ↦
      let same_set : other ≡ set.0 = omega (arith, new_one.0, small, ascii) in
      let same_letter : d ≡ c = omega (arith, new_one.0, small, ascii) in
      subst (λ (number : ℕ). (number < length sets) × Found graph (plain.Character d) (set_at sets (record { 0 = number })) sets one) (sym same_set)
      (subst (λ (d : ℕ). (set.0 < length sets) × Found graph (plain.Character d) (set_at sets set) sets one) (sym same_letter)
      (subst (λ (one : SetId). (set.0 < length sets) × Found graph (plain.Character c) (set_at sets set) sets one) (sym new_one.1) (within, is)))
  | inr was ↦ right other d one small was
]

-- all that is known
pub knows_more : (graph : Graph) (names : List Name) (old : Asker) (sets : List (List NodeId)) (rows : List (List Answered)) → Grow old.sets sets → Grow old.rows rows
    → AreNodesOf graph sets → KnowsOf graph names old → KnowsOf graph names (record old { sets = sets; rows = rows })
knows_more graph names old sets rows grow grow_rows nodes right = record {
  nodes = nodes;
  pairs = slots_stay _ _ (both_stay old.sets sets grow graph) old.pairs right.pairs;
  xmls = slots_stay _ _ (all_stay old.sets sets grow graph) old.xmls right.xmls;
  letters = letters_stay old.sets sets grow graph old.letters right.letters;
  leads = each_by _ _ old.leads.entries (lead_stays old.sets sets grow graph names) right.leads;
  answers = each_by _ _ old.answers.entries (answer_stays old.sets sets grow names old.rows rows grow_rows graph) right.answers;
  recent = slots_stay _ _ (recent_stays old.sets sets grow names old.rows rows grow_rows graph) old.recent right.recent;
}

-- tasks
module _ (old new : Asker) (grow : Grows old new) (names : List Name) where
  pub task_stays : (table : List Thing) (is : Task) → IsTask names (length table) old is
      → plain_task names table new is ≡ plain_task names table old is
  task_stays table (code.OfSecond second set) within = cc (stays old.sets new.sets grow.0 set within.1)
  task_stays table (code.OfPairs set first count) within = cc (stays old.sets new.sets grow.0 set within.0, stays old.sets new.sets grow.0 first within.1)
  task_stays table (code.OfAttributes attributes content set) within = cc (stays old.sets new.sets grow.0 set within.2)
  task_stays table (code.OfContent content set tag) within = cc (stays old.sets new.sets grow.0 set within.1, stays old.sets new.sets grow.0 tag within.2)
  task_stays table (code.OfXml set tag attributes) within =
      cc (stays old.sets new.sets grow.0 set within.0, stays old.sets new.sets grow.0 tag within.1, stays old.sets new.sets grow.0 attributes within.2)
  task_stays table (code.OfField set row label left) within =
      cc (stays old.sets new.sets grow.0 set within.0, row_is old.sets new.sets grow.0 names old.rows new.rows grow.1 row within.1)

  pub task_within : (values : ℕ) (is : Task) → IsTask names values old is → IsTask names values new is
  task_within values (code.OfSecond second set) within = (within.0, still_within old.sets new.sets grow.0 set.0 within.1)
  task_within values (code.OfPairs set first count) within =
      (still_within old.sets new.sets grow.0 set.0 within.0, still_within old.sets new.sets grow.0 first.0 within.1)
  task_within values (code.OfAttributes attributes content set) within = (within.0, within.1, still_within old.sets new.sets grow.0 set.0 within.2)
  task_within values (code.OfContent content set tag) within =
      (within.0, still_within old.sets new.sets grow.0 set.0 within.1, still_within old.sets new.sets grow.0 tag.0 within.2)
  task_within values (code.OfXml set tag attributes) within = (
    still_within old.sets new.sets grow.0 set.0 within.0,
    still_within old.sets new.sets grow.0 tag.0 within.1,
    still_within old.sets new.sets grow.0 attributes.0 within.2,
  )
  task_within values (code.OfField set row label left) within = (
    still_within old.sets new.sets grow.0 set.0 within.0,
    row_within old.sets new.sets grow.0 names old.rows new.rows grow.1 row within.1,
    within.2,
    within.3,
  )
