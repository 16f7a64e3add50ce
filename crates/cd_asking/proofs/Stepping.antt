-- The steps of the code make what the tasks make.
use Rattle.std.proofs.Common.{◌≡◌, ℕ, zero, suc, ◌+◌, ◌-◌, ◌<◌, Option, Some, List, [], ◌∷◌, ◌++◌, length, map, sym, ap, ◌∙◌, subst, arith, append_assoc}
use Rattle.std.specs.Borrow.{Bor}
use Rattle.std.specs.Prelude.{MatchOption}
use Rattle.std.proofs.lemmas.List.{map-append}
use Rattle.cd_sets.specs.declared.node_id.NodeId.{NodeId}
use Rattle.cd_syntax.specs.Name.{Name}
use Rattle.cd_model.specs.AllOf.{AllOf}
use Rattle.cd_model.specs.Formula.{Graph}
use Rattle.cd_model.specs.Thing as thing
use Rattle.cd_model.specs.Thing.{Thing, Fields}
use Rattle.cd_cells.specs.Cells.{thing_at, name_at, fields_of, IsPart}
use Rattle.cd_cells.specs.declared.cell.ValueId.{ValueId}
use Rattle.cd_cells.specs.declared.cell.Part.{Part}
use Rattle.cd_asking.specs.Inner.Rows.{row_at}
use Rattle.cd_asking.specs.Inner.Shapes as plain
use Rattle.cd_asking.specs.Inner.Shapes.{Closed, members, shape_of, fields_with}
use Rattle.cd_asking.specs.Inner.Tasks as task
use Rattle.cd_asking.specs.Inner.Tasks.{Covers, First, Second, Tag, Attributes, Content, At, after, answered, among, size, size_of_fields, weight, again, paired}
use Rattle.cd_asking.specs.Inner.Asked.{set_at, done_by, left_to_do, plain_task, IsRow, IsStep, Grow, Grows, Found}
use Rattle.cd_asking.specs.declared.asker.Asker.{Asker}
use Rattle.cd_asking.specs.declared.node_sets.SetId.{SetId}
use Rattle.cd_asking.specs.declared.row.Answered.{Answered}
use Rattle.cd_asking.specs.declared.row.RowId.{RowId}
use Rattle.cd_asking.specs.declared.task.Task.{Task}
use Rattle.cd_asking.specs.declared.task.Task.TheVariants as code
use Rattle.cd_asking.specs.declared.task.Next.{Next}
use Rattle.cd_asking.specs.declared.task.Next.TheVariants.{Answer, Ask}
use Rattle.cd_asking.proofs.Kept.{grows_none, grows_on, stays, still_within, row_is, row_within, task_stays, task_within}
use Rattle.cd_asking.proofs.Steps.{runs_stop, to_first, to_second, to_tag, to_attributes, to_content, to_field}

pair_falls : (a b : ℕ) → a + (2 + b) < 3 + (a + b)
pair_falls a b = omega arith

second_falls : (b : ℕ) → b + 1 < 2 + b
second_falls b = omega arith

xml_falls : (a b c : ℕ) → a + (3 + (b + c)) < 4 + (a + (b + c))
xml_falls a b c = omega arith

attributes_fall : (b c : ℕ) → b + (2 + c) < 3 + (b + c)
attributes_fall b c = omega arith

field_falls : (a b : ℕ) → a + b < 1 + (a + b)
field_falls a b = omega arith

module _ (names : List Name) (graph : Graph) (closed : Closed) (table : List Thing) where
  module _ (old new : Asker) (grows : Grows old new) (set next : SetId) (within : set.0 < length old.sets) (below : next.0 < length new.sets) where
    abbrev ids : List NodeId
    ids = set_at old.sets set

    abbrev there : List NodeId
    there = set_at new.sets next

    stays_at : (id : SetId) → id.0 < length old.sets → set_at new.sets id ≡ set_at old.sets id
    stays_at = stays old.sets new.sets grows.0

    within_new : (id : SetId) → id.0 < length old.sets → id.0 < length new.sets
    within_new id = still_within old.sets new.sets grows.0 id.0

    abbrev thing_of : ValueId → Thing
    thing_of id = thing_at table id.0

    set_stays : set_at new.sets set ≡ ids
    set_stays = stays_at set within

    pub pair_step : (first second : ValueId) → first.0 < length table → second.0 < length table → Covers graph First ids there
        → IsStep names graph closed table new (members graph (shape_of graph closed (thing.Pair (thing_of first) (thing_of second))) ids)
        (size (thing.Pair (thing_of first) (thing_of second))) (Ask first next (code.OfSecond second set))
    pair_step first second is is_too covers = record {
      makes = ap (λ set. after graph closed (task.OfSecond (thing_of second) set) (members graph (shape_of graph closed (thing_of first)) there)) set_stays
          ∙ to_first graph closed ids there (thing_of first) (thing_of second) covers;
      falls = pair_falls (size (thing_of first)) (size (thing_of second));
      numbers = (is, below, (is_too, within_new set within));
    }

    pub second_step : (second : ValueId) (first : SetId) → second.0 < length table → first.0 < length old.sets → Covers graph Second ids there
        → IsStep names graph closed table new (after graph closed (task.OfSecond (thing_of second) ids) (set_at old.sets first))
        (weight (task.OfSecond (thing_of second) ids)) (Ask second next (code.OfPairs set first 1))
    second_step second first is is_too covers = record {
      makes = ap (λ set. after graph closed (task.OfPairs set (set_at new.sets first) 1) (members graph (shape_of graph closed (thing_of second)) there)) set_stays
          ∙ ap (λ first. after graph closed (task.OfPairs ids first 1) (members graph (shape_of graph closed (thing_of second)) there)) (stays_at first is_too)
          ∙ to_second graph closed ids there (thing_of second) (set_at old.sets first) covers;
      falls = second_falls (size (thing_of second));
      numbers = (is, below, (within_new set within, within_new first is_too));
    }

    pub xml_step : (tag attributes content : ValueId) → tag.0 < length table → attributes.0 < length table → content.0 < length table
        → Covers graph Tag ids there
        → IsStep names graph closed table new (members graph (shape_of graph closed (thing.Xml (thing_of tag) (thing_of attributes) (thing_of content))) ids)
        (size (thing.Xml (thing_of tag) (thing_of attributes) (thing_of content))) (Ask tag next (code.OfAttributes attributes content set))
    xml_step tag attributes content is are is_too covers = record {
      makes = ap (λ set. after graph closed (task.OfAttributes (thing_of attributes) (thing_of content) set) (members graph (shape_of graph closed (thing_of tag)) there)) set_stays
          ∙ to_tag graph closed ids there (thing_of tag) (thing_of attributes) (thing_of content) covers;
      falls = xml_falls (size (thing_of tag)) (size (thing_of attributes)) (size (thing_of content));
      numbers = (is, below, (are, is_too, within_new set within));
    }

    pub attributes_step : (attributes content : ValueId) (tag : SetId) → attributes.0 < length table → content.0 < length table → tag.0 < length old.sets
        → Covers graph Attributes ids there
        → IsStep names graph closed table new (after graph closed (task.OfAttributes (thing_of attributes) (thing_of content) ids) (set_at old.sets tag))
        (weight (task.OfAttributes (thing_of attributes) (thing_of content) ids)) (Ask attributes next (code.OfContent content set tag))
    attributes_step attributes content tag are is is_too covers = record {
      makes = ap (λ set. after graph closed (task.OfContent (thing_of content) set (set_at new.sets tag)) (members graph (shape_of graph closed (thing_of attributes)) there)) set_stays
          ∙ ap (λ tag. after graph closed (task.OfContent (thing_of content) ids tag) (members graph (shape_of graph closed (thing_of attributes)) there)) (stays_at tag is_too)
          ∙ to_attributes graph closed ids there (thing_of attributes) (thing_of content) (set_at old.sets tag) covers;
      falls = attributes_fall (size (thing_of attributes)) (size (thing_of content));
      numbers = (are, below, (is, within_new set within, within_new tag is_too));
    }

    pub content_step : (content : ValueId) (tag attributes : SetId) → content.0 < length table → tag.0 < length old.sets → attributes.0 < length old.sets
        → Covers graph Content ids there
        → IsStep names graph closed table new (after graph closed (task.OfContent (thing_of content) ids (set_at old.sets tag)) (set_at old.sets attributes))
        (weight (task.OfContent (thing_of content) ids (set_at old.sets tag))) (Ask content next (code.OfXml set tag attributes))
    content_step content tag attributes is is_too are covers = record {
      makes = ap (λ set. after graph closed (task.OfXml set (set_at new.sets tag) (set_at new.sets attributes)) (members graph (shape_of graph closed (thing_of content)) there)) set_stays
          ∙ ap (λ tag. after graph closed (task.OfXml ids tag (set_at new.sets attributes)) (members graph (shape_of graph closed (thing_of content)) there)) (stays_at tag is_too)
          ∙ ap (λ fields. after graph closed (task.OfXml ids (set_at old.sets tag) fields) (members graph (shape_of graph closed (thing_of content)) there)) (stays_at attributes are)
          ∙ to_content graph closed ids there (thing_of content) (set_at old.sets tag) (set_at old.sets attributes) covers;
      falls = second_falls (size (thing_of content));
      numbers = (is, below, (within_new set within, within_new tag is_too, within_new attributes are));
    }

    -- a field of a record
    pub field_step : (row : RowId) (id : ValueId) (field : Part) (left : Bor (List Part)) → id.0 ≡ field.value
        → IsPart names (length table) field → AllOf (IsPart names (length table)) left.now → IsRow names old.sets old.rows row
        → Covers graph (At (name_at names field.label)) ids there
        → IsStep names graph closed table new (members graph (plain.Record (answered (map (done_by names old.sets) (row_at old.rows row))
        ++ fields_with graph closed (fields_of names table (field ∷ left.now)))) ids)
        (size_of_fields (fields_of names table (field ∷ left.now))) (Ask id next (code.OfField set row field.label left))
    field_step row id field left id_is part parts row_is_one covers =
        let value : Thing = thing_at table field.value in
        let fields : Fields = fields_of names table left.now in
        let done : List (Name × List NodeId) = map (done_by names old.sets) (row_at old.rows row) in
        let label : Name = name_at names field.label in
        let value_is : thing_at table id.0 ≡ value = ap (thing_at table) id_is in
        let done_same : map (done_by names new.sets) (row_at new.rows row) ≡ done =
        row_is old.sets new.sets grows.0 names old.rows new.rows grows.1 row row_is_one in
        record {
          makes = ap (λ set. after graph closed (task.OfField set (map (done_by names new.sets) (row_at new.rows row)) label fields)
              (members graph (shape_of graph closed (thing_at table id.0)) there)) set_stays
              ∙ ap (λ done. after graph closed (task.OfField ids done label fields) (members graph (shape_of graph closed (thing_at table id.0)) there)) done_same
              ∙ ap (λ value. after graph closed (task.OfField ids done label fields) (members graph (shape_of graph closed value) there)) value_is
              ∙ to_field graph closed ids there done label value fields covers;
          falls = subst (λ is. size is + size_of_fields fields < 1 + (size value + size_of_fields fields)) (sym value_is)
              (field_falls (size value) (size_of_fields fields));
          numbers = (
            subst (λ number. number < length table) (sym id_is) part.1,
            below,
            (within_new set within, row_within old.sets new.sets grows.0 names old.rows new.rows grows.1 row row_is_one, part.0, parts),
          );
        }

module _ (names : List Name) (graph : Graph) (closed : Closed) (table : List Thing) where
  -- the same step, of the same nodes and as much work
  pub same_step : (asker : Asker) (nodes others : List NodeId) (work more : ℕ) (next : Next) → nodes ≡ others → work ≡ more
      → IsStep names graph closed table asker nodes work next → IsStep names graph closed table asker others more next
  same_step asker nodes others work more next same_nodes same_work step = record {
    makes = step.makes ∙ same_nodes;
    falls = subst (λ work. left_to_do names table asker next < work) same_work step.falls;
    numbers = step.numbers;
  }

  -- a step stays one when sets and rows are added
  pub step_grows : (old new : Asker) → Grows old new → (nodes : List NodeId) (work : ℕ) (next : Next)
      → IsStep names graph closed table old nodes work next → IsStep names graph closed table new nodes work next
  step_grows old new grows nodes work (Answer answer) step = record {
    makes = stays old.sets new.sets grows.0 answer step.numbers ∙ step.makes;
    falls = step.falls;
    numbers = still_within old.sets new.sets grows.0 answer.0 step.numbers;
  }
  step_grows old new grows nodes work (Ask id set task) step =
      let stay = task_stays old new grows names table task step.numbers.2 in record {
        makes = ap (λ task. after graph closed task (members graph (shape_of graph closed (thing_at table id.0)) (set_at new.sets set))) stay
            ∙ ap (λ ids. after graph closed (plain_task names table old task) (members graph (shape_of graph closed (thing_at table id.0)) ids))
            (stays old.sets new.sets grows.0 set step.numbers.1)
            ∙ step.makes;
        falls = subst (λ task. size (thing_at table id.0) + weight task < work) (sym stay) step.falls;
        numbers = (
          step.numbers.0,
          still_within old.sets new.sets grows.0 set.0 step.numbers.1,
          task_within old new grows names (length table) task step.numbers.2,
        );
      }

  -- a value that is asked answers at once
  pub at_once : (old middle new : Asker) → Grows old middle → (nodes : List NodeId) (work : ℕ) (id : ValueId) (set : SetId) (task : Task)
      (value : Thing) (answer : SetId) (next : Next) → IsStep names graph closed table old nodes work (Ask id set task)
      → value ≡ thing_at table id.0 → Found graph (shape_of graph closed value) (set_at old.sets set) middle.sets answer
      → IsStep names graph closed table new (after graph closed (plain_task names table middle task) (set_at middle.sets answer)) (weight (plain_task names table middle task)) next
      → IsStep names graph closed table new nodes work next
  at_once old middle new grows nodes work id set task value answer next asked value_is found step =
      let stay = task_stays old middle grows names table task asked.numbers.2 in
      let lighter = ap weight stay in
      let falls = step.falls in
      let before = asked.falls in record {
        makes = step.makes ∙ ap (λ task. after graph closed task (set_at middle.sets answer)) stay
            ∙ ap (after graph closed (plain_task names table old task)) found.1
            ∙ ap (λ value. after graph closed (plain_task names table old task) (members graph (shape_of graph closed value) (set_at old.sets set))) value_is
            ∙ asked.makes;
        falls = omega (arith, lighter, falls, before);
        numbers = step.numbers;
      }

-- the second part of a pair, where its set was found before the first part answered
pub second_later : (names : List Name) (graph : Graph) (closed : Closed) (table : List Thing) (old middle new : Asker) → Grows old middle → Grows middle new
    → (set next : SetId) → set.0 < length old.sets → next.0 < length middle.sets → (second : ValueId) (first : SetId) → second.0 < length table
    → first.0 < length new.sets → Covers graph Second (set_at old.sets set) (set_at middle.sets next)
    → IsStep names graph closed table new (after graph closed (plain_task names table new (code.OfSecond second set)) (set_at new.sets first))
    (weight (plain_task names table new (code.OfSecond second set))) (Ask second next (code.OfPairs set first 1))
second_later names graph closed table old middle new first_grows grows set next within below second first is is_too covers =
    let all = grows_on old middle new first_grows grows in
    let inside = still_within old.sets new.sets all.0 set.0 within in
    let same_set = stays old.sets new.sets all.0 set within in
    let covers_new = subst (λ (ids : List NodeId). Covers graph Second ids (set_at new.sets next)) (sym same_set)
    (subst (λ (ids : List NodeId). Covers graph Second (set_at old.sets set) ids) (sym (stays middle.sets new.sets grows.0 next below)) covers) in
    second_step names graph closed table new new (grows_none new) set next inside (still_within middle.sets new.sets grows.0 next.0 below) second first is is_too covers_new

-- what is so of the value of an option
pub some_found : {X : Type 0} (o : Option X) (P : Type 0) (Q : X → Type 0) (x : X) → o ≡ Some x → MatchOption o P Q → Q x
some_found o P Q x is found = subst (λ o. MatchOption o P Q) is found

-- one field more has answered
pub field_done : (graph : Graph) (closed : Closed) (done : List (Name × List NodeId)) (label : Name) (answer : List NodeId) (left : Fields) (set : List NodeId)
    → members graph (plain.Record (answered (done ++ (label, answer) ∷ []) ++ fields_with graph closed left)) set
    ≡ after graph closed (task.OfField set done label left) answer
field_done graph closed done label answer left set = ap (λ fields. members graph (plain.Record fields) set)
    (ap (λ all. all ++ fields_with graph closed left) (map-append _ done ((label, answer) ∷ []))
    ∙ append_assoc (answered done) ((label, among answer) ∷ []) (fields_with graph closed left))

-- after so many pairs of a row, which have made this, the others make what all make
abbrev pub Runs : Graph → (set first : List NodeId) → (all : ℕ) → (start : List NodeId) → (done : ℕ) → (last : List NodeId) → Type 0
Runs graph set first all start done last = (n : ℕ) → done + n ≡ all → again n (paired graph set first) last ≡ again all (paired graph set first) start

pub runs_on : (graph : Graph) (set first : List NodeId) (all : ℕ) (start : List NodeId) (done : ℕ) (last next : List NodeId)
    → Runs graph set first all start done last → next ≡ paired graph set first last → Runs graph set first all start (done + 1) next
runs_on graph set first all start done last next runs is n count =
    let more : done + suc n ≡ all = omega (arith, count) in
    ap (again n (paired graph set first)) is ∙ runs (suc n) more

pub runs_end : (graph : Graph) (set first : List NodeId) (all : ℕ) (start : List NodeId) (done : ℕ) (last : List NodeId)
    → Runs graph set first all start done last → done ≡ all → last ≡ again all (paired graph set first) start
runs_end graph set first all start done last runs is = let none : done + zero ≡ all = omega (arith, is) in runs zero none

pub runs_stop_at : (graph : Graph) (set first : List NodeId) (all : ℕ) (start : List NodeId) (done : ℕ) (last : List NodeId)
    → Runs graph set first all start done last → done < all → paired graph set first last ≡ last → last ≡ again all (paired graph set first) start
runs_stop_at graph set first all start done last runs some same =
    let left : done + (all - done) ≡ all = omega (arith, some) in
    sym (runs_stop graph set first last (all - done) same) ∙ runs (all - done) left

-- one more pair, over sets that grow
pub one_pair : (graph : Graph) (names : List Name) (old sets new : List (List NodeId)) (set first last next : SetId) → Grow old sets
    → set.0 < length old → first.0 < length old
    → set_at new next ≡ members graph (plain.Pair (among (set_at sets first)) (among (set_at sets last))) (set_at sets set)
    → set_at new next ≡ paired graph (set_at old set) (set_at old first) (set_at sets last)
one_pair graph names old sets new set first last next grow at_set at_first is = is
    ∙ ap (λ one. members graph (plain.Pair (among one) (among (set_at sets last))) (set_at sets set)) (stays old sets grow first at_first)
    ∙ ap (members graph (plain.Pair (among (set_at old first)) (among (set_at sets last)))) (stays old sets grow set at_set)

-- a field of a record has answered, which is the last one of a row
pub field_answered : (names : List Name) (graph : Graph) (closed : Closed) (table : List Thing) (sets : List (List NodeId)) (set : SetId) (done : List Answered)
    (field : Answered) (left : Fields)
    → members graph (plain.Record (answered (map (done_by names sets) (done ++ field ∷ [])) ++ fields_with graph closed left)) (set_at sets set)
    ≡ after graph closed (task.OfField (set_at sets set) (map (done_by names sets) done) (name_at names field.label) left) (set_at sets field.nodes)
field_answered names graph closed table sets set done field left =
    ap (λ done. members graph (plain.Record (answered done ++ fields_with graph closed left)) (set_at sets set)) (map-append (done_by names sets) done (field ∷ []))
    ∙ field_done graph closed (map (done_by names sets) done) (name_at names field.label) (set_at sets field.nodes) left (set_at sets set)

-- what is asked of a record, where the sets and the fields that have answered are these
pub row_answered : (names : List Name) (graph : Graph) (closed : Closed) (table : List Thing) (asker : Asker) (sets others : List (List NodeId)) (set : SetId)
    (done more : List Answered) (left : List Part) → sets ≡ others → done ≡ more → (next : Next)
    → IsStep names graph closed table asker (members graph (plain.Record (answered (map (done_by names sets) done) ++ fields_with graph closed (fields_of names table left)))
    (set_at sets set)) (size_of_fields (fields_of names table left)) next
    → IsStep names graph closed table asker (members graph (plain.Record (answered (map (done_by names others) more) ++ fields_with graph closed (fields_of names table left)))
    (set_at others set)) (size_of_fields (fields_of names table left)) next
row_answered names graph closed table asker sets others set done more left same_sets same_done next step = record {
  makes = step.makes
      ∙ ap (λ sets. members graph (plain.Record (answered (map (done_by names sets) done) ++ fields_with graph closed (fields_of names table left))) (set_at sets set)) same_sets
      ∙ ap (λ done. members graph (plain.Record (answered (map (done_by names others) done) ++ fields_with graph closed (fields_of names table left))) (set_at others set)) same_done;
  falls = step.falls;
  numbers = step.numbers;
}
