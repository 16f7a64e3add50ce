-- What rows of a graph ask are questions of its nodes, and so is what is made of these.
use Rattle.std.proofs.Common.{ℕ, ◌<◌, Bool, true, false, List, [], ◌∷◌, ◌++◌, map, length, bytes_eq}
use Rattle.std.proofs.Common.{if◌then◌else◌, inl, inr, sym, subst}
use Rattle.cd_sets.specs.declared.question.Question.{Question}
use Rattle.cd_syntax.specs.Name.{Name, IsLabel}
use Rattle.cd_model.specs.AllOf.{AllOf}
use Rattle.cd_model.specs.Formula.{Graph, in_node}
use Rattle.cd_model.specs.Thing.{IsElement}
use Rattle.cd_rules.specs.Family.{AsksNodes}
use Rattle.cd_rules.specs.Rows.{Cell, Row}
use Rattle.cd_rules.proofs.Asking.{each_of_map, each_of_set}
use Rattle.cd_model.proofs.Ones.{each_of_lists, each_weaker}
use Rattle.cd_rows.specs.RecordRows.{RowHasWitnesses, RowAsksNodes, asked_at, cell_in}
use Rattle.cd_rows.specs.RecordRows.{may_lack}
use Rattle.cd_records.specs.Inner.Entries.{Entry}
use Rattle.cd_records.specs.Inner.Labels.{labels_in}
use Rattle.cd_records.specs.Inner.Leaving.{AreChoices, AreLefts, AreSteps, Choice, ChoiceAsks}
use Rattle.cd_records.specs.Inner.Leaving.{IsStep, both_questions, entries_at, first_choice}
use Rattle.cd_records.specs.Inner.Leaving.{rest_entries, rest_entry, rest_labels, some_of}
use Rattle.cd_records.specs.Inner.Rests.{AreRests, Rest, RestIsIn}
use Rattle.cd_records.specs.Inner.Rows.{AreRowsIn}
use Rattle.cd_records.specs.Inner.Saying.{asked_by, every_of, merged_entries, merged_entry}
use Rattle.cd_records.specs.Inner.Saying.{merged_every, one_may_lack, with_questions}
use Rattle.cd_records.specs.Inner.Standing.{EntryAsks}
use Rattle.cd_records.proofs.QuestionsOnce.{each_of_both}

module _ (nodes : ℕ) where
  abbrev Asks : Question → Type 0
  Asks = AsksNodes nodes

  cell_asks : (cells : List (Name × Cell)) (every : Question) (label : Name)
      → AllOf (λ cell. Asks cell.1.value) cells → Asks every
      → Asks (cell_in cells every label).value
  cell_asks [] every label each asks = asks
  cell_asks (cell ∷ cells) every label each asks =
      by_name (bytes_eq cell.0 label) (cell_asks cells every label each.1 asks)
    where
      by_name : (same : Bool) → Asks (cell_in cells every label).value
          → Asks (if same then cell.1 else cell_in cells every label).value
      by_name true later = each.0
      by_name false later = later

  row_asks : (row : Row) (label : Name) → RowAsksNodes nodes row → Asks (asked_at row label)
  row_asks row label asks = cell_asks row.cells row.every label asks.cells asks.every

  pub asked_by_ask : (rows : List Row) (label : Name) → AllOf (RowAsksNodes nodes) rows
      → AllOf Asks (asked_by rows label)
  asked_by_ask rows label each = each_of_map (λ row. asked_at row label) Asks rows
      (each_weaker (RowAsksNodes nodes) (λ row. Asks (asked_at row label))
      (λ row asks. row_asks row label asks) rows each)

  pub asked_once_ask : (rows : List Row) (label : Name) → AllOf (RowAsksNodes nodes) rows
      → AllOf Asks (with_questions (asked_by rows label) [])
  asked_once_ask rows label each =
      each_of_both Asks (asked_by rows label) [] (asked_by_ask rows label each) tt

  every_ask : (rows : List Row) → AllOf (RowAsksNodes nodes) rows → AllOf Asks (every_of rows)
  every_ask rows each = each_of_map (λ row. row.every) Asks rows
      (each_weaker (RowAsksNodes nodes) (λ row. Asks row.every) (λ row asks. asks.every) rows each)

  -- merged entries
  module _ (first second : List Row) (asks : AllOf (RowAsksNodes nodes) first)
      (asks_too : AllOf (RowAsksNodes nodes) second) where
    merged_asks : (label : Name) → AllOf Asks (merged_entry first second label).questions
    merged_asks label = each_of_both Asks
        (if one_may_lack second label then asked_by first label else [])
        (with_questions (asked_by second label) []) (of_first (one_may_lack second label))
        (asked_once_ask second label asks_too)
      where
        of_first : (b : Bool) → AllOf Asks (if b then asked_by first label else [])
        of_first true = asked_by_ask first label asks
        of_first false = tt

    pub entries_ask : (labels : List Name)
        → AllOf (EntryAsks nodes) (merged_entries first second labels)
    entries_ask [] = tt
    entries_ask (label ∷ labels) = (merged_asks label, entries_ask labels)

    pub merged_every_ask : AllOf Asks (merged_every first second)
    merged_every_ask = each_of_both Asks (every_of first) (with_questions (every_of second) [])
        (every_ask first asks)
        (each_of_both Asks (every_of second) [] (every_ask second asks_too) tt)

  -- entries of rests
  pub rest_asks : (row : Row) (label : Name) → RowAsksNodes nodes row
      → AllOf (EntryAsks nodes) (rest_entries row label)
  rest_asks row label asks = each (rest_labels row label)
    where
      at_name : (name : Name) → AllOf Asks (rest_entry row label name).questions
      at_name name = by_name (bytes_eq label name)
        where
          nothing : Entry
          nothing = record { optional = true; questions = [] }

          own : Entry
          own = record { optional = may_lack row name; questions = asked_at row name ∷ [] }

          by_name : (same : Bool) → AllOf Asks (if same then nothing else own).questions
          by_name true = tt
          by_name false = (row_asks row name asks, tt)

      each : (names : List Name) → AllOf (EntryAsks nodes) (entries_at row label names)
      each [] = tt
      each (name ∷ names) = (at_name name, each names)

  pub some_ask : (row : Row) → RowAsksNodes nodes row → AllOf Asks (some_of row)
  some_ask row asks = each_of_both Asks row.some [] asks.some tt

  -- choices
  pub both_ask : (one other : Question) → Asks one → Asks other → Asks (both_questions one other)
  both_ask one other asks asks_too = (
    each_of_set (λ id. id.0 < nodes) (one.pos ++ other.pos)
        (each_of_lists (λ id. id.0 < nodes) one.pos other.pos asks.0 asks_too.0),
    each_of_set (λ id. id.0 < nodes) (one.neg ++ other.neg)
        (each_of_lists (λ id. id.0 < nodes) one.neg other.neg asks.1 asks_too.1),
  )

module _ (graph : Graph) where
  abbrev ChoiceIsIn : Choice → Type 0
  ChoiceIsIn = ChoiceAsks (length graph)

  step_asks : (question : Question) (choice : Choice) (all : List Choice)
      → AsksNodes (length graph) question → ChoiceIsIn choice → IsStep graph question choice all
      → AllOf ChoiceIsIn all
  step_asks question choice all asks is (inl (has, same)) = subst (AllOf ChoiceIsIn) (sym same) (
    (both_ask (length graph) choice.taken question is.0 asks, is.1),
    (
      (
        is.0,
        each_of_lists (AsksNodes (length graph)) choice.left (question ∷ []) is.1 (asks, tt),
      ),
      tt,
    ),
  )
  step_asks question choice all asks is (inr (none, same)) = subst (AllOf ChoiceIsIn) (sym same) (
    (
      is.0,
      each_of_lists (AsksNodes (length graph)) choice.left (question ∷ []) is.1 (asks, tt),
    ),
    tt,
  )

  pub steps_ask : (question : Question) (choices all : List Choice)
      → AsksNodes (length graph) question → AllOf ChoiceIsIn choices
      → AreSteps graph question choices all → AllOf ChoiceIsIn all
  steps_ask question [] all asks each same = subst (AllOf ChoiceIsIn) (sym same) tt
  steps_ask question (choice ∷ choices) all asks each (first, rest, step, steps, same) =
      subst (AllOf ChoiceIsIn) (sym same) (each_of_lists ChoiceIsIn first rest
      (step_asks question choice first asks each.0 step)
      (steps_ask question choices rest asks each.1 steps))

  pub choices_ask : (some : List Question) (choices all : List Choice)
      → AllOf (AsksNodes (length graph)) some → AllOf ChoiceIsIn choices
      → AreChoices graph some choices all → AllOf ChoiceIsIn all
  choices_ask [] choices all asks each same = subst (AllOf ChoiceIsIn) (sym same) each
  choices_ask (question ∷ some) choices all asks each (next, steps, later) =
      choices_ask some next all asks.1 (steps_ask question choices next asks.0 each steps) later

  -- what is left of a row
  lefts_ask : (row : Row) (label : Name) (lefts : List (List Question))
      → RowAsksNodes (length graph) row → AreLefts graph row label lefts
      → AllOf (AllOf (AsksNodes (length graph))) lefts
  lefts_ask row label lefts asks (inl (has_cell, same)) =
      subst (AllOf (AllOf (AsksNodes (length graph)))) (sym same)
      (some_ask (length graph) row asks, tt)
  lefts_ask row label lefts asks (inr (none, (choices, are, same))) =
      subst (AllOf (AllOf (AsksNodes (length graph)))) (sym same)
      (each_of_map (λ choice. choice.left) (AllOf (AsksNodes (length graph))) choices
      (each_weaker ChoiceIsIn (λ choice. AllOf (AsksNodes (length graph)) choice.left)
      (λ choice is. is.1) choices
      (choices_ask (some_of row) (first_choice row ∷ []) choices
      (some_ask (length graph) row asks) ((asks.every, tt), tt) are)))

  -- the labels of a row whose questions have witnesses
  pub row_has_labels : (row : Row) → RowHasWitnesses (in_node graph) IsElement row
      → AllOf IsLabel (labels_in row.cells)
  row_has_labels row witnesses = each_of_map (λ cell. cell.0) IsLabel row.cells witnesses.labels

  pub rests_are_in : (label : Name) (rows : List Row) (rests : List Rest) → AreRowsIn graph rows
      → AreRests graph label rows rests → AllOf (RestIsIn graph) rests
  rests_are_in label [] rests are same = subst (AllOf (RestIsIn graph)) (sym same) tt
  rests_are_in label (row ∷ rows) rests are (lefts, later, lefts_are, further, same) =
      subst (AllOf (RestIsIn graph)) (sym same)
      (each_of_lists (RestIsIn graph) (map (λ left. (row, left)) lefts) later
      (each_of_map (λ left. (row, left)) (RestIsIn graph) lefts
      (each_weaker (AllOf (AsksNodes (length graph))) (λ left. RestIsIn graph (row, left))
      (λ left asks. record {
        row = are.asks.0;
        left = asks;
        labels = row_has_labels row are.witnesses.0;
      }) lefts (lefts_ask row label lefts are.asks.0 lefts_are)))
      (rests_are_in label rows later
      (record { asks = are.asks.1; witnesses = are.witnesses.1 }) further))
