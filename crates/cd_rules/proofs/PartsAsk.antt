-- The questions of what a clause needs ask nodes of the graph, and the labels of its record types are labels.
use Rattle.std.proofs.Common.{ℕ, zero, suc, ◌<◌, ◌≤◌, Bool, true, false, not, List, [], ◌∷◌, ◌++◌, map, length}
use Rattle.std.proofs.Common.{Option, Some, None, IfSome, bytes_eq, if◌then◌else◌, sym, subst, arith}
use Rattle.cd_sets.specs.declared.node_id.NodeId.{NodeId}
use Rattle.cd_sets.specs.declared.question.Question.{Question}
use Rattle.cd_syntax.specs.Name.{Name, IsLabel}
use Rattle.cd_model.specs.BuiltIns.{node, ATOM, RECORD}
use Rattle.cd_model.specs.AllOf.{AllOf}
use Rattle.cd_model.specs.Formula as formula
use Rattle.cd_model.specs.Formula.{Formula, Formulas, NoFormula, AFormula, Graph, Field, formula_at, field_of}
use Rattle.cd_model.specs.Formula.{AreRisingLabels, IsFormula, AreFormulas, IsGraph}
use Rattle.cd_model.specs.Kinds.{Kind, APair, AnXml, ARecord, AFunction}
use Rattle.cd_rules.specs.Dnf.{Literal, Conjunct, joined, when, dnf, dnf_of_each, dnf_of_one, dnf_at, dnf_of}
use Rattle.cd_rules.specs.Clauses.{Pair, Triple, RecordType, Clause, Pairs, Xmls, Records, Arrows}
use Rattle.cd_rules.specs.Clauses.{pair_of, xml_of, record_of, arrow_of, one_more, parts_in}
use Rattle.cd_rules.specs.Clauses.{IsOfParts, IsClauseOf, IsClauseOfQuestion}
use Rattle.cd_rules.specs.Family.{AsksNodes}
use Rattle.cd_rules.specs.Members.{NamesLabels}
use Rattle.cd_rules.specs.Needs.{question, pair_way, xml_way, arrow_way, result_questions}
use Rattle.cd_rules.specs.Needs.{splits, splits_in_three, to_one, to_other, to_first, to_middle, to_last}
use Rattle.cd_rules.specs.Rows.{Cell, Row, Reason, Reasons, field_at, labels_of, each_with, reasons_of, is_reason}
use Rattle.cd_rules.specs.Rows.{types_at, types_elsewhere, cell_at, row_of, rows_of}
use Rattle.cd_rules.proofs.Asking.{each_of_map, each_of_set}
use Rattle.cd_model.proofs.Ones.{each_weaker, each_of_all, each_of_lists, one_with_each, one_leads}
use Rattle.cd_rules.specs.Within.{IsPairWithin, IsXmlWithin, IsTypeWithin, IsWithin}

-- what each literal of these conjuncts and of those has, each of the joined conjuncts has
module _ (fact : Literal → Type 0) where
  -- one conjunct with each of those
  joined_with : (conjunct : Conjunct) (others : List Conjunct) → AllOf fact conjunct → AllOf (AllOf fact) others
      → AllOf (AllOf fact) (map (λ other. conjunct ++ other) others)
  joined_with conjunct [] each those = tt
  joined_with conjunct (other ∷ others) each those =
      (each_of_lists fact conjunct other each those.0, joined_with conjunct others each those.1)

  -- each of these with each of those
  joined_have : (first second : List Conjunct) → AllOf (AllOf fact) first → AllOf (AllOf fact) second
      → AllOf (AllOf fact) (joined first second)
  joined_have [] second these those = tt
  joined_have (conjunct ∷ first) second these those =
      each_of_lists (AllOf fact) (map (λ other. conjunct ++ other) second) (joined first second)
      (joined_with conjunct second these.0 those) (joined_have first second these.1 those)

  -- a conjunct that asks for nothing has no literal
  always_or_not : (wanted : Bool) → AllOf (AllOf fact) (when wanted)
  always_or_not true = (tt, tt)
  always_or_not false = tt

-- the formulas of a graph with so many nodes
module _ (nodes : ℕ) where
  -- the literals of a formula's conjuncts are formulas of the graph
  abbrev IsLiteral : Literal → Type 0
  IsLiteral literal = IsFormula nodes literal.is

  mutual
    -- each literal of the conjuncts of a formula is one of the graph
    conjuncts_are : (is : Formula) (wanted : Bool) → IsFormula nodes is → AllOf (AllOf IsLiteral) (dnf is wanted)
    conjuncts_are formula.Nothing wanted whole = always_or_not IsLiteral (not wanted)
    conjuncts_are formula.Everything wanted whole = always_or_not IsLiteral wanted
    conjuncts_are (formula.And formulas) true whole = dnf_of_each_are formulas true whole
    conjuncts_are (formula.And formulas) false whole = dnf_of_one_are formulas false whole
    conjuncts_are (formula.Or formulas) true whole = dnf_of_one_are formulas true whole
    conjuncts_are (formula.Or formulas) false whole = dnf_of_each_are formulas false whole
    conjuncts_are (formula.Not is) wanted whole = conjuncts_are is (not wanted) whole
    conjuncts_are is wanted whole = ((whole, tt), tt)

    -- so it is of a conjunct of each formula
    dnf_of_each_are : (formulas : Formulas) (wanted : Bool) → AreFormulas nodes formulas
        → AllOf (AllOf IsLiteral) (dnf_of_each formulas wanted)
    dnf_of_each_are NoFormula wanted whole = (tt, tt)
    dnf_of_each_are (AFormula is rest) wanted whole =
        joined_have IsLiteral (dnf is wanted) (dnf_of_each rest wanted)
        (conjuncts_are is wanted whole.0) (dnf_of_each_are rest wanted whole.1)

    -- and of a conjunct of one of them
    dnf_of_one_are : (formulas : Formulas) (wanted : Bool) → AreFormulas nodes formulas
        → AllOf (AllOf IsLiteral) (dnf_of_one formulas wanted)
    dnf_of_one_are NoFormula wanted whole = tt
    dnf_of_one_are (AFormula is rest) wanted whole =
        each_of_lists (AllOf IsLiteral) (dnf is wanted) (dnf_of_one rest wanted)
        (conjuncts_are is wanted whole.0) (dnf_of_one_are rest wanted whole.1)

  -- each number has a formula of the graph
  formula_is : (graph : Graph) (id : ℕ) → AllOf (IsFormula nodes) graph → IsFormula nodes (formula_at graph (node id))
  formula_is [] id each = tt
  formula_is (is ∷ graph) zero each = each.0
  formula_is (is ∷ graph) (suc id) each = formula_is graph id each.1

  -- so the literals of a conjunct of each node are of the graph
  dnf_at_are : (graph : Graph) → AllOf (IsFormula nodes) graph → (ids : List NodeId) (wanted : Bool)
      → AllOf (AllOf IsLiteral) (dnf_at graph ids wanted)
  dnf_at_are graph whole [] wanted = (tt, tt)
  dnf_at_are graph whole (id ∷ ids) wanted =
      joined_have IsLiteral (dnf (formula_at graph id) wanted) (dnf_at graph ids wanted)
      (conjuncts_are (formula_at graph id) wanted (formula_is graph id.0 whole)) (dnf_at_are graph whole ids wanted)

  -- and those of a question's conjuncts
  dnf_of_question_are : (graph : Graph) → AllOf (IsFormula nodes) graph → (question : Question)
      → AllOf (AllOf IsLiteral) (dnf_of graph question)
  dnf_of_question_are graph whole question =
      joined_have IsLiteral (dnf_at graph question.pos true) (dnf_at graph question.neg false)
      (dnf_at_are graph whole question.pos true) (dnf_at_are graph whole question.neg false)

  -- what the parts of each formula have, the parts of a conjunct have
  module _ {X : Type 0} (has : X → Type 0) where
    -- of one more literal
    one_more_has : (sign wanted : Bool) (part : Option X) (rest : List X) → IfSome part has → AllOf has rest
        → AllOf has (one_more sign wanted part rest)
    one_more_has true true (Some part) rest is each = (is, each)
    one_more_has false false (Some part) rest is each = (is, each)
    one_more_has true true None rest is each = each
    one_more_has false false None rest is each = each
    one_more_has true false part rest is each = each
    one_more_has false true part rest is each = each

    -- the parts of each formula of the graph have it, where it has these
    abbrev PartsHave : (Formula → Option X) → Type 0
    PartsHave parts_of = (is : Formula) → IsFormula nodes is → IfSome (parts_of is) has

    -- of all literals of a conjunct
    parts_in_have : (parts_of : Formula → Option X) → PartsHave parts_of → (sign : Bool) (conjunct : Conjunct)
        → AllOf IsLiteral conjunct → AllOf has (parts_in parts_of sign conjunct)
    parts_in_have parts_of have sign [] each = tt
    parts_in_have parts_of have sign (literal ∷ rest) each =
        one_more_has sign literal.wanted (parts_of literal.is) (parts_in parts_of sign rest)
        (have literal.is each.0) (parts_in_have parts_of have sign rest each.1)

    -- and so the wanted and the refused parts of a clause
    clause_parts_have : (kind : Kind) (parts_of : Formula → Option X) → PartsHave parts_of
        → (conjunct : Conjunct) (wanted refused : List X) → IsOfParts kind parts_of conjunct wanted refused
        → AllOf IsLiteral conjunct → AllOf has wanted × AllOf has refused
    clause_parts_have kind parts_of have conjunct wanted refused is each = (
      subst (AllOf has) (sym is.1) (parts_in_have parts_of have true conjunct each),
      subst (AllOf has) (sym is.2) (parts_in_have parts_of have false conjunct each),
    )

  -- the parts of a formula of the graph are among its nodes: of pairs
  pair_is_within : PartsHave (IsPairWithin nodes) pair_of
  pair_is_within (formula.Pair first second) whole = whole
  pair_is_within _ whole = tt

  -- of XML elements
  xml_is_within : PartsHave (IsXmlWithin nodes) xml_of
  xml_is_within (formula.Xml tag attributes content) whole = whole
  xml_is_within _ whole = tt

  -- of records
  record_is_within : PartsHave (IsTypeWithin nodes) record_of
  record_is_within (formula.Record named rest) whole = (whole.1, whole.2)
  record_is_within _ whole = tt

  -- of functions
  arrow_is_within : PartsHave (IsPairWithin nodes) arrow_of
  arrow_is_within (formula.Arrow argument result) whole = whole
  arrow_is_within _ whole = tt

  -- a clause of a conjunct of formulas of the graph has its parts among the nodes
  within_by_conjunct : (clause : Clause) (conjunct : Conjunct) → IsClauseOf conjunct clause → AllOf IsLiteral conjunct
      → IsWithin nodes clause
  within_by_conjunct (Pairs wanted refused) conjunct is each =
      clause_parts_have (IsPairWithin nodes) APair pair_of pair_is_within conjunct wanted refused is each
  within_by_conjunct (Xmls wanted refused) conjunct is each =
      clause_parts_have (IsXmlWithin nodes) AnXml xml_of xml_is_within conjunct wanted refused is each
  within_by_conjunct (Records wanted refused) conjunct is each =
      clause_parts_have (IsTypeWithin nodes) ARecord record_of record_is_within conjunct wanted refused is each
  within_by_conjunct (Arrows wanted refused) conjunct is each =
      clause_parts_have (IsPairWithin nodes) AFunction arrow_of arrow_is_within conjunct wanted refused is each
  within_by_conjunct _ conjunct is each = tt

  -- labels that rise are labels
  rising_are_labels : (before : Option Name) (named : List (Name × Field)) → AreRisingLabels before named
      → AllOf (λ field. IsLabel field.0) named
  rising_are_labels before [] rising = tt
  rising_are_labels before (field ∷ named) rising = (rising.0, rising_are_labels (Some field.0) named rising.2)

  -- so a record type of the graph names labels
  record_names_labels : PartsHave (λ type. AllOf (λ field. IsLabel field.0) type.named) record_of
  record_names_labels (formula.Record named rest) whole = rising_are_labels None named whole.0
  record_names_labels _ whole = tt

  -- and so does a clause of a conjunct of formulas of the graph
  labels_by_conjunct : (clause : Clause) (conjunct : Conjunct) → IsClauseOf conjunct clause → AllOf IsLiteral conjunct
      → NamesLabels clause
  labels_by_conjunct (Records wanted refused) conjunct is each =
      clause_parts_have (λ type. AllOf (λ field. IsLabel field.0) type.named) ARecord record_of record_names_labels
      conjunct wanted refused is each
  labels_by_conjunct _ conjunct is each = tt

-- a clause of a question has a fact that each of its conjuncts gives
by_conjuncts : (Fact : Clause → Type 0) (graph : Graph) → IsGraph graph → (question : Question) (clause : Clause)
    → ((conjunct : Conjunct) → IsClauseOf conjunct clause → AllOf (IsLiteral (length graph)) conjunct → Fact clause)
    → IsClauseOfQuestion graph question clause → Fact clause
by_conjuncts Fact graph whole question clause leads of =
    one_leads (λ conjunct. IsClauseOf conjunct clause × AllOf (IsLiteral (length graph)) conjunct)
    (λ conjunct both. leads conjunct both.0 both.1) (dnf_of graph question)
    (one_with_each (λ conjunct. IsClauseOf conjunct clause) (AllOf (IsLiteral (length graph))) (dnf_of graph question)
    of (dnf_of_question_are (length graph) graph whole question))

-- a clause of a question has its parts among the nodes of the graph
pub clause_is_within : (graph : Graph) → IsGraph graph → (question : Question)
    → (clause : Clause) → IsClauseOfQuestion graph question clause → IsWithin (length graph) clause
clause_is_within graph whole question clause of = by_conjuncts (IsWithin (length graph)) graph whole question clause
    (within_by_conjunct (length graph) clause) of

-- and its record types name labels
pub clause_names_labels : (graph : Graph) → IsGraph graph → (question : Question)
    → (clause : Clause) → IsClauseOfQuestion graph question clause → NamesLabels clause
clause_names_labels graph whole question clause of = by_conjuncts NamesLabels graph whole question clause
    (labels_by_conjunct (length graph) clause) of

-- what each of a list has, each of the sides to which it is given has
module _ {X : Type 0} (has : X → Type 0) where
  -- all that is given to either side has it
  abbrev pub BothHave : List X × List X → Type 0
  BothHave sides = AllOf has sides.0 × AllOf has sides.1

  -- in each split into two
  splits_have : (xs : List X) → AllOf has xs → AllOf BothHave (splits xs)
  splits_have [] each = ((tt, tt), tt)
  splits_have (x ∷ xs) each =
      let rest = splits_have xs each.1 in
      each_of_lists BothHave (map (to_one x) (splits xs)) (map (to_other x) (splits xs))
      (each_of_map (to_one x) BothHave (splits xs) (each_weaker BothHave (λ sides. BothHave (to_one x sides))
      (λ sides both. ((each.0, both.0), both.1)) (splits xs) rest))
      (each_of_map (to_other x) BothHave (splits xs) (each_weaker BothHave (λ sides. BothHave (to_other x sides))
      (λ sides both. (both.0, (each.0, both.1))) (splits xs) rest))

  -- all that is given to one of three sides has it
  abbrev pub AllHave : List X × List X × List X → Type 0
  AllHave sides = AllOf has sides.0 × AllOf has sides.1 × AllOf has sides.2

  -- in each split into three
  splits_in_three_have : (xs : List X) → AllOf has xs → AllOf AllHave (splits_in_three xs)
  splits_in_three_have [] each = ((tt, tt, tt), tt)
  splits_in_three_have (x ∷ xs) each =
      let rest = splits_in_three_have xs each.1 in
      let sides = splits_in_three xs in
      each_of_lists AllHave (map (to_first x) sides ++ map (to_middle x) sides) (map (to_last x) sides)
      (each_of_lists AllHave (map (to_first x) sides) (map (to_middle x) sides)
      (each_of_map (to_first x) AllHave sides (each_weaker AllHave (λ sides. AllHave (to_first x sides))
      (λ sides all. ((each.0, all.0), all.1, all.2)) sides rest))
      (each_of_map (to_middle x) AllHave sides (each_weaker AllHave (λ sides. AllHave (to_middle x sides))
      (λ sides all. (all.0, (each.0, all.1), all.2)) sides rest)))
      (each_of_map (to_last x) AllHave sides (each_weaker AllHave (λ sides. AllHave (to_last x sides))
      (λ sides all. (all.0, all.1, (each.0, all.2))) sides rest))

module _ (nodes : ℕ) where
  -- a node among so many
  abbrev pub IsBelow : NodeId → Type 0
  IsBelow id = id.0 < nodes

  -- a question of nodes below asks them
  question_asks : (pos neg : List NodeId) → AllOf IsBelow pos → AllOf IsBelow neg → AsksNodes nodes (question pos neg)
  question_asks pos neg inside outside = (each_of_set IsBelow pos inside, each_of_set IsBelow neg outside)

  -- the nodes that are one part of each
  parts_below : {X : Type 0} (part : X → NodeId) (has : X → Type 0) → ((x : X) → has x → IsBelow (part x)) → (xs : List X)
      → AllOf has xs → AllOf IsBelow (map part xs)
  parts_below part has leads xs each = each_of_map part IsBelow xs (each_weaker has (λ x. IsBelow (part x)) leads xs each)

  -- the first parts of pairs
  pub firsts_below : (pairs : List Pair) → AllOf (IsPairWithin nodes) pairs → AllOf IsBelow (map (λ parts. parts.0) pairs)
  firsts_below = parts_below (λ (parts : Pair). parts.0) (IsPairWithin nodes) (λ parts both. both.0)

  -- the second parts of pairs
  pub seconds_below : (pairs : List Pair) → AllOf (IsPairWithin nodes) pairs → AllOf IsBelow (map (λ parts. parts.1) pairs)
  seconds_below = parts_below (λ (parts : Pair). parts.1) (IsPairWithin nodes) (λ parts both. both.1)

  -- the way of a clause of pairs, for what its parts are given
  pub pair_way_asks : (wanted : List Pair) → AllOf (IsPairWithin nodes) wanted → (given : List Pair × List Pair)
      → BothHave (IsPairWithin nodes) given → AllOf (AsksNodes nodes) (pair_way wanted given)
  pair_way_asks wanted within given both = (
    question_asks (map (λ parts. parts.0) wanted) (map (λ parts. parts.0) given.0)
        (firsts_below wanted within) (firsts_below given.0 both.0),
    (
      question_asks (map (λ parts. parts.1) wanted) (map (λ parts. parts.1) given.1)
          (seconds_below wanted within) (seconds_below given.1 both.1),
      tt,
    ),
  )

  -- the tags of XML elements
  pub tags_below : (xmls : List Triple) → AllOf (IsXmlWithin nodes) xmls → AllOf IsBelow (map (λ parts. parts.0) xmls)
  tags_below = parts_below (λ (parts : Triple). parts.0) (IsXmlWithin nodes) (λ parts all. all.0)

  -- their attributes
  pub attributes_below : (xmls : List Triple) → AllOf (IsXmlWithin nodes) xmls → AllOf IsBelow (map (λ parts. parts.1) xmls)
  attributes_below = parts_below (λ (parts : Triple). parts.1) (IsXmlWithin nodes) (λ parts all. all.1)

  -- their content
  pub contents_below : (xmls : List Triple) → AllOf (IsXmlWithin nodes) xmls → AllOf IsBelow (map (λ parts. parts.2) xmls)
  contents_below = parts_below (λ (parts : Triple). parts.2) (IsXmlWithin nodes) (λ parts all. all.2)

  -- the way of a clause of XML elements; it asks for an atom and for a record besides
  pub xml_way_asks : 14 ≤ nodes → (wanted : List Triple) → AllOf (IsXmlWithin nodes) wanted
      → (given : List Triple × List Triple × List Triple) → AllHave (IsXmlWithin nodes) given
      → AllOf (AsksNodes nodes) (xml_way wanted given)
  xml_way_asks least wanted within given all = (
    question_asks (ATOM ∷ map (λ parts. parts.0) wanted) (map (λ parts. parts.0) given.0)
        (omega arith, tags_below wanted within) (tags_below given.0 all.0),
    (
      question_asks (RECORD ∷ map (λ parts. parts.1) wanted) (map (λ parts. parts.1) given.1)
          (omega arith, attributes_below wanted within) (attributes_below given.1 all.1),
      (
        question_asks (map (λ parts. parts.2) wanted) (map (λ parts. parts.2) given.2)
            (contents_below wanted within) (contents_below given.2 all.2),
        tt,
      ),
    ),
  )

  -- the question of a pair's result, if there is one
  result_asks : (refused : Pair) → IsPairWithin nodes refused → (others : List Pair) → AllOf (IsPairWithin nodes) others
      → AllOf (AsksNodes nodes) (result_questions refused others)
  result_asks refused within [] each = tt
  result_asks refused within (one ∷ others) each = (
    question_asks (map (λ parts. parts.1) (one ∷ others)) (refused.1 ∷ []) (seconds_below (one ∷ others) each) (within.1, tt),
    tt,
  )

  -- the way of a refused arrow
  pub arrow_way_asks : (refused : Pair) → IsPairWithin nodes refused → (given : List Pair × List Pair)
      → BothHave (IsPairWithin nodes) given → AllOf (AsksNodes nodes) (arrow_way refused given)
  arrow_way_asks refused within given both = (
    question_asks (refused.0 ∷ []) (map (λ parts. parts.0) given.0) (within.0, tt) (firsts_below given.0 both.0),
    result_asks refused within given.1 both.1,
  )

  -- what a record type says of a label is of a node of the type
  field_below : (named : List (Name × Field)) (rest : NodeId) (label : Name) → AllOf (λ field. IsBelow field.1.type) named
      → IsBelow rest → IsBelow (field_of named rest label).type
  field_below [] rest label each is = is
  field_below (field ∷ named) rest label each is =
      by_name (bytes_eq field.0 label) (field_below named rest label each.1 is)
    where
      by_name : (same : Bool) → IsBelow (field_of named rest label).type
          → IsBelow (if same then field.1 else field_of named rest label).type
      by_name true later = each.0
      by_name false later = later

  -- what record types say of a label is of nodes below
  fields_below : (label : Name) (types : List RecordType) → AllOf (IsTypeWithin nodes) types
      → AllOf IsBelow (map (λ type. (field_at type label).type) types)
  fields_below label = parts_below (λ (type : RecordType). (field_at type label).type) (IsTypeWithin nodes)
      (λ type both. field_below type.named type.rest label both.0 both.1)

  -- and so are their rests
  rests_below : (types : List RecordType) → AllOf (IsTypeWithin nodes) types → AllOf IsBelow (map (λ type. type.rest) types)
  rests_below = parts_below (λ (type : RecordType). type.rest) (IsTypeWithin nodes) (λ type both. both.1)

  -- the types of some reasons are of nodes below
  abbrev pub TypesAreWithin : Reasons → Type 0
  TypesAreWithin reasons = AllOf (λ one. IsTypeWithin nodes one.0) reasons

  -- so they are with a type that is
  with_reasons_within : (type : RecordType) → IsTypeWithin nodes type → (reasons : List Reason) (others : List Reasons)
      → AllOf TypesAreWithin others → AllOf TypesAreWithin (each_with type reasons others)
  with_reasons_within type within [] others each = tt
  with_reasons_within type within (reason ∷ reasons) others each =
      each_of_lists TypesAreWithin (map (λ chosen. (type, reason) ∷ chosen) others) (each_with type reasons others)
      (each_of_map (λ chosen. (type, reason) ∷ chosen) TypesAreWithin others
      (each_weaker TypesAreWithin (λ chosen. TypesAreWithin ((type, reason) ∷ chosen)) (λ chosen those. (within, those)) others each))
      (with_reasons_within type within reasons others each)

  -- and in each choice of reasons of refused types that are
  reasons_within : (labels : List Name) (refused : List RecordType) → AllOf (IsTypeWithin nodes) refused
      → AllOf TypesAreWithin (reasons_of labels refused)
  reasons_within labels [] each = (tt, tt)
  reasons_within labels (type ∷ refused) each =
      with_reasons_within type each.0 (None ∷ map Some labels) (reasons_of labels refused) (reasons_within labels refused each.1)

  -- and those that are refused at a label
  types_at_within : (label : Name) (reasons : Reasons) → TypesAreWithin reasons
      → AllOf (IsTypeWithin nodes) (types_at label reasons)
  types_at_within label [] each = tt
  types_at_within label (one ∷ reasons) each = by_reason (is_reason label one.1) (types_at_within label reasons each.1)
    where
      by_reason : (is : Bool) → AllOf (IsTypeWithin nodes) (types_at label reasons)
          → AllOf (IsTypeWithin nodes) (if is then one.0 ∷ types_at label reasons else types_at label reasons)
      by_reason true later = (each.0, later)
      by_reason false later = later

  -- and those that are refused elsewhere
  types_elsewhere_within : (reasons : Reasons) → TypesAreWithin reasons → AllOf (IsTypeWithin nodes) (types_elsewhere reasons)
  types_elsewhere_within [] each = tt
  types_elsewhere_within ((type, None) ∷ reasons) each = (each.0, types_elsewhere_within reasons each.1)
  types_elsewhere_within ((type, Some label) ∷ reasons) each = types_elsewhere_within reasons each.1

-- the ways of a clause of pairs ask nodes of the graph
pub pair_ways_ask : (nodes : ℕ) (wanted refused : List Pair) → IsWithin nodes (Pairs wanted refused)
    → AllOf (AllOf (AsksNodes nodes)) (map (pair_way wanted) (splits refused))
pair_ways_ask nodes wanted refused within = each_of_map (pair_way wanted) (AllOf (AsksNodes nodes)) (splits refused)
    (each_weaker (BothHave (IsPairWithin nodes)) (λ given. AllOf (AsksNodes nodes) (pair_way wanted given))
    (pair_way_asks nodes wanted within.0) (splits refused) (splits_have (IsPairWithin nodes) refused within.1))

-- those of a clause of XML elements do, where the graph has the built-in nodes
pub xml_ways_ask : (nodes : ℕ) → 14 ≤ nodes → (wanted refused : List Triple) → IsWithin nodes (Xmls wanted refused)
    → AllOf (AllOf (AsksNodes nodes)) (map (xml_way wanted) (splits_in_three refused))
xml_ways_ask nodes least wanted refused within =
    each_of_map (xml_way wanted) (AllOf (AsksNodes nodes)) (splits_in_three refused)
    (each_weaker (AllHave (IsXmlWithin nodes)) (λ given. AllOf (AsksNodes nodes) (xml_way wanted given))
    (xml_way_asks nodes least wanted within.0) (splits_in_three refused)
    (splits_in_three_have (IsXmlWithin nodes) refused within.1))

-- and those of each need of a clause of functions
pub arrow_ways_ask : (nodes : ℕ) (wanted refused : List Pair) → IsWithin nodes (Arrows wanted refused)
    → AllOf (AllOf (AllOf (AsksNodes nodes))) (map (λ one. map (arrow_way one) (splits wanted)) refused)
arrow_ways_ask nodes wanted refused within =
    each_of_map (λ one. map (arrow_way one) (splits wanted)) (AllOf (AllOf (AsksNodes nodes))) refused
    (each_weaker (IsPairWithin nodes) (λ one. AllOf (AllOf (AsksNodes nodes)) (map (arrow_way one) (splits wanted)))
    (λ one is. each_of_map (arrow_way one) (AllOf (AsksNodes nodes)) (splits wanted)
    (each_weaker (BothHave (IsPairWithin nodes)) (λ given. AllOf (AsksNodes nodes) (arrow_way one given))
    (arrow_way_asks nodes one is) (splits wanted) (splits_have (IsPairWithin nodes) wanted within.0))) refused within.1)

-- the questions of a row, but that of the labels of no cell, ask nodes below
abbrev pub RowAsks : (nodes : ℕ) → Row → Type 0
RowAsks nodes row = AllOf (λ cell. AsksNodes nodes cell.1.value) row.cells × AllOf (AsksNodes nodes) row.some

-- those of the row of some reasons do
pub row_asks : (nodes : ℕ) (labels : List Name) (wanted : List RecordType) → AllOf (IsTypeWithin nodes) wanted
    → (reasons : Reasons) → TypesAreWithin nodes reasons → RowAsks nodes (row_of labels wanted reasons)
row_asks nodes labels wanted within reasons types = (
  each_of_map (λ label. (label, cell_at wanted reasons label)) (λ (cell : Name × Cell). AsksNodes nodes cell.1.value) labels
      (each_of_all (λ label. AsksNodes nodes (cell_at wanted reasons label).value) cell_asks labels),
  each_of_map (λ type. question (map (λ type. type.rest) wanted) (type.rest ∷ [])) (AsksNodes nodes) (types_elsewhere reasons)
      (each_weaker (IsTypeWithin nodes) (λ type. AsksNodes nodes (question (map (λ type. type.rest) wanted) (type.rest ∷ [])))
      some_asks (types_elsewhere reasons) (types_elsewhere_within nodes reasons types)),
)
  where
    cell_asks : (label : Name) → AsksNodes nodes (cell_at wanted reasons label).value
    cell_asks label = question_asks nodes (map (λ type. (field_at type label).type) wanted)
        (map (λ type. (field_at type label).type) (types_at label reasons)) (fields_below nodes label wanted within)
        (fields_below nodes label (types_at label reasons) (types_at_within nodes label reasons types))

    some_asks : (type : RecordType) → IsTypeWithin nodes type
        → AsksNodes nodes (question (map (λ type. type.rest) wanted) (type.rest ∷ []))
    some_asks type is = question_asks nodes (map (λ type. type.rest) wanted) (type.rest ∷ [])
        (rests_below nodes wanted within) (is.1, tt)

-- and those of each row of a clause of records
pub rows_ask : (nodes : ℕ) (wanted refused : List RecordType) → IsWithin nodes (Records wanted refused)
    → AllOf (RowAsks nodes) (rows_of wanted refused)
rows_ask nodes wanted refused within =
    let labels = labels_of (wanted ++ refused) in
    each_of_map (row_of labels wanted) (RowAsks nodes) (reasons_of labels refused)
    (each_weaker (TypesAreWithin nodes) (λ reasons. RowAsks nodes (row_of labels wanted reasons))
    (row_asks nodes labels wanted within.0) (reasons_of labels refused) (reasons_within nodes labels refused within.1))
