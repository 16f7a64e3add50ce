-- A value is in a node as the test says, where its closures are in the arrows of the graph as is said of them.
use Rattle.std.proofs.Common.{◌≡◌, ℕ, ◌&&◌, ◌||◌, not, Bool, true, false, List, [], ◌∷◌, Option, Some, None, ◌⊎◌, inl, inr, refl, sym, ap, ◌∙◌, bytes_eq, subst, true≢false}
use Rattle.std.specs.Prelude.{if◌then◌else◌}
use Rattle.std.specs.List.{list_all}
use Rattle.std.specs.Ordering.{nat_cmp, is_eq}
use Rattle.std.specs.declared.cmp.Ordering.TheVariants.{Less}
use Rattle.std.proofs.lemmas.Map.Text.{is_eq-slice_cmp}
use Rattle.std.specs.Cmp.Lexicographic.{slice_cmp}
use Rattle.std.proofs.lemmas.Bool.{cases_Bool, and_parts}
use Rattle.std.proofs.lemmas.Cmp.{nat_list_cmp_total}
use Rattle.std.proofs.lemmas.Slice.Eq.{bytes_eq-Decides}
use Rattle.cd_sets.specs.declared.node_id.NodeId.{NodeId}
use Rattle.cd_syntax.specs.Name.{Name, IsAbove}
use Rattle.cd_model.specs.Formula as formula
use Rattle.cd_model.specs.Formula.{Formula, Formulas, NoFormula, AFormula, Graph, Field, FormulaReader, formula_at, field_of, at_formula, holds, each_holds, one_holds, nodes}
use Rattle.cd_model.specs.Thing as thing
use Rattle.cd_model.specs.Thing.{Thing, Fields, NoField, IsValue, AreValues, EachClosure, EachOfFields, LabelsRise}
use Rattle.cd_model.specs.Types.{Mapping, reader, labelled, answers, chosen}
use Rattle.cd_asking.specs.Inner.Shapes.{Nodes, Closed, Shape, item_at, labels, in_field, in_named, is_named, in_rest, in_basic, in_formula, in_each, in_one, shape_of, fields_with, is_in}
use Rattle.cd_asking.specs.MappedArrows.{HasArrow, OneHasArrow, ArrowStands}
use Rattle.cd_asking.proofs.Agreeing.{not_named}

not_both : (one other : Bool) → (one && other) ≡ false → (one ≡ false) ⊎ (other ≡ false)
not_both true other out = inr out
not_both false other _ = inl refl

one_of : (one other : Bool) → (one || other) ≡ true → (one ≡ true) ⊎ (other ≡ true)
one_of true other is = inl refl
one_of false other is = inr is

neither : (one other : Bool) → (one || other) ≡ false → (one ≡ false) × (other ≡ false)
neither true other out = absurd (true≢false out)
neither false other out = (refl, out)

turned : (b answer : Bool) → not b ≡ answer → b ≡ not answer
turned true answer is = ap not is
turned false answer is = ap not is

-- A formula answers as it does at formulas that are no connectives, whose arrows are as is known
module _ (Known : (argument result : NodeId) → Type 0) where
  abbrev ArrowsKnown : Formula → Type 0
  ArrowsKnown is = (argument result : NodeId) → HasArrow is argument result → Known argument result

  abbrev AllKnown : Formulas → Type 0
  AllKnown formulas = (argument result : NodeId) → OneHasArrow formulas argument result → Known argument result

  module _ (read : FormulaReader NodeId) (shape : Shape)
      (right : (is : Formula) (answer : Bool) → ArrowsKnown is → in_basic shape is ≡ answer → read is answer) where
    mutual
      formula_right : (is : Formula) (answer : Bool) → ArrowsKnown is → in_formula shape is ≡ answer → holds read is answer
      formula_right formula.Nothing answer known is = sym is
      formula_right formula.Everything answer known is = sym is
      formula_right (formula.And formulas) true known is = each_is formulas known is
      formula_right (formula.And formulas) false known is = one_is_not formulas known is
      formula_right (formula.Or formulas) true known is = one_is formulas known is
      formula_right (formula.Or formulas) false known is = none_is formulas known is
      formula_right (formula.Not one) answer known is = formula_right one (not answer) known (turned (in_formula shape one) answer is)
      formula_right one answer known is = right one answer known is

      each_is : (formulas : Formulas) → AllKnown formulas → in_each shape formulas ≡ true → each_holds read formulas true
      each_is NoFormula known is = tt
      each_is (AFormula first rest) known is =
          let both = and_parts (in_formula shape first) (in_each shape rest) is in
          (formula_right first true (λ a b has. known a b (inl has)) both.0, each_is rest (λ a b has. known a b (inr has)) both.1)

      one_is_not : (formulas : Formulas) → AllKnown formulas → in_each shape formulas ≡ false → one_holds read formulas false
      one_is_not NoFormula known out = absurd (true≢false out)
      one_is_not (AFormula first rest) known out = elim (not_both (in_formula shape first) (in_each shape rest) out) [
        | inl here ↦ inl (formula_right first false (λ a b has. known a b (inl has)) here)
        | inr later ↦ inr (one_is_not rest (λ a b has. known a b (inr has)) later)
      ]

      one_is : (formulas : Formulas) → AllKnown formulas → in_one shape formulas ≡ true → one_holds read formulas true
      one_is NoFormula known is = absurd (true≢false (sym is))
      one_is (AFormula first rest) known is = elim (one_of (in_formula shape first) (in_one shape rest) is) [
        | inl here ↦ inl (formula_right first true (λ a b has. known a b (inl has)) here)
        | inr later ↦ inr (one_is rest (λ a b has. known a b (inr has)) later)
      ]

      none_is : (formulas : Formulas) → AllKnown formulas → in_one shape formulas ≡ false → each_holds read formulas false
      none_is NoFormula known out = tt
      none_is (AFormula first rest) known out =
          let both = neither (in_formula shape first) (in_one shape rest) out in
          (formula_right first false (λ a b has. known a b (inl has)) both.0, none_is rest (λ a b has. known a b (inr has)) both.1)

-- a record is as a type says of each label, or not of one
named_holds : (test : Name → Bool) (named : List (Name × Field)) (label : Name) → list_all test (labels named) ≡ true → is_named named label ≡ true
    → test label ≡ true
named_holds test [] label all there = absurd (true≢false (sym there))
named_holds test (field ∷ named) label all there =
    let both = and_parts (test field.0) (list_all test (labels named)) all in
    elim (one_of (bytes_eq field.0 label) (is_named named label) there) [
      | inl same ↦ subst (λ name. test name ≡ true) ((bytes_eq-Decides field.0 label).0 same) both.0
      | inr later ↦ named_holds test named label both.1 later
    ]

one_fails : {X : Type 0} (test : X → Bool) (list : List X) → list_all test list ≡ false → (x : X) × (test x ≡ false)
one_fails test [] out = absurd (true≢false out)
one_fails test (x ∷ list) out = elim (not_both (test x) (list_all test list) out) [ inl here ↦ (x, here) | inr later ↦ one_fails test list later ]

abbrev any_rest : NodeId → Field
any_rest rest = record { optional = true; type = rest }

module _ (named : List (Name × Field)) (rest : NodeId) where
  others_hold : (fields : List (Name × Nodes)) (label : Name) → in_rest fields named rest ≡ true → is_named named label ≡ false
      → in_field (item_at fields label) (any_rest rest) ≡ true
  others_hold [] label all out = refl
  others_hold (field ∷ fields) label all out = by_name (cases_Bool (bytes_eq field.0 label)) (others_hold fields label both.1 out)
    where
      both : ((is_named named field.0 || field.1 rest) ≡ true) × (in_rest fields named rest ≡ true)
      both = and_parts (is_named named field.0 || field.1 rest) (in_rest fields named rest) all

      by_name : (bytes_eq field.0 label ≡ true) ⊎ (bytes_eq field.0 label ≡ false) → in_field (item_at fields label) (any_rest rest) ≡ true
          → in_field (item_at (field ∷ fields) label) (any_rest rest) ≡ true
      by_name (inl same) later =
          let equal : field.0 ≡ label = (bytes_eq-Decides field.0 label).0 same in
          let unnamed : is_named named field.0 ≡ false = ap (is_named named) equal ∙ out in
          rw same (sym (ap (λ b. b || field.1 rest) unnamed) ∙ both.0)
      by_name (inr differs) later = rw differs later

-- a label is not one below it
pub differs : (before label : Name) → slice_cmp nat_cmp before label ≡ Less → bytes_eq before label ≡ false
differs before label above = by (cases_Bool (bytes_eq before label))
  where
    by : (bytes_eq before label ≡ true) ⊎ (bytes_eq before label ≡ false) → bytes_eq before label ≡ false
    by (inr is) = is
    by (inl same) = absurd (true≢false (sym same ∙ sym (is_eq-slice_cmp before label) ∙ ap is_eq above))

module _ (graph : Graph) (closed : Closed) (named : List (Name × Field)) (rest : NodeId) where
  abbrev FailsAt : Fields → Name → Type 0
  FailsAt fields label = (is_named named label ≡ false) × (in_field (item_at (fields_with graph closed fields) label) (any_rest rest) ≡ false)

  abbrev IsAboveAll : Option Name → Name → Type 0
  IsAboveAll before label = IsAbove before label

  above_later : (before : Option Name) (name label : Name) → IsAbove before name → IsAbove (Some name) label → IsAbove before label
  above_later None name label first second = tt
  above_later (Some before) name label first second = nat_list_cmp_total.trans before name label first second

  same_name : (name : Name) → bytes_eq name name ≡ true
  same_name name = (bytes_eq-Decides name name).1 refl

  one_rest_fails : (before : Option Name) (fields : Fields) → LabelsRise before fields → in_rest (fields_with graph closed fields) named rest ≡ false
      → (label : Name) × FailsAt fields label × IsAbove before label
  one_rest_fails before NoField rise out = absurd (true≢false out)
  one_rest_fails before (thing.Field name value fields) rise out =
      by_first (not_both (is_named named name || is_in graph closed value rest) (in_rest (fields_with graph closed fields) named rest) out)
      (λ later. one_rest_fails (Some name) fields rise.1 later)
    where
      by_first : ((is_named named name || is_in graph closed value rest) ≡ false) ⊎ (in_rest (fields_with graph closed fields) named rest ≡ false)
          → (in_rest (fields_with graph closed fields) named rest ≡ false → (label : Name) × FailsAt fields label × IsAbove (Some name) label)
          → (label : Name) × FailsAt (thing.Field name value fields) label × IsAbove before label
      by_first (inl here) later =
          let both = neither (is_named named name) (is_in graph closed value rest) here in
          (name, (both.0, rw (same_name name) both.1), rise.0)
      by_first (inr there) later =
          let found = later there in
          (found.0, (found.1.0, rw (differs name found.0 found.2) found.1.1), above_later before name found.0 rise.0 found.2)

module _ (graph : Graph) (closed : Closed) (maps : ℕ → Mapping NodeId) where
  abbrev Right : Thing → Type 0
  Right v = (is : Formula) (answer : Bool) → ArrowsKnown (ArrowStands graph) is → in_basic (shape_of graph closed v) is ≡ answer
      → at_formula (reader (nodes graph) maps v) is answer

  abbrev RightNodes : Thing → Type 0
  RightNodes v = (id : NodeId) (answer : Bool) → is_in graph closed v id ≡ answer → answers (nodes graph) maps v id answer

  at_nodes : (v : Thing) → Right v → RightNodes v
  at_nodes v right id answer is = formula_right (ArrowStands graph) (at_formula (reader (nodes graph) maps v)) (shape_of graph closed v) right
      (formula_at graph id) answer (λ argument result has. (id, has)) is

  integer_right : (n : _) → Right (thing.Integer n)
  integer_right n (formula.Ints set) answer known is = is
  integer_right n _ answer known is = sym is

  character_right : (c : ℕ) → Right (thing.Character c)
  character_right c (formula.Chars set) answer known is = is
  character_right c _ answer known is = sym is

  atom_right : (name : Name) → Right (thing.Atom name)
  atom_right name (formula.Atoms set) answer known is = is
  atom_right name _ answer known is = sym is

  pair_right : (first second : Thing) → RightNodes first → RightNodes second → Right (thing.Pair first second)
  pair_right first second one two (formula.Pair a b) true known is =
      let both = and_parts (is_in graph closed first a) (is_in graph closed second b) is in (one a true both.0, two b true both.1)
  pair_right first second one two (formula.Pair a b) false known is = elim (not_both (is_in graph closed first a) (is_in graph closed second b) is) [
    | inl here ↦ inl (one a false here)
    | inr there ↦ inr (two b false there)
  ]
  pair_right first second one two _ answer known is = sym is

  xml_right : (tag attributes content : Thing) → RightNodes tag → RightNodes attributes → RightNodes content → Right (thing.Xml tag attributes content)
  xml_right tag attributes content one two three (formula.Xml a b c) true known is =
      let first = and_parts (is_in graph closed tag a) (is_in graph closed attributes b && is_in graph closed content c) is in
      let second = and_parts (is_in graph closed attributes b) (is_in graph closed content c) first.1 in
      (one a true first.0, two b true second.0, three c true second.1)
  xml_right tag attributes content one two three (formula.Xml a b c) false known is =
      elim (not_both (is_in graph closed tag a) (is_in graph closed attributes b && is_in graph closed content c) is) [
        | inl here ↦ inl (one a false here)
        | inr rest ↦ elim (not_both (is_in graph closed attributes b) (is_in graph closed content c) rest) [
          | inl there ↦ inr (inl (two b false there))
          | inr last ↦ inr (inr (three c false last))
        ]
      ]
  xml_right tag attributes content one two three _ answer known is = sym is

  abbrev RightFields : Fields → Type 0
  RightFields fields = (label : Name) (field : Field) (answer : Bool) → in_field (item_at (fields_with graph closed fields) label) field ≡ answer
      → labelled (nodes graph) maps fields label field answer

  no_field_right : RightFields NoField
  no_field_right label field answer is = is

  field_right : (name : Name) (value : Thing) (fields : Fields) → RightNodes value → RightFields fields → RightFields (thing.Field name value fields)
  field_right name value fields one later label field answer is = by_name (bytes_eq name label) is
    where
      by_name : (b : Bool) → in_field (if b then Some (is_in graph closed value) else item_at (fields_with graph closed fields) label) field ≡ answer
          → chosen b (answers (nodes graph) maps value field.type answer) (labelled (nodes graph) maps fields label field answer)
      by_name true is = one field.type answer is
      by_name false is = later label field answer is

  record_right : (fields : Fields) → LabelsRise None fields → RightFields fields → Right (thing.Record fields)
  record_right fields rise right (formula.Record named rest) true known is =
      let both = and_parts (in_named (fields_with graph closed fields) named rest) (in_rest (fields_with graph closed fields) named rest) is in
      λ label. right label (field_of named rest label) true (at_label label both (cases_Bool (is_named named label)))
    where
      at_label : (label : Name) → (in_named (fields_with graph closed fields) named rest ≡ true) × (in_rest (fields_with graph closed fields) named rest ≡ true)
          → (is_named named label ≡ true) ⊎ (is_named named label ≡ false)
          → in_field (item_at (fields_with graph closed fields) label) (field_of named rest label) ≡ true
      at_label label both (inl there) =
          named_holds (λ label. in_field (item_at (fields_with graph closed fields) label) (field_of named rest label)) named label both.0 there
      at_label label both (inr unnamed) = rw (not_named named rest label unnamed)
          (others_hold named rest (fields_with graph closed fields) label both.1 unnamed)
  record_right fields rise right (formula.Record named rest) false known is =
      by_part (not_both (in_named (fields_with graph closed fields) named rest) (in_rest (fields_with graph closed fields) named rest) is)
    where
      by_part : (in_named (fields_with graph closed fields) named rest ≡ false) ⊎ (in_rest (fields_with graph closed fields) named rest ≡ false)
          → (label : Name) × labelled (nodes graph) maps fields label (field_of named rest label) false
      by_part (inl out) = let found = one_fails _ (labels named) out in (found.0, right found.0 (field_of named rest found.0) false found.1)
      by_part (inr out) =
          let found = one_rest_fails graph closed named rest None fields rise out in
          (found.0, right found.0 (field_of named rest found.0) false (rw (not_named named rest found.0 found.1.0) found.1.1))
  record_right fields rise right _ answer known is = sym is

  -- the closures of a function are in each arrow of the graph as is said
  abbrev RightFunction : (function : ℕ) → Type 0
  RightFunction function = (argument result : NodeId) → ArrowStands graph argument result
      → maps function argument result (closed function argument result)

  closure_right : (function : ℕ) (environment : Fields) → RightFunction function → Right (thing.Closure function environment)
  closure_right function environment right (formula.Arrow argument result) answer known is =
      subst (maps function argument result) is (right argument result (known argument result (refl, refl)))
  closure_right function environment right _ answer known is = sym is

  mutual
    value_right : (v : Thing) → IsValue v → EachClosure RightFunction v → Right v
    value_right (thing.Integer n) sound right = integer_right n
    value_right (thing.Character c) sound right = character_right c
    value_right (thing.Atom name) sound right = atom_right name
    value_right (thing.Pair first second) sound right = pair_right first second
        (at_nodes first (value_right first sound.0 right.0)) (at_nodes second (value_right second sound.1 right.1))
    value_right (thing.Xml tag attributes content) sound right = xml_right tag attributes content
        (at_nodes tag (value_right tag sound.2 right.0)) (at_nodes attributes (value_right attributes sound.3 right.1))
        (at_nodes content (value_right content sound.4 right.2))
    value_right (thing.Record fields) sound right = record_right fields sound.0 (fields_right fields sound.1 right)
    value_right (thing.Function pairs) sound right = absurd sound
    value_right (thing.Closure function environment) sound right = closure_right function environment right

    fields_right : (fields : Fields) → AreValues fields → EachOfFields RightFunction fields → RightFields fields
    fields_right NoField sound right = no_field_right
    fields_right (thing.Field name value fields) sound right =
        field_right name value fields (at_nodes value (value_right value sound.1 right.0)) (fields_right fields sound.2 right.1)

  -- a value answers at each node as the test says
  pub value_answers_as_tested : (v : Thing) (id : NodeId) → IsValue v → EachClosure RightFunction v
      → answers (nodes graph) maps v id (is_in graph closed v id)
  value_answers_as_tested v id sound right = at_nodes v (value_right v sound right) id (is_in graph closed v id) refl
