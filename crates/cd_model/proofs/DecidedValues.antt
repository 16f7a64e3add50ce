-- Each value is in a built-in node or outside it, whatever the interfaces of functions are.
--
-- The one arrow among the formulas of these nodes is from nothing to anything, in which each closure is. So a value answers there as if its
-- closures mapped each type into each.
use Rattle.std.proofs.Common.{◌≡◌, ℕ, zero, suc, ◌<◌, true, false, [], ◌∷◌, ◌++◌, ◌⊎◌, inl, refl, sym, subst, length, arith, rules, bytes_eq}
use Rattle.std.proofs.lemmas.Bool.{false≢true}
use Rattle.cd_sets.specs.declared.node_id.NodeId.{NodeId}
use Rattle.cd_model.specs.AllOf.{AllOf}
use Rattle.cd_model.specs.BuiltIns.{built_ins, EMPTY, ANY}
use Rattle.cd_model.specs.Formula as formula
use Rattle.cd_model.specs.Formula.{Graph, Formula, at_formula, formula_at, nodes}
use Rattle.cd_model.specs.Thing.{Thing, Integer, Character, Atom, Pair, Xml, Record, Function, Closure, Fields, NoField, Field, IsValue, AreValues}
use Rattle.cd_model.specs.Types.{Mapping, reader, labelled, answers, field_of}
use Rattle.cd_model.proofs.Decided.{answers_decide}
use Rattle.cd_model.proofs.DecidedAtNodes.{nodes_decide}
use Rattle.cd_model.proofs.PlainForms.{IsPlain, KeptAtNodes, KeptAtForms, KeptAtLabels, holds_kept, either_of, chosen_kept, field_below}

-- the formulas of the built-in nodes are plain
built_ins_are_plain : AllOf IsPlain built_ins
built_ins_are_plain = search rules

formula_is_plain : (graph more : Graph) (id : ℕ) → AllOf IsPlain graph → id < length graph
    → IsPlain (formula_at (graph ++ more) (record { 0 = id }))
formula_is_plain [] more id each below = absurd (omega arith)
formula_is_plain (is ∷ graph) more zero each below = each.0
formula_is_plain (is ∷ graph) more (suc id) each below = formula_is_plain graph more id each.1 (omega arith)

-- closures that map each type into each
abbrev mapping_all : ℕ → Mapping NodeId
mapping_all function argument result answer = answer ≡ true

module _ (more : Graph) (closed : ℕ → Mapping NodeId) (maps : (function : ℕ) → closed function EMPTY ANY true) where
  abbrev graph : Graph
  graph = built_ins ++ more

  abbrev Kept : Thing → Type 0
  Kept v = KeptAtForms (at_formula (reader (nodes graph) mapping_all v)) (at_formula (reader (nodes graph) closed v))

  at_nodes : (v : Thing) → Kept v → KeptAtNodes (answers (nodes graph) mapping_all v) (answers (nodes graph) closed v)
  at_nodes v kept id below answer =
      holds_kept (at_formula (reader (nodes graph) mapping_all v)) (at_formula (reader (nodes graph) closed v)) kept
      (formula_at graph id) (formula_is_plain built_ins more id.0 built_ins_are_plain below) answer

  -- a closure is in the arrow from nothing to anything
  closure_kept : (function : ℕ) (environment : Fields) → Kept (Closure function environment)
  closure_kept function environment (formula.Arrow argument result) plain true h =
      subst (λ from. closed function from result true) (sym plain.0)
      (subst (λ to. closed function EMPTY to true) (sym plain.1) (maps function))
  closure_kept function environment (formula.Arrow argument result) plain false h = absurd (false≢true h)
  closure_kept function environment formula.Nothing plain answer h = h
  closure_kept function environment formula.Everything plain answer h = h
  closure_kept function environment (formula.Ints set) plain answer h = h
  closure_kept function environment (formula.Chars set) plain answer h = h
  closure_kept function environment (formula.Atoms set) plain answer h = h
  closure_kept function environment (formula.Pair first second) plain answer h = h
  closure_kept function environment (formula.Xml tag attributes content) plain answer h = h
  closure_kept function environment (formula.Record named rest) plain answer h = h
  closure_kept function environment (formula.And formulas) plain answer h = h
  closure_kept function environment (formula.Or formulas) plain answer h = h
  closure_kept function environment (formula.Not is) plain answer h = h

  pair_kept : (first second : Thing) → Kept first → Kept second → Kept (Pair first second)
  pair_kept first second is_first is_second (formula.Pair one other) plain true h =
      (at_nodes first is_first one plain.0 true h.0, at_nodes second is_second other plain.1 true h.1)
  pair_kept first second is_first is_second (formula.Pair one other) plain false h =
      either_of (at_nodes first is_first one plain.0 false) (at_nodes second is_second other plain.1 false) h
  pair_kept first second is_first is_second formula.Nothing plain answer h = h
  pair_kept first second is_first is_second formula.Everything plain answer h = h
  pair_kept first second is_first is_second (formula.Ints set) plain answer h = h
  pair_kept first second is_first is_second (formula.Chars set) plain answer h = h
  pair_kept first second is_first is_second (formula.Atoms set) plain answer h = h
  pair_kept first second is_first is_second (formula.Xml tag attributes content) plain answer h = h
  pair_kept first second is_first is_second (formula.Record named rest) plain answer h = h
  pair_kept first second is_first is_second (formula.Arrow argument result) plain answer h = h
  pair_kept first second is_first is_second (formula.And formulas) plain answer h = h
  pair_kept first second is_first is_second (formula.Or formulas) plain answer h = h
  pair_kept first second is_first is_second (formula.Not is) plain answer h = h

  xml_kept : (tag attributes content : Thing) → Kept tag → Kept attributes → Kept content → Kept (Xml tag attributes content)
  xml_kept tag attributes content is_tag is_attributes is_content (formula.Xml one other last) plain true h = (
    at_nodes tag is_tag one plain.0 true h.0,
    at_nodes attributes is_attributes other plain.1 true h.1,
    at_nodes content is_content last plain.2 true h.2,
  )
  xml_kept tag attributes content is_tag is_attributes is_content (formula.Xml one other last) plain false h =
      either_of (at_nodes tag is_tag one plain.0 false)
      (either_of (at_nodes attributes is_attributes other plain.1 false) (at_nodes content is_content last plain.2 false)) h
  xml_kept tag attributes content is_tag is_attributes is_content formula.Nothing plain answer h = h
  xml_kept tag attributes content is_tag is_attributes is_content formula.Everything plain answer h = h
  xml_kept tag attributes content is_tag is_attributes is_content (formula.Ints set) plain answer h = h
  xml_kept tag attributes content is_tag is_attributes is_content (formula.Chars set) plain answer h = h
  xml_kept tag attributes content is_tag is_attributes is_content (formula.Atoms set) plain answer h = h
  xml_kept tag attributes content is_tag is_attributes is_content (formula.Pair first second) plain answer h = h
  xml_kept tag attributes content is_tag is_attributes is_content (formula.Record named rest) plain answer h = h
  xml_kept tag attributes content is_tag is_attributes is_content (formula.Arrow argument result) plain answer h = h
  xml_kept tag attributes content is_tag is_attributes is_content (formula.And formulas) plain answer h = h
  xml_kept tag attributes content is_tag is_attributes is_content (formula.Or formulas) plain answer h = h
  xml_kept tag attributes content is_tag is_attributes is_content (formula.Not is) plain answer h = h

  record_kept : (fields : Fields) → KeptAtLabels (labelled (nodes graph) mapping_all fields) (labelled (nodes graph) closed fields)
      → Kept (Record fields)
  record_kept fields kept (formula.Record named rest) plain true h = λ label.
      kept label (field_of named rest label) (field_below named rest plain.0 plain.1 label) true (h label)
  record_kept fields kept (formula.Record named rest) plain false h =
      (h.0, kept h.0 (field_of named rest h.0) (field_below named rest plain.0 plain.1 h.0) false h.1)
  record_kept fields kept formula.Nothing plain answer h = h
  record_kept fields kept formula.Everything plain answer h = h
  record_kept fields kept (formula.Ints set) plain answer h = h
  record_kept fields kept (formula.Chars set) plain answer h = h
  record_kept fields kept (formula.Atoms set) plain answer h = h
  record_kept fields kept (formula.Pair first second) plain answer h = h
  record_kept fields kept (formula.Xml tag attributes content) plain answer h = h
  record_kept fields kept (formula.Arrow argument result) plain answer h = h
  record_kept fields kept (formula.And formulas) plain answer h = h
  record_kept fields kept (formula.Or formulas) plain answer h = h
  record_kept fields kept (formula.Not is) plain answer h = h

  -- by recursion on the value
  mutual
    value_kept : (v : Thing) → IsValue v → Kept v
    value_kept (Integer n) sound = λ is plain answer h. h
    value_kept (Character c) sound = λ is plain answer h. h
    value_kept (Atom name) sound = λ is plain answer h. h
    value_kept (Pair first second) sound =
        pair_kept first second (value_kept first sound.0) (value_kept second sound.1)
    value_kept (Xml tag attributes content) sound = xml_kept tag attributes content
        (value_kept tag sound.2) (value_kept attributes sound.3) (value_kept content sound.4)
    value_kept (Record fields) sound = record_kept fields (fields_kept fields sound.1)
    value_kept (Function pairs) sound = absurd sound
    value_kept (Closure function environment) sound = closure_kept function environment

    fields_kept : (fields : Fields) → AreValues fields
        → KeptAtLabels (labelled (nodes graph) mapping_all fields) (labelled (nodes graph) closed fields)
    fields_kept NoField are = λ label field below answer h. h
    fields_kept (Field name is rest) are = λ label field below answer.
        chosen_kept (bytes_eq name label) (at_nodes is (value_kept is are.1) field.type below answer)
        (fields_kept rest are.2 label field below answer)

  pub value_decided : (v : Thing) → IsValue v → (id : NodeId) → id.0 < 14
      → answers (nodes graph) closed v id true ⊎ answers (nodes graph) closed v id false
  value_decided v sound id below =
      let kept = at_nodes v (value_kept v sound) id below in
      either_of (kept true) (kept false)
      (answers_decide (nodes graph) (nodes_decide graph) mapping_all (λ function argument result. inl refl) v id)
