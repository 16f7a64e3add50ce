-- The record type of some entries holds the records that are as the entries say, and what is refused
-- holds those that have a value of a question at a name without an entry.
use Rattle.std.proofs.Common.{◌≡◌, ◌<◌, ◌+◌, ◌↔◌, Bool, true, false, List, [], ◌∷◌, ◌++◌, map, Option}
use Rattle.std.proofs.Common.{Some, None, ◌⊎◌, inl, inr, length, refl, sym, ap, subst, ◌∙◌, bytes_eq}
use Rattle.std.proofs.Common.{if◌then◌else◌}
use Rattle.std.proofs.lemmas.Bool.{true≢false}
use Rattle.std.specs.List.{AllZip}
use Rattle.cd_sets.specs.declared.node_id.NodeId.{NodeId}
use Rattle.cd_sets.specs.declared.question.Question.{Question}
use Rattle.cd_syntax.specs.Name.{Name}
use Rattle.cd_model.specs.AllOf.{AllOf, AnyOf}
use Rattle.cd_model.specs.BuiltIns.{built_ins, ANY}
use Rattle.cd_model.specs.Formula as formula
use Rattle.cd_model.specs.Formula.{Graph, Formula, Field, AreRisingLabels, field_of, holds, in_node}
use Rattle.cd_model.specs.Formula.{asked}
use Rattle.cd_model.specs.Membership.{reader, labelled, either}
use Rattle.cd_model.specs.Thing as thing
use Rattle.cd_model.specs.Thing.{Thing, IsElement, IsRecord}
use Rattle.cd_model.proofs.BothWays.{itself, through, turned}
use Rattle.cd_model.proofs.Sorts as sort
use Rattle.cd_rules.specs.InRow.{thing_at, IsInCell}
use Rattle.cd_rules.proofs.InCells.{Says}
use Rattle.cd_rows.proofs.RowsWithWitnesses.{IsOfSort, at_labels}
use Rattle.cd_records.specs.Inner.Entries.{Entry, IsInEntry, entry_in}
use Rattle.cd_records.specs.Inner.Standing.{HoldsUnion, HoldsOutside, IsFieldOf, AreFieldsOf}
use Rattle.cd_records.specs.Inner.Standing.{HoldsRecords, IsAsSaid, HasOther, longer}
use Rattle.cd_records.proofs.Lookups.{same_name, not_same}

-- what fields answer at a label is what they have there
module _ (graph : Graph) where
  pub had : (fields : thing.Fields) (label : Name) (field : Field) (answer : Bool)
      → labelled graph fields label field answer
      → Says (in_node graph) (thing_at fields label) field answer
  had thing.NoField label field answer h = h
  had (thing.Field name d rest) label field answer h =
      by_name (bytes_eq name label) (had rest label field answer) h
    where
      by_name : (same : Bool) → (labelled graph rest label field answer
          → Says (in_node graph) (thing_at rest label) field answer)
          → either same (in_node graph d field.type answer)
          (labelled graph rest label field answer)
          → Says (in_node graph) (if same then Some d else thing_at rest label) field answer
      by_name true later h = h
      by_name false later h = later h

  pub as_had : (fields : thing.Fields) (label : Name) (field : Field) (answer : Bool)
      → Says (in_node graph) (thing_at fields label) field answer
      → labelled graph fields label field answer
  as_had thing.NoField label field answer h = h
  as_had (thing.Field name d rest) label field answer h =
      by_name (bytes_eq name label) (as_had rest label field answer) h
    where
      by_name : (same : Bool) → (Says (in_node graph) (thing_at rest label) field answer
          → labelled graph rest label field answer)
          → Says (in_node graph) (if same then Some d else thing_at rest label) field answer
          → either same (in_node graph d field.type answer)
          (labelled graph rest label field answer)
      by_name true later h = h
      by_name false later h = later h

  -- no other thing is in a record type
  pub record_alone : (named : List (Name × Field)) (rest : NodeId) (d : Thing)
      → holds (reader graph d) (formula.Record named rest) true → IsRecord d
  record_alone named rest (thing.Integer n) h = absurd (true≢false h)
  record_alone named rest (thing.Character c) h = absurd (true≢false h)
  record_alone named rest (thing.Atom name) h = absurd (true≢false h)
  record_alone named rest (thing.Pair first second) h = absurd (true≢false h)
  record_alone named rest (thing.Xml tag attributes content) h = absurd (true≢false h)
  record_alone named rest (thing.Record fields) h = tt
  record_alone named rest (thing.Function pairs) h = absurd (true≢false h)
  record_alone named rest (thing.Closure function environment) h = absurd (true≢false h)

module _ (graph : Graph) (batch : List Formula) where
  -- what the fields say at a name, by the entries
  field_at : (entries : List (Name × Entry)) (every : List Question) (named : List (Name × Field))
      (rest : NodeId) → AreFieldsOf graph batch entries named → HoldsUnion graph batch every rest
      → (name : Name)
      → IsFieldOf graph batch (entry_in entries every name) (field_of named rest name)
  field_at [] every [] rest are holds_rest name = record { optional = refl; type = holds_rest }
  field_at [] every (field ∷ named) rest are holds_rest name = absurd are
  field_at (one ∷ entries) every [] rest are holds_rest name = absurd are
  field_at (one ∷ entries) every (field ∷ named) rest are holds_rest name =
      subst (λ (label : Name). IsFieldOf graph batch (entry_in (one ∷ entries) every name)
      (if bytes_eq label name then field.1 else field_of named rest name)) (sym are.0.0)
      (by_name (bytes_eq one.0 name) (field_at entries every named rest are.1 holds_rest name))
    where
      by_name : (same : Bool)
          → IsFieldOf graph batch (entry_in entries every name) (field_of named rest name)
          → IsFieldOf graph batch (if same then one.1 else entry_in entries every name)
          (if same then field.1 else field_of named rest name)
      by_name true later = are.0.1
      by_name false later = later

  -- a field and its entry say the same
  as_entry : (more : Graph) (entry : Entry) (field : Field) → IsFieldOf graph batch entry field
      → (what : Option Thing) → IsOfSort IsElement what
      → IsInEntry (in_node graph) what entry
      ↔ Says (in_node (longer graph batch more)) what field true
  as_entry more entry field is None sort =
      (λ may. is.optional ∙ may, λ may. sym is.optional ∙ may)
  as_entry more entry field is (Some e) sort = is.type.elements more e sort

  module _ (entries : List (Name × Entry)) (every : List Question) (named : List (Name × Field))
      (rest : NodeId) (are : AreFieldsOf graph batch entries named)
      (holds_rest : HoldsUnion graph batch every rest) where
    named_below : (entries : List (Name × Entry)) (named : List (Name × Field))
        → AreFieldsOf graph batch entries named
        → AllOf (λ field. field.1.type.0 < length graph + length batch) named
    named_below [] [] are = tt
    named_below [] (field ∷ named) are = absurd are
    named_below (one ∷ entries) [] are = tt
    named_below (one ∷ entries) (field ∷ named) are =
        (are.0.1.type.node, named_below entries named are.1)

    pub record_holds : AreRisingLabels None named
        → HoldsRecords graph batch (IsAsSaid graph entries every) (formula.Record named rest)
    record_holds rising = record {
      exact = λ more fields is. (
        λ said name. as_had (longer graph batch more) fields name (field_of named rest name) true
            ((as_entry more (entry_in entries every name) (field_of named rest name)
            (field_at entries every named rest are holds_rest name) (thing_at fields name)
            (at_labels sort.elements fields is.1 name)).0 (said name)),
        λ h name. (as_entry more (entry_in entries every name) (field_of named rest name)
            (field_at entries every named rest are holds_rest name) (thing_at fields name)
            (at_labels sort.elements fields is.1 name)).1
            (had (longer graph batch more) fields name (field_of named rest name) true (h name)),
      );
      records = λ more d h. record_alone (longer graph batch more) named rest d h;
      sound = (rising, named_below entries named are, holds_rest.node);
    }
