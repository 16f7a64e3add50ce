-- The record of elements that are ready for a task is an element for it, where it is in no record type that is left.
use Rattle.std.proofs.Common.{◌≡◌, ℕ, false, List, [], ◌∷◌, ◌++◌, map, refl, sym, ap, ◌∙◌, subst}
use Rattle.cd_syntax.specs.Name.{Name, IsLabel}
use Rattle.cd_model.specs.AllOf.{AllOf}
use Rattle.cd_model.specs.Formula.{Graph}
use Rattle.cd_model.specs.Kinds.{ARecord, kind_of}
use Rattle.cd_model.specs.Membership.{answers, reader}
use Rattle.cd_model.specs.Thing as thing
use Rattle.cd_model.specs.Thing.{Thing, IsElement}
use Rattle.cd_rules.specs.Clauses.{Clause, RecordType, Records, IsInClause}
use Rattle.cd_rules.specs.InRow.{IsForRow, thing_at}
use Rattle.cd_rules.specs.InWay.{AreInWay}
use Rattle.cd_rules.specs.Rows.{Cell, Row, Reasons, cell_at, labels_of}
use Rattle.cd_rules.specs.Tasks.{RecordTask, IsTask, IsTaskOf, row_of_given}
use Rattle.cd_rules.proofs.MembersOfTasks.{record_of_task, record_in_row}
use Rattle.cd_elements.specs.declared.shape.ElementId.{ElementId}
use Rattle.cd_elements.specs.declared.shape.Shape.TheVariants.{Record}
use Rattle.cd_elements.specs.Table.{Names, IsShape, element_at, fields_of}
use Rattle.cd_members.specs.Attempts.{IsElementFor}
use Rattle.cd_members.specs.Held.{IsHeldAt, IsSoAt, record_in}
use Rattle.cd_members.specs.Inner.Ready.{IsReady}
use Rattle.cd_members.specs.Inner.RecordFields.{put_all, record_fields, labels}
use Rattle.cd_members.proofs.FieldsOnce.{cell_labels, fields_asked, fields_labelled}
use Rattle.cd_members.proofs.LabelsOnce.{AreOnce, labels_once}
use Rattle.cd_members.proofs.Ready.{is_task}
use Rattle.cd_members.proofs.PutFields.{all_rise, all_keep}
use Rattle.cd_members.proofs.RecordsForRows.{record_is_for_row}

-- the cells at some labels have these labels
cells_at : (cell_of : Name → Cell) (names : List Name) → cell_labels (map (λ label. (label, cell_of label)) names) ≡ names
cells_at cell_of [] = refl
cells_at cell_of (label ∷ names) = ap (λ names. label ∷ names) (cells_at cell_of names)

module _ (graph : Graph) (wanted refused : List RecordType) (given : Reasons) (left : List RecordType) where
  abbrev row : Row
  row = row_of_given wanted refused given

  abbrev names : List Name
  names = labels_of (wanted ++ refused)

  module _ (table : List Thing) (ids : List ElementId) (ready : IsReady graph table (RecordTask wanted refused given left) ids) where
    -- what is made is a record of the table, for the row
    record_is_shape : IsShape table (Record (put_all (labels (record_fields row)) ids []))
    record_is_shape = (
      all_rise (labels (record_fields row)) ids [] (fields_labelled row
          (subst (AllOf IsLabel) (sym (cells_at (cell_at wanted given) names)) ready.sound.labels)) tt,
      all_keep (Names table) (labels (record_fields row)) ids [] ready.named tt,
    )

    record_is_of_row : IsForRow (answers graph) (thing_at (fields_of table (put_all (labels (record_fields row)) ids []))) row
    record_is_of_row = record_is_for_row graph table row
        (subst AreOnce (sym (cells_at (cell_at wanted given) names)) (labels_once (wanted ++ refused))) ids
        (subst (AreInWay (map (λ id. answers graph (element_at table id)) ids)) (sym (fields_asked row)) ready.parts)

  in_each_clause : (e : Thing) → IsInClause ARecord (reader graph e) (Records wanted refused) → (clause : Clause)
      → IsTaskOf clause (RecordTask wanted refused given left) → IsInClause ARecord (reader graph e) clause
  in_each_clause e is (Records some others) ((same, same_too), task) =
      subst (λ (some : List RecordType). IsInClause ARecord (reader graph e) (Records some others)) same
      (subst (λ (others : List RecordType). IsInClause ARecord (reader graph e) (Records wanted others)) same_too is)
  in_each_clause e is _ (none, task) = absurd none

  record_is_for : IsTask (RecordTask wanted refused given left) → (fields : thing.Fields)
      → IsForRow (answers graph) (thing_at fields) row → (e : Thing) → IsElement e → e ≡ thing.Record fields
      → AllOf (λ type. record_in graph e type false) left → IsElementFor graph (RecordTask wanted refused given left) e
  record_is_for task fields for_row e is made outside = (
    is,
    subst (λ (e : Thing). (clause : Clause) → IsTaskOf clause (RecordTask wanted refused given left)
        → IsInClause (kind_of e) (reader graph e) clause) (sym made)
        (in_each_clause (thing.Record fields) (record_of_task graph fields wanted refused given left task
        (record_in_row (answers graph) (thing_at fields) names wanted given for_row)
        (subst (λ (e : Thing). AllOf (λ type. record_in graph e type false) left) made outside))),
  )

-- fields that are put at the labels of the row
module _ {graph : Graph} {table : List Thing} {wanted refused : List RecordType} {given : Reasons} {left : List RecordType}
    {ids : List ElementId} (ready : IsReady graph table (RecordTask wanted refused given left) ids)
    {found : Row} {labelled : List Name} {parts : List (Name × ElementId)} (of_row : found ≡ row_of_given wanted refused given)
    (named : labelled ≡ labels (record_fields found)) (put : parts ≡ put_all labelled ids []) where
  same_parts : put_all (labels (record_fields (row_of_given wanted refused given))) ids [] ≡ parts
  same_parts = sym (put ∙ ap (λ (labelled : List Name). put_all labelled ids [])
      (named ∙ ap (λ (row : Row). labels (record_fields row)) of_row))

  pub parts_shaped : IsShape table (Record parts)
  parts_shaped = subst (λ (parts : List (Name × ElementId)). IsShape table (Record parts)) same_parts
      (record_is_shape graph wanted refused given left table ids ready)

  pub parts_for_row : IsForRow (answers graph) (thing_at (fields_of table parts)) (row_of_given wanted refused given)
  parts_for_row = subst (λ (parts : List (Name × ElementId)).
      IsForRow (answers graph) (thing_at (fields_of table parts)) (row_of_given wanted refused given)) same_parts
      (record_is_of_row graph wanted refused given left table ids ready)

-- a record that is made for the row, and is in no type that is left
pub record_attempted : {graph : Graph} {table : List Thing} {wanted refused : List RecordType} {given : Reasons}
    {left : List RecordType} {ids : List ElementId} {e : Thing} {fields : thing.Fields}
    → IsReady graph table (RecordTask wanted refused given left) ids
    → IsForRow (answers graph) (thing_at fields) (row_of_given wanted refused given) → IsElement e → e ≡ thing.Record fields
    → AllOf (λ type. record_in graph e type false) left → IsElementFor graph (RecordTask wanted refused given left) e
record_attempted {graph} {wanted} {refused} {given} {left} {e} {fields} ready for_row is made outside =
    record_is_for graph wanted refused given left (is_task ready) fields for_row e is made outside

-- a record type that is left holds such a record
pub record_held : {graph : Graph} {table : List Thing} {wanted refused : List RecordType} {given : Reasons}
    {left : List RecordType} {ids : List ElementId} {e : Thing} {fields : thing.Fields}
    → IsReady graph table (RecordTask wanted refused given left) ids
    → IsForRow (answers graph) (thing_at fields) (row_of_given wanted refused given) → e ≡ thing.Record fields → (place : ℕ)
    → IsSoAt (record_in graph e) left place
    → IsHeldAt graph (map (element_at table) ids) (RecordTask wanted refused given left) place
record_held {graph} {left} {fields} ready for_row made place held =
    (fields, for_row, subst (λ (e : Thing). IsSoAt (record_in graph e) left place) made held)
