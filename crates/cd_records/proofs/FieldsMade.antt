-- The fields of a record type, as the code makes them of what is said of labels.
use Rattle.std.proofs.Common.{◌≡◌, ◌<◌, ◌+◌, ◌++◌, Bool, true, List, [], ◌∷◌, map, None, length, refl}
use Rattle.std.proofs.Common.{sym, ap, subst, ◌∙◌}
use Rattle.std.proofs.Math.Path.{ap₂}
use Rattle.std.specs.List.{AllZip}
use Rattle.cd_sets.specs.declared.node_id.NodeId.{NodeId}
use Rattle.cd_sets.specs.declared.question.Question.{Question}
use Rattle.cd_syntax.specs.Name.{Name}
use Rattle.cd_model.specs.BuiltIns.{built_ins}
use Rattle.cd_model.specs.Formula as formula
use Rattle.cd_model.specs.Formula.{Graph, Formula, Field, Not, AreRisingLabels}
use Rattle.cd_records.specs.Inner.Entries.{Entry}
use Rattle.cd_records.specs.Inner.Labels.{AreRising}
use Rattle.cd_records.specs.Inner.Leaving.{entries_at, rest_entries, rest_labels}
use Rattle.cd_records.specs.Inner.Saying.{merged_entries}
use Rattle.cd_records.specs.Inner.Standing.{Adds, AreFieldsOf, HoldsOther, HoldsOutside, HoldsRecords}
use Rattle.cd_records.specs.Inner.Standing.{HoldsUnion, IsAsSaid, IsFieldOf, IsNamedFor, open_fields}
use Rattle.cd_records.proofs.FormulasJoined.{other_holds}
use Rattle.cd_records.proofs.LabelsRise.{fields_rise}
use Rattle.cd_records.proofs.NodesStand.{fields_stay}
use Rattle.cd_records.proofs.RecordsStand.{record_holds}
use Rattle.cd_rules.specs.Rows.{Row}

abbrev names_of : {X : Type 0} → List (Name × X) → List Name
names_of fields = map (λ field. field.0) fields

-- fields have the names of their entries
same_names : (graph : Graph) (batch : List Formula) (entries : List (Name × Entry))
    (named : List (Name × Field)) → AreFieldsOf graph batch entries named
    → names_of named ≡ names_of entries
same_names graph batch [] [] are = refl
same_names graph batch [] (field ∷ named) are = absurd are
same_names graph batch (one ∷ entries) [] are = absurd are
same_names graph batch (one ∷ entries) (field ∷ named) are =
    ap₂ (λ (name : Name) (names : List Name). name ∷ names) are.0.0
    (same_names graph batch entries named are.1)

pub named_rise : (graph : Graph) (batch : List Formula) (entries : List (Name × Entry))
    (named : List (Name × Field)) → AreFieldsOf graph batch entries named
    → AreRising None (names_of entries) → AreRisingLabels None named
named_rise graph batch entries named are rising = fields_rise None named
    (subst (AreRising None) (sym (same_names graph batch entries named are)) rising)

-- and so have those that let anything stand there
open_names : (entries : List (Name × Entry)) → names_of (open_fields entries) ≡ names_of entries
open_names [] = refl
open_names (one ∷ entries) = ap (λ (names : List Name). one.0 ∷ names) (open_names entries)

pub open_rise : (entries : List (Name × Entry)) → AreRising None (names_of entries)
    → AreRisingLabels None (open_fields entries)
open_rise entries rising = fields_rise None (open_fields entries)
    (subst (AreRising None) (sym (open_names entries)) rising)

-- the names of merged entries, and of those of a row
pub merged_names : (first second : List Row) (labels : List Name)
    → names_of (merged_entries first second labels) ≡ labels
merged_names first second [] = refl
merged_names first second (label ∷ labels) =
    ap (λ (names : List Name). label ∷ names) (merged_names first second labels)

rest_names_of : (row : Row) (label : Name) (labels : List Name)
    → names_of (entries_at row label labels) ≡ labels
rest_names_of row label [] = refl
rest_names_of row label (name ∷ labels) =
    ap (λ (names : List Name). name ∷ names) (rest_names_of row label labels)

pub rest_names : (row : Row) (label : Name)
    → names_of (rest_entries row label) ≡ rest_labels row label
rest_names row label = rest_names_of row label (rest_labels row label)

module _ (graph : Graph) (old new : List Formula) (adds : Adds graph old new) where
  -- a field for an entry
  pub named_for : (entry : Name × Entry) (field : Name × Field) → field.0 ≡ entry.0
      → field.1.optional ≡ entry.1.optional
      → HoldsUnion graph new entry.1.questions field.1.type → IsNamedFor graph new entry field
  named_for entry field name optional holding =
      (name, record { optional = optional; type = holding })

  -- the record type of fields and of a node for all other labels
  pub record_made : (entries : List (Name × Entry)) (every : List Question)
      (named : List (Name × Field)) (rest : NodeId) → AreFieldsOf graph old entries named
      → AreRising None (names_of entries) → HoldsUnion graph new every rest → (f : Formula)
      → f ≡ formula.Record named rest
      → HoldsRecords graph new (IsAsSaid graph entries every) f
  record_made entries every named rest are rising holding f is = subst
      (HoldsRecords graph new (IsAsSaid graph entries every)) (sym is)
      (record_holds graph new entries every named rest
      (fields_stay graph old new adds entries named are) holding
      (named_rise graph old entries named are rising))

-- the formula of records that have a value of a question at another label
pub other_made : (graph before : Graph) → graph ≡ built_ins ++ before → (batch : List Formula)
    (entries : List (Name × Entry)) → AreRising None (names_of entries) → (question : Question)
    (id : NodeId) → HoldsOutside graph batch question id → (named : List (Name × Field))
    → named ≡ open_fields entries → (others f : Formula) → others ≡ formula.Record named id
    → f ≡ Not others → HoldsOther graph batch entries question f
other_made graph before begins batch entries rising question id outside named same others f is
    negated = subst (HoldsOther graph batch entries question)
    (sym (negated ∙ ap Not (is ∙ ap (λ (named : List (Name × Field)). formula.Record named id)
    same)))
    (other_holds graph batch before begins entries question id outside (open_rise entries rising))
