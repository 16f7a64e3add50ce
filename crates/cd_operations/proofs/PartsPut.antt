-- The parts of a record of the table, and those with one more, or without one.
use Rattle.std.proofs.Common.{◌≡◌, ◌∙◌, refl, sym, ap, subst, Bool, true, false, List, [], ◌∷◌, Option, Some, None, length, bytes_eq, true≢false}
use Rattle.std.specs.Prelude.{not, filter, cond, if◌then◌else◌}
use Rattle.std.specs.Ordering.{is_lt, ordering_reverse}
use Rattle.std.specs.declared.cmp.Ordering.TheVariants.{Less}
use Rattle.std.proofs.lemmas.Cmp.{nat_list_cmp_total}
use Rattle.std.proofs.lemmas.Slice.Eq.{bytes_eq-Decides}
use Rattle.cd_syntax.specs.Name.{Name}
use Rattle.cd_model.specs.AllOf.{AllOf}
use Rattle.cd_model.specs.Thing.{Thing, Fields, NoField, Field, Record, LabelsRise}
use Rattle.cd_cells.specs.declared.cell.Part.{Part}
use Rattle.cd_cells.specs.declared.values.Values.{Values}
use Rattle.cd_cells.specs.FieldOf.{is_of}
use Rattle.cd_cells.specs.Cells.{thing_at, name_at, IsPart}
use Rattle.cd_cells.specs.Table.{table, names}
use Rattle.cd_evaluation.specs.Runs.{Done}
use Rattle.cd_evaluation.specs.Operations.{dropped}
use Rattle.cd_evaluation.specs.RecordFields.{without}
use Rattle.cd_operations.specs.FieldsOf.{fields_of}
use Rattle.cd_operations.specs.Inner.Merging.{fields_by, AreOfRecord}
use Rattle.cd_operations.proofs.FieldsMerged.{order, rise_before}

module _ (values : Values) where
  module _ (label : Name) where
    abbrev other : Part → Bool
    other part = not (is_of (names values) label part)

    abbrev name_of : Part → Name
    name_of part = name_at (names values) part.label

    not_itself : (name : Name) → order label name ≡ Less → bytes_eq name label ≡ false
    not_itself name less = by_test (bytes_eq name label) refl
      where
        by_test : (test : Bool) → bytes_eq name label ≡ test → test ≡ false
        by_test false is = refl
        by_test true is =
            let same : name ≡ label = (bytes_eq-Decides name label).0 is in
            let less_itself : order label label ≡ Less = ap (order label) (sym same) ∙ less in
            absurd (true≢false (sym (ap is_lt less_itself)
            ∙ ap is_lt (nat_list_cmp_total.antisymm label label ∙ ap ordering_reverse less_itself)))

    -- none of those above the label
    all_others : (parts : List Part) → LabelsRise (Some label) (fields_by values parts) → filter other parts ≡ parts
    all_others [] rise = refl
    all_others (part ∷ parts) rise =
        ap (λ test. cond (not test) (part ∷ filter other parts) (filter other parts)) (not_itself (name_at (names values) part.label) rise.0)
        ∙ ap (λ parts. part ∷ parts)
        (all_others parts (rise_before (Some label) (name_at (names values) part.label) (fields_by values parts) rise.0 rise.1))

    fields_without : (before : Option Name) (parts : List Part) → LabelsRise before (fields_by values parts)
        → fields_by values (filter other parts) ≡ without label (fields_by values parts)
    fields_without before [] rise = refl
    fields_without before (part ∷ parts) rise =
        by_test (is_of (names values) label part) refl (fields_without (Some (name_of part)) parts rise.1)
      where
        by_test : (test : Bool) → bytes_eq (name_of part) label ≡ test → fields_by values (filter other parts) ≡ without label (fields_by values parts)
            → fields_by values (cond (not test) (part ∷ filter other parts) (filter other parts))
            ≡ (if test then fields_by values parts else Field (name_of part) (thing_at (table values) part.value) (without label (fields_by values parts)))
        by_test true is rest =
            let same : name_of part ≡ label = (bytes_eq-Decides (name_of part) label).0 is in
            ap (fields_by values) (all_others parts (subst (λ name. LabelsRise (Some name) (fields_by values parts)) same rise.1))
        by_test false is rest = ap (Field (name_of part) (thing_at (table values) part.value)) rest

    parts_filtered : (parts : List Part) → AllOf (IsPart (names values) (length (table values))) parts
        → AllOf (IsPart (names values) (length (table values))) (filter other parts)
    parts_filtered [] are = tt
    parts_filtered (part ∷ parts) are = by_test (other part) (parts_filtered parts are.1)
      where
        by_test : (test : Bool) → AllOf (IsPart (names values) (length (table values))) (filter other parts)
            → AllOf (IsPart (names values) (length (table values))) (cond test (part ∷ filter other parts) (filter other parts))
        by_test true rest = (are.0, rest)
        by_test false rest = rest

    without_rises : (before : Option Name) (fields : Fields) → LabelsRise before fields → LabelsRise before (without label fields)
    without_rises before NoField rise = tt
    without_rises before (Field name v rest) rise = by_test (bytes_eq name label) (without_rises (Some name) rest rise.1)
      where
        by_test : (test : Bool) → LabelsRise (Some name) (without label rest)
            → LabelsRise before (if test then rest else Field name v (without label rest))
        by_test true later = rise_before before name rest rise.0 rise.1
        by_test false later = (rise.0, later)

    pub of_others : (parts made : List Part) → AreOfRecord values parts → made ≡ filter other parts → AreOfRecord values made
    of_others parts made of same = subst (AreOfRecord values) (sym same) record {
      parts_are = parts_filtered parts of.parts_are;
      rise = subst (LabelsRise None) (sym (fields_without None parts of.rise)) (without_rises None (fields_by values parts) of.rise);
    }

    pub others_are : (parts made : List Part) → AreOfRecord values parts → made ≡ filter other parts
        → fields_by values made ≡ without label (fields_by values parts)
    others_are parts made of same = ap (fields_by values) same ∙ fields_without None parts of.rise

pub dropped_record : (label : Name) (v : Thing) (fields : Fields) → Record fields ≡ v
    → Done (Record (without label (fields_of v))) ≡ dropped label v
dropped_record label v fields is = subst (λ v. Done (Record (without label (fields_of v))) ≡ dropped label v) is refl
