-- The parts of two records become those of one.
use Rattle.std.proofs.Common.{◌≡◌, ◌∙◌, refl, sym, ap, ap₂, subst, arith, List, [], ◌∷◌, ◌++◌, Some, None, length}
use Rattle.std.specs.declared.cmp.Ordering.TheVariants.{Less, Equal, Greater}
use Rattle.cd_syntax.specs.Name.{Name}
use Rattle.cd_model.specs.AllOf.{AllOf}
use Rattle.cd_model.specs.Thing.{Thing, Fields, NoField, Field, LabelsRise}
use Rattle.cd_cells.specs.declared.cell.Part.{Part}
use Rattle.cd_cells.specs.declared.values.Values.{Values}
use Rattle.cd_cells.specs.Cells.{thing_at, name_at, IsPart}
use Rattle.cd_cells.specs.Table.{table, names}
use Rattle.cd_evaluation.specs.Environment.{with_all}
use Rattle.cd_evaluation.specs.RecordFields.{merged}
use Rattle.cd_operations.specs.declared.merging.Both.{Both}
use Rattle.cd_operations.specs.Inner.Merging.{fields_by, AreOfRecord, fields_of_both, AreOfRecords, IsNext}
use Rattle.cd_operations.proofs.FieldsMerged.{order, turned, rise_before, merged_rises, merged_none, merged_second, merged_first, merged_over}

module _ (values : Values) where
  abbrev label_of : Part → Name
  label_of part = name_at (names values) part.label

  abbrev value_of : Part → Thing
  value_of part = thing_at (table values) part.value

  split_record : (parts rest : List Part) (first : Part) → parts ≡ first ∷ rest → AreOfRecord values parts
      → AreOfRecord values (first ∷ rest)
  split_record parts rest first is of = subst (AreOfRecord values) is of

  rest_of_record : (rest : List Part) (first : Part) → AreOfRecord values (first ∷ rest) → AreOfRecord values rest
  rest_of_record rest first of = record {
    parts_are = of.parts_are.1;
    rise = rise_before None (label_of first) (fields_by values rest) tt of.rise.1;
  }

  module _ (both : Both) (of : AreOfRecords values both) where
    pub next_of_second : (other : Part) (second : List Part) (rest : Both) → both.first.now ≡ []
        → both.second.now ≡ other ∷ second → rest.first.now ≡ both.first.now → rest.second.now ≡ second → IsNext values both (other, rest)
    next_of_second other second rest none is same same_rest =
        let of_second = split_record both.second.now second other is of.1 in record {
          is = of_second.parts_are.0;
          rest = (subst (AreOfRecord values) (sym same) of.0, subst (AreOfRecord values) (sym same_rest) (rest_of_record second other of_second));
          fields =
              ap₂ (λ one other. merged (fields_by values one) (fields_by values other)) none is
              ∙ merged_none None (fields_by values (other ∷ second)) of_second.rise
              ∙ ap (Field (label_of other) (value_of other))
              (sym (merged_none (Some (label_of other)) (fields_by values second) of_second.rise.1)
              ∙ ap₂ (λ one other. merged (fields_by values one) (fields_by values other)) (sym none ∙ sym same) (sym same_rest));
          shorter = omega (arith, ap length is, ap length same, ap length same_rest);
        }

    pub next_of_first : (one : Part) (first : List Part) (rest : Both) → both.first.now ≡ one ∷ first
        → both.second.now ≡ [] → rest.first.now ≡ first → rest.second.now ≡ both.second.now → IsNext values both (one, rest)
    next_of_first one first rest is none same same_rest =
        let of_first = split_record both.first.now first one is of.0 in record {
          is = of_first.parts_are.0;
          rest = (subst (AreOfRecord values) (sym same) (rest_of_record first one of_first), subst (AreOfRecord values) (sym same_rest) of.1);
          fields =
              ap₂ (λ one other. merged (fields_by values one) (fields_by values other)) is none
              ∙ ap (Field (label_of one) (value_of one))
              (ap₂ (λ one other. merged (fields_by values one) (fields_by values other)) (sym same) (sym none ∙ sym same_rest));
          shorter = omega (arith, ap length is, ap length same, ap length same_rest);
        }

    module _ (one other : Part) (first second : List Part) (is : both.first.now ≡ one ∷ first) (is_too : both.second.now ≡ other ∷ second) (rest : Both) where
      of_first : AreOfRecord values (one ∷ first)
      of_first = split_record both.first.now first one is of.0

      of_second : AreOfRecord values (other ∷ second)
      of_second = split_record both.second.now second other is_too of.1

      abbrev both_fields : Fields
      both_fields = merged (fields_by values (one ∷ first)) (fields_by values (other ∷ second))

      same_fields : fields_of_both values both ≡ both_fields
      same_fields = ap₂ (λ one other. merged (fields_by values one) (fields_by values other)) is is_too

      pub next_below : order (label_of other) (label_of one) ≡ Less → rest.first.now ≡ both.first.now → rest.second.now ≡ second
          → IsNext values both (other, rest)
      next_below less same same_rest = record {
        is = of_second.parts_are.0;
        rest = (subst (AreOfRecord values) (sym same) of.0, subst (AreOfRecord values) (sym same_rest) (rest_of_record second other of_second));
        fields = same_fields
            ∙ merged_second (label_of other) (value_of other) (fields_by values (one ∷ first)) (fields_by values second)
            (less, of_first.rise.1) of_second.rise.1
            ∙ ap (Field (label_of other) (value_of other))
            (ap₂ (λ one other. merged (fields_by values one) (fields_by values other)) (sym is ∙ sym same) (sym same_rest));
        shorter = omega (arith, ap length is_too, ap length same, ap length same_rest);
      }

      pub next_above : order (label_of other) (label_of one) ≡ Greater → rest.first.now ≡ first → rest.second.now ≡ both.second.now
          → IsNext values both (one, rest)
      next_above greater same same_rest = record {
        is = of_first.parts_are.0;
        rest = (subst (AreOfRecord values) (sym same) (rest_of_record first one of_first), subst (AreOfRecord values) (sym same_rest) of.1);
        fields = same_fields
            ∙ merged_first (label_of one) (value_of one) (fields_by values first) (fields_by values (other ∷ second))
            (turned (label_of other) (label_of one) greater, of_second.rise.1)
            ∙ ap (Field (label_of one) (value_of one))
            (ap₂ (λ one other. merged (fields_by values one) (fields_by values other)) (sym same) (sym is_too ∙ sym same_rest));
        shorter = omega (arith, ap length is, ap length same, ap length same_rest);
      }

      pub next_over : order (label_of other) (label_of one) ≡ Equal → rest.first.now ≡ first → rest.second.now ≡ second
          → IsNext values both (other, rest)
      next_over equal same same_rest = record {
        is = of_second.parts_are.0;
        rest = (
          subst (AreOfRecord values) (sym same) (rest_of_record first one of_first),
          subst (AreOfRecord values) (sym same_rest) (rest_of_record second other of_second),
        );
        fields = same_fields
            ∙ merged_over (label_of one) (value_of one) (label_of other) (value_of other) (fields_by values first) (fields_by values second)
            equal of_second.rise.1
            ∙ ap (Field (label_of other) (value_of other))
            (ap₂ (λ one other. merged (fields_by values one) (fields_by values other)) (sym same) (sym same_rest));
        shorter = omega (arith, ap length is, ap length is_too, ap length same, ap length same_rest);
      }

  -- these parts are made, and the fields of both are left
  pub record IsMerging (first second made : List Part) (both : Both) : Type 0 where
    pub parts_are : AllOf (IsPart (names values) (length (table values))) made
    pub left : AreOfRecords values both
    pub goes : with_all (fields_by values made) (fields_of_both values both) ≡ merged (fields_by values first) (fields_by values second)

  parts_append : (parts : List Part) (one : Part) → AllOf (IsPart (names values) (length (table values))) parts
      → IsPart (names values) (length (table values)) one → AllOf (IsPart (names values) (length (table values))) (parts ++ one ∷ [])
  parts_append [] one are is = (is, tt)
  parts_append (part ∷ parts) one are is = (are.0, parts_append parts one are.1 is)

  fields_append : (parts : List Part) (one : Part) (rest : Fields)
      → with_all (fields_by values (parts ++ one ∷ [])) rest ≡ with_all (fields_by values parts) (Field (label_of one) (value_of one) rest)
  fields_append [] one rest = refl
  fields_append (part ∷ parts) one rest = ap (Field (label_of part) (value_of part)) (fields_append parts one rest)

  pub merges_on : (first second made more : List Part) (both : Both) (next : Part × Both) → IsMerging first second made both
      → IsNext values both next → more ≡ made ++ next.0 ∷ [] → IsMerging first second more next.1
  merges_on first second made more both next so_far is pushed = subst (λ made. IsMerging first second made next.1) (sym pushed) record {
    parts_are = parts_append made next.0 so_far.parts_are is.is;
    left = is.rest;
    goes = fields_append made next.0 (fields_of_both values next.1) ∙ ap (with_all (fields_by values made)) (sym is.fields) ∙ so_far.goes;
  }

  all_of : (fields : Fields) → with_all fields NoField ≡ fields
  all_of NoField = refl
  all_of (Field label v rest) = ap (Field label v) (all_of rest)

  pub all_merged : (first second made : List Part) (both : Both) → IsMerging first second made both → fields_of_both values both ≡ NoField
      → fields_by values made ≡ merged (fields_by values first) (fields_by values second)
  all_merged first second made both so_far none =
      sym (all_of (fields_by values made)) ∙ ap (with_all (fields_by values made)) (sym none) ∙ so_far.goes

  pub of_merged : (first second made : List Part) (both : Both) → AreOfRecord values first → AreOfRecord values second
      → IsMerging first second made both → fields_of_both values both ≡ NoField → AreOfRecord values made
  of_merged first second made both of of_too so_far none = record {
    parts_are = so_far.parts_are;
    rise = subst (LabelsRise None) (sym (all_merged first second made both so_far none))
        (merged_rises None (fields_by values first) (fields_by values second) of.rise of_too.rise);
  }
