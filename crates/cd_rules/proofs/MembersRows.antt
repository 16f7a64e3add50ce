-- Fields that fit the cells of a row, and have an element for each of its other questions, are in each wanted type and
-- outside each refused one.
use Rattle.std.proofs.Common.{◌≡◌, ◌<◌, Bool, true, false, not, List, [], ◌∷◌, ◌++◌, map, length}
use Rattle.std.proofs.Common.{Option, Some, None, ◌⊎◌, inl, inr, refl, sym, ◌∙◌, subst, arith}
use Rattle.std.specs.List.{list_all}
use Rattle.cd_syntax.specs.Name.{Name}
use Rattle.cd_model.specs.Thing.{Thing, Fields}
use Rattle.cd_model.specs.AllOf.{AllOf}
use Rattle.cd_model.specs.Formula as formula
use Rattle.cd_model.specs.Formula.{Graph, Field}
use Rattle.cd_model.specs.Membership.{answers, asked, labelled, record_reader}
use Rattle.cd_model.proofs.Labels.{IsOneOf}
use Rattle.cd_rules.specs.Clauses.{RecordType}
use Rattle.cd_rules.specs.Needs.{question}
use Rattle.cd_rules.specs.Rows.{Reasons, field_at, labels_of, types_at, types_elsewhere, cell_at}
use Rattle.cd_rules.proofs.InCells.{both_hold, each_passes}
use Rattle.cd_rules.proofs.Asking.{each_of_map}
use Rattle.cd_model.proofs.Ones.{each_weaker}
use Rattle.cd_rules.proofs.PairsBack.{both_of_each, parts_of_asked}
use Rattle.cd_rules.proofs.LabelsNamed.{free_field, IsUnnamed, named_or_unnamed, unnamed_parts}
use Rattle.cd_rules.proofs.FreshLabels.{longest, no_longer}
use Rattle.cd_rules.proofs.MembersFields.{found, has, labelled_as_found}
use Rattle.cd_rules.proofs.MembersReasons.{IsKnown, ByReason, by_reasons}
use Rattle.cd_rules.proofs.MembersCells.{FitsCell, AtLabel, FitCells, IsMore, HasIts, HaveMore}

-- what each of a list is at each place, each of it is at all places
each_everywhere : {X L : Type 0} (Is : L → X → Type 0) (xs : List X) → ((place : L) → AllOf (Is place) xs)
    → AllOf (λ x. (place : L) → Is place x) xs
each_everywhere Is [] each = tt
each_everywhere Is (x ∷ xs) each =
    (λ place. (each place).0, each_everywhere Is xs (λ place. (each place).1))

-- a test that fails
is_not : (b : Bool) → not b ≡ true → b ≡ false
is_not true is = absurd cc
is_not false is = refl

module _ (graph : Graph) (wanted : List RecordType) where
  -- an element is in each wanted rest
  abbrev pub InRests : Thing → Type 0
  InRests is = AllOf (λ type. answers graph is type.rest true) wanted

  -- nothing is right at a label that no type names, and so is what is in each wanted rest
  abbrev pub IsFree : Option Thing → Type 0
  IsFree None = Unit {0}
  IsFree (Some is) = InRests is

  -- it is as each wanted type says of such a label
  as_rest : (label : Name) (there : Option Thing) → IsUnnamed wanted label → IsFree there
      → AllOf (λ type. has graph there (field_at type label) true) wanted
  as_rest label None unnamed free = each_weaker (λ (type : RecordType). field_at type label ≡ free_field type)
      (λ type. has graph None (field_at type label) true)
      (λ type same. subst (λ (field : Field). has graph None field true) (sym same) refl) wanted unnamed
  as_rest label (Some is) unnamed inside = each_weaker
      (λ (type : RecordType). (field_at type label ≡ free_field type) × answers graph is type.rest true)
      (λ type. has graph (Some is) (field_at type label) true)
      (λ type both. subst (λ (field : Field). has graph (Some is) field true) (sym both.0) both.1) wanted
      (both_of_each (λ (type : RecordType). field_at type label ≡ free_field type)
      (λ type. answers graph is type.rest true) wanted unnamed inside)

  -- an element is in each wanted rest and outside this one
  abbrev pub HasRest : RecordType → Thing → Type 0
  HasRest type is = asked (answers graph is) (question (map (λ type. type.rest) wanted) (type.rest ∷ [])) true

  -- so it has both
  of_rest : (type : RecordType) (is : Thing) → HasRest type is → InRests is × answers graph is type.rest false
  of_rest type is asked_so =
      let both = parts_of_asked (answers graph is) (λ (type : RecordType). type.rest) wanted (type ∷ []) asked_so in
      (both.0, both.1.0)

  pub in_rests : (type : RecordType) (is : Thing) → HasRest type is → InRests is
  in_rests type is asked_so = (of_rest type is asked_so).0

module _ (graph : Graph) (wanted : List RecordType) (reasons : Reasons) where
  -- what fits a cell is as each wanted type says of the label, and outside what the types say that are refused there
  as_cell : (label : Name) (there : Option Thing) → FitsCell graph (cell_at wanted reasons label) there
      → AllOf (λ type. has graph there (field_at type label) true) wanted
      × AllOf (λ type. has graph there (field_at type label) false) (types_at label reasons)
  as_cell label None free =
      let types = types_at label reasons in
      let both = both_hold (list_all (λ type. (field_at type label).optional) wanted)
      (list_all (λ type. not (field_at type label).optional) types) free in (
        each_passes (λ (type : RecordType). (field_at type label).optional) wanted both.0,
        each_weaker (λ (type : RecordType). not (field_at type label).optional ≡ true)
            (λ type. (field_at type label).optional ≡ false) (λ type is. is_not (field_at type label).optional is) types
            (each_passes (λ (type : RecordType). not (field_at type label).optional) types both.1),
      )
  as_cell label (Some is) asked_so = parts_of_asked (answers graph is) (λ (type : RecordType). (field_at type label).type)
      wanted (types_at label reasons) asked_so

  module _ (refused : List RecordType) (base : FitCells graph (cell_at wanted reasons) (labels_of (wanted ++ refused)))
      (more : HaveMore (InRests graph wanted) (HasRest graph wanted) (in_rests graph wanted) base.0 base.1 base.2
      (longest (labels_of (wanted ++ refused))) (types_elsewhere reasons)) where
    abbrev labels : List Name
    labels = labels_of (wanted ++ refused)

    abbrev fields : Fields
    fields = more.0

    -- a longer label than all that are named is none of them
    too_long : (label : Name) → longest labels < length label → IsOneOf labels label → ⊥
    too_long label long one = let short = no_longer labels label one in omega arith

    -- at a label that is named the record has what fits its cell
    at_named : (label : Name) → IsOneOf labels label → FitsCell graph (cell_at wanted reasons label) (found fields label)
    at_named label one = by_both (base.3 label) (more.3 label)
      where
        by_both : AtLabel graph (cell_at wanted reasons) labels base.0 label
            → IsMore (InRests graph wanted) (HasRest graph wanted) (in_rests graph wanted) base.0 base.1 base.2
            (longest labels) fields label
            → FitsCell graph (cell_at wanted reasons label) (found fields label)
        by_both (inr (other, none)) at = absurd (other one)
        by_both (inl (is, fits)) (inl same) =
            subst (λ (at : Option Thing). FitsCell graph (cell_at wanted reasons label) at) (sym same) fits
        by_both (inl (is, fits)) (inr (long, it)) = absurd (too_long label long is)

    -- a label that is none of those that are named is named by no type
    unnamed_by_all : (label : Name) → (IsOneOf labels label → ⊥) → IsUnnamed wanted label × IsUnnamed refused label
    unnamed_by_all label other = by_name (named_or_unnamed (wanted ++ refused) label)
      where
        by_name : IsOneOf labels label ⊎ IsUnnamed (wanted ++ refused) label
            → IsUnnamed wanted label × IsUnnamed refused label
        by_name (inl one) = absurd (other one)
        by_name (inr unnamed) = unnamed_parts wanted refused label unnamed

    -- at such a label the record has nothing, or an element that is in each wanted rest
    at_unnamed : (label : Name) → found base.0 label ≡ None → IsFree graph wanted (found fields label)
    at_unnamed label none = by_more (more.3 label)
      where
        by_more : IsMore (InRests graph wanted) (HasRest graph wanted) (in_rests graph wanted) base.0 base.1 base.2
            (longest labels) fields label → IsFree graph wanted (found fields label)
        by_more (inl same) = subst (IsFree graph wanted) (sym (same ∙ none)) tt
        by_more (inr (long, (is, there, inside))) = subst (IsFree graph wanted) (sym there) inside

    -- so the record is as each wanted type says of each label
    wanted_at : (label : Name) → AllOf (λ type. labelled graph fields label (field_at type label) true) wanted
    wanted_at label = each_weaker (λ (type : RecordType). has graph (found fields label) (field_at type label) true)
        (λ type. labelled graph fields label (field_at type label) true)
        (λ type is. labelled_as_found graph fields label (field_at type label) true is) wanted (by_base (base.3 label))
      where
        by_base : AtLabel graph (cell_at wanted reasons) labels base.0 label
            → AllOf (λ type. has graph (found fields label) (field_at type label) true) wanted
        by_base (inl (one, fits)) = (as_cell label (found fields label) (at_named label one)).0
        by_base (inr (other, none)) =
            as_rest graph wanted label (found fields label) (unnamed_by_all label other).0 (at_unnamed label none)

    -- and is in each wanted type
    pub in_wanted : AllOf (λ type. record_reader (labelled graph fields) (formula.Record type.named type.rest) true) wanted
    in_wanted = each_everywhere
        (λ (label : Name) (type : RecordType). labelled graph fields label (field_at type label) true) wanted wanted_at

    -- the record is outside a type at a label, or at one that is not named it is outside the type's rest
    abbrev IsOutAt : Name → RecordType → Type 0
    IsOutAt label type = labelled graph fields label (field_at type label) false

    abbrev IsOutElsewhere : RecordType → Type 0
    IsOutElsewhere type =
        (label : Name) × ((IsOneOf labels label → ⊥) × labelled graph fields label (free_field type) false)

    abbrev IsOut : RecordType → Type 0
    IsOut type = ((label : Name) × IsOutAt label type) ⊎ IsOutElsewhere type

    -- it is so at each label that is named, for the types that are refused there
    refused_at : (label : Name) → IsOneOf labels label → AllOf (IsOutAt label) (types_at label reasons)
    refused_at label one = each_weaker (λ (type : RecordType). has graph (found fields label) (field_at type label) false)
        (IsOutAt label) (λ type is. labelled_as_found graph fields label (field_at type label) false is)
        (types_at label reasons) (as_cell label (found fields label) (at_named label one)).1

    -- and so for the types that are refused at a label that is not named
    refused_elsewhere : AllOf IsOutElsewhere (types_elsewhere reasons)
    refused_elsewhere = each_weaker
        (HasIts (InRests graph wanted) (HasRest graph wanted) (in_rests graph wanted) base.0 base.1 base.2
        (longest labels) fields)
        IsOutElsewhere elsewhere (types_elsewhere reasons) more.4
      where
        elsewhere : (type : RecordType)
            → HasIts (InRests graph wanted) (HasRest graph wanted) (in_rests graph wanted) base.0 base.1 base.2
            (longest labels) fields type → IsOutElsewhere type
        elsewhere type (label, long, (is, there, asked_so)) =
            let outside = subst (λ (at : Option Thing). has graph at (free_field type) false) (sym there)
            (of_rest graph wanted type is asked_so).1 in
            (label, (too_long label long, labelled_as_found graph fields label (free_field type) false outside))

    -- each type is out by its reason
    out_of : (one : RecordType × Option Name) → ByReason IsOutAt IsOutElsewhere one.0 one.1 → IsOut one.0
    out_of (type, None) is = inr is
    out_of (type, Some label) is = inl (label, is)

    -- a type that is out refuses the record at a label
    refuses : (type : RecordType)
        → ((at : (label : Name) × (IsOneOf labels label → ⊥)) → field_at type at.0 ≡ free_field type) → IsOut type
        → record_reader (labelled graph fields) (formula.Record type.named type.rest) false
    refuses type free (inl is) = is
    refuses type free (inr (label, (other, outside))) =
        (label, subst (λ (field : Field). labelled graph fields label field false) (sym (free (label, other))) outside)

    -- the record is outside each refused type
    pub out_of_refused : AllOf (λ one. IsKnown labels one.1) reasons → map (λ one. one.0) reasons ≡ refused
        → AllOf (λ type. record_reader (labelled graph fields) (formula.Record type.named type.rest) false) refused
    out_of_refused known same = each_weaker
        (λ (type : RecordType). ((at : (label : Name) × (IsOneOf labels label → ⊥)) → field_at type at.0 ≡ free_field type)
        × IsOut type)
        (λ type. record_reader (labelled graph fields) (formula.Record type.named type.rest) false)
        (λ type both. refuses type both.0 both.1) refused
        (both_of_each (λ (type : RecordType). (at : (label : Name) × (IsOneOf labels label → ⊥))
        → field_at type at.0 ≡ free_field type) IsOut refused
        (each_everywhere (λ (at : (label : Name) × (IsOneOf labels label → ⊥)) (type : RecordType).
        field_at type at.0 ≡ free_field type) refused (λ at. (unnamed_by_all at.0 at.1).1))
        (subst (AllOf IsOut) same (each_of_map (λ (one : RecordType × Option Name). one.0) IsOut reasons
        (each_weaker (λ (one : RecordType × Option Name). ByReason IsOutAt IsOutElsewhere one.0 one.1) (λ one. IsOut one.0)
        out_of reasons (by_reasons IsOutAt IsOutElsewhere labels reasons known refused_at refused_elsewhere)))))
