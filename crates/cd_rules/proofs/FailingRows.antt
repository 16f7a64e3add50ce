-- A clause of records is broken where a tree of cases shows that each row has a question that is subsumed.
use Rattle.std.proofs.Common.{◌≡◌, ◌&&◌, ◌++◌, Bool, true, false, not, List, [], ◌∷◌, map, inl, inr, Some, None, refl, sym, subst}
use Rattle.std.proofs.Common.{bytes_eq, if◌then◌else◌}
use Rattle.std.specs.List.{list_all}
use Rattle.std.proofs.lemmas.Slice.Eq.{bytes_eq-Decides}
use Rattle.cd_syntax.specs.Name.{Name}
use Rattle.cd_sets.specs.declared.question.Question.{Question}
use Rattle.cd_model.specs.AllOf.{AllOf, AnyOf}
use Rattle.cd_rules.specs.Clauses.{RecordType, Records}
use Rattle.cd_rules.specs.Fails.{RowsFail, row_seen, row_cases}
use Rattle.cd_rules.specs.Family.{IsSubsumed, RefutesRow, Refutes, AreAmong}
use Rattle.cd_rules.specs.Needs.{question}
use Rattle.cd_rules.specs.Rows.{Reason, Reasons, reasons_of, types_at, types_elsewhere, field_at, cell_at, row_of, labels_of}
use Rattle.cd_rules.proofs.Among.{of_each, one_of_among, each_of_its, each_of_among, among_itself, among_map}
use Rattle.cd_rules.proofs.Asking.{each_of_map}
use Rattle.cd_rules.proofs.Subsumption.{asks_more, subsumes_more}
use Rattle.cd_rules.proofs.InCells.{all_pass, each_passes}
use Rattle.cd_model.proofs.Ones.{picked, each_weaker, one_weaker, one_of_map, map_of_one}
use Rattle.cd_rules.proofs.ReasonsOf.{each_of_reasons, refused_at, refused_elsewhere}

-- a reason of a choice gives its type to its label
at_own : (label : Name) (type : RecordType) (chosen : Reasons) → AnyOf (λ one. one ≡ (type, Some label)) chosen
    → AnyOf (λ other. other ≡ type) (types_at label chosen)
at_own label type [] is = elim is [ ]
at_own label type (one ∷ chosen) (inl same) = subst (λ one. AnyOf (λ other. other ≡ type) (types_at label (one ∷ chosen))) (sym same)
    (subst (λ (test : Bool). AnyOf (λ other. other ≡ type) (if test then type ∷ types_at label chosen else types_at label chosen))
    (sym ((bytes_eq-Decides label label).1 refl)) (inl refl))
at_own label type ((other, None) ∷ chosen) (inr later) = at_own label type chosen later
at_own label type ((other, Some name) ∷ chosen) (inr later) = by_name (bytes_eq name label) (at_own label type chosen later)
  where
    by_name : (test : Bool) → AnyOf (λ one. one ≡ type) (types_at label chosen)
        → AnyOf (λ one. one ≡ type) (if test then other ∷ types_at label chosen else types_at label chosen)
    by_name true later = inr later
    by_name false later = later

elsewhere_own : (type : RecordType) (chosen : Reasons) → AnyOf (λ one. one ≡ (type, None)) chosen
    → AnyOf (λ other. other ≡ type) (types_elsewhere chosen)
elsewhere_own type [] is = elim is [ ]
elsewhere_own type (one ∷ chosen) (inl same) =
    subst (λ one. AnyOf (λ other. other ≡ type) (types_elsewhere (one ∷ chosen))) (sym same) (inl refl)
elsewhere_own type ((other, None) ∷ chosen) (inr later) = inr (elsewhere_own type chosen later)
elsewhere_own type ((other, Some name) ∷ chosen) (inr later) = elsewhere_own type chosen later

module _ (given chosen : Reasons) (among : AreAmong given chosen) where
  abbrev At : Name → RecordType → Type 0
  At label type = AnyOf (λ other. other ≡ type) (types_at label chosen)

  abbrev OtherKinds : RecordType → Type 0
  OtherKinds type = AnyOf (λ other. other ≡ type) (types_elsewhere chosen)

  abbrev Stands : RecordType → Reason → Type 0
  Stands type (Some label) = At label type
  Stands type None = OtherKinds type

  stands : (type : RecordType) (reason : Reason) → AnyOf (λ one. one ≡ (type, reason)) chosen → Stands type reason
  stands type (Some label) is = at_own label type chosen is
  stands type None is = elsewhere_own type chosen is

  each_stands : AllOf (λ one. Stands one.0 one.1) given
  each_stands = each_weaker (λ (one : RecordType × Reason). AnyOf (λ other. other ≡ one) chosen) (λ one. Stands one.0 one.1)
      (λ one is. stands one.0 one.1 is) given among

  pub at_among : (label : Name) → AreAmong (types_at label given) (types_at label chosen)
  at_among label = refused_at At OtherKinds label given each_stands

  pub elsewhere_among : AreAmong (types_elsewhere given) (types_elsewhere chosen)
  elsewhere_among = refused_elsewhere At OtherKinds given each_stands

still_false : (a b c : Bool) → (c ≡ true → b ≡ true) → (a && b) ≡ false → (a && c) ≡ false
still_false false b c back is = refl
still_false true b false back is = refl
still_false true b true back is = absurd (let same = back refl in cc)

module _ (family : List Question) (wanted : List RecordType) where
  abbrev IsRefutedAt : Reasons → Name → Type 0
  IsRefutedAt reasons label = ((cell_at wanted reasons label).absent ≡ false) × IsSubsumed (cell_at wanted reasons label).value family

  cell_on : (given chosen : Reasons) → AreAmong given chosen → (label : Name) → IsRefutedAt given label → IsRefutedAt chosen label
  cell_on given chosen among label is = (
    still_false (list_all (λ type. (field_at type label).optional) wanted)
        (list_all (λ type. not (field_at type label).optional) (types_at label given))
        (list_all (λ type. not (field_at type label).optional) (types_at label chosen))
        (λ all. all_pass (λ type. not (field_at type label).optional) (types_at label given)
        (each_of_among (λ type. not (field_at type label).optional ≡ true) (types_at label given) (types_at label chosen)
        (at_among given chosen among label) (each_passes (λ type. not (field_at type label).optional) (types_at label chosen) all))) is.0,
    subsumes_more family (question (map (λ type. (field_at type label).type) wanted) (map (λ type. (field_at type label).type) (types_at label chosen)))
        (question (map (λ type. (field_at type label).type) wanted) (map (λ type. (field_at type label).type) (types_at label given)))
        (asks_more (map (λ type. (field_at type label).type) wanted) (map (λ type. (field_at type label).type) (types_at label given))
        (map (λ type. (field_at type label).type) wanted) (map (λ type. (field_at type label).type) (types_at label chosen))
        (among_itself (map (λ type. (field_at type label).type) wanted))
        (among_map (λ type. (field_at type label).type) (types_at label given) (types_at label chosen) (at_among given chosen among label))) is.1,
  )

  row_on : (labels : List Name) (given chosen : Reasons) → AreAmong given chosen → RefutesRow family (row_of labels wanted given)
      → RefutesRow family (row_of labels wanted chosen)
  row_on labels given chosen among (inl is) = inl (one_of_map (λ label. (label, cell_at wanted chosen label))
      (λ cell. (cell.1.absent ≡ false) × IsSubsumed cell.1.value family) labels
      (one_weaker (IsRefutedAt given) (IsRefutedAt chosen) (cell_on given chosen among) labels
      (map_of_one (λ label. (label, cell_at wanted given label)) (λ cell. (cell.1.absent ≡ false) × IsSubsumed cell.1.value family) labels is)))
  row_on labels given chosen among (inr is) = inr (one_of_map (λ type. question (map (λ type. type.rest) wanted) (type.rest ∷ []))
      (λ question. IsSubsumed question family) (types_elsewhere chosen)
      (one_of_among (λ type. IsSubsumed (question (map (λ type. type.rest) wanted) (type.rest ∷ [])) family) (types_elsewhere given)
      (types_elsewhere chosen) (elsewhere_among given chosen among)
      (map_of_one (λ type. question (map (λ type. type.rest) wanted) (type.rest ∷ [])) (λ question. IsSubsumed question family)
      (types_elsewhere given) is)))

  -- a choice that has a reason for each refused type has the fact, if it has all reasons that are given
  fails_at : (labels : List Name) (refused : List RecordType) (chosen : Reasons)
      → AllOf (λ type. AnyOf (λ reason. AnyOf (λ one. one ≡ (type, reason)) chosen) (None ∷ map Some labels)) refused
      → (given : Reasons) → RowsFail (λ reasons. RefutesRow family (row_of labels wanted reasons)) labels refused given
      → AreAmong given chosen → RefutesRow family (row_of labels wanted chosen)
  fails_at labels refused chosen each _ (row_seen given is) among = row_on labels given chosen among is
  fails_at labels refused chosen each _ (row_cases given type there trees) among =
      let one = picked (λ reason. AnyOf (λ one. one ≡ (type, reason)) chosen) (None ∷ map Some labels)
      (of_each (λ type. AnyOf (λ reason. AnyOf (λ one. one ≡ (type, reason)) chosen) (None ∷ map Some labels)) refused type each there) in
      fails_at labels refused chosen each ((type, one.0) ∷ given) (trees one.0 one.1) (one.2, among)

  pub records_fail : (refused : List RecordType) → RowsFail (λ reasons. RefutesRow family (row_of (labels_of (wanted ++ refused)) wanted reasons))
      (labels_of (wanted ++ refused)) refused [] → Refutes family (Records wanted refused)
  records_fail refused tree = each_of_map (row_of (labels_of (wanted ++ refused)) wanted) (RefutesRow family)
      (reasons_of (labels_of (wanted ++ refused)) refused)
      (each_of_its (λ reasons. RefutesRow family (row_of (labels_of (wanted ++ refused)) wanted reasons))
      (reasons_of (labels_of (wanted ++ refused)) refused)
      (λ chosen is. fails_at (labels_of (wanted ++ refused)) refused chosen
      (each_of_reasons (λ type reason. AnyOf (λ one. one ≡ (type, reason)) chosen) (labels_of (wanted ++ refused)) refused
      (one_weaker (λ other. other ≡ chosen) (λ other. AllOf (λ one. AnyOf (λ in_it. in_it ≡ one) chosen) other)
      (λ other same. subst (λ other. AllOf (λ one. AnyOf (λ in_it. in_it ≡ one) chosen) other) (sym same) (among_itself chosen))
      (reasons_of (labels_of (wanted ++ refused)) refused) is)) [] tree tt))
