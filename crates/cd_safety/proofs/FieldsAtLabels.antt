-- What records have at each label after fields were put, merged and taken away.
use Rattle.std.proofs.Common.{◌≡◌, ◌∙◌, Bool, true, false, Option, Some, None, refl, sym, ap, subst, inl, inr, bytes_eq, if◌then◌else◌}
use Rattle.std.specs.Cmp.Lexicographic.{slice_cmp}
use Rattle.std.specs.Ordering.{nat_cmp, is_eq, ordering_reverse}
use Rattle.std.specs.declared.cmp.Ordering.{Ordering}
use Rattle.std.specs.declared.cmp.Ordering.TheVariants.{Less, Equal, Greater}
use Rattle.std.proofs.lemmas.Bool.{cases_Bool}
use Rattle.std.proofs.lemmas.Cmp.{nat_list_cmp_total}
use Rattle.std.proofs.lemmas.Map.Text.{is_eq-slice_cmp}
use Rattle.std.proofs.lemmas.Slice.Eq.{bytes_eq-Decides}
use Rattle.cd_syntax.specs.Name.{Name}
use Rattle.cd_model.specs.Thing.{Thing, Fields, NoField, Field, LabelsRise}
use Rattle.cd_rules.specs.InRow.{thing_at}
use Rattle.cd_meaning.specs.Records.{merged_at, IsWithout}
use Rattle.cd_evaluation.specs.RecordFields.{placed, put, merged, without}
use Rattle.cd_safety.proofs.RecordsGood.{same_label}

-- where one name is the label, another label is not the name
differ : (label other name : Name) → bytes_eq label other ≡ false → bytes_eq other name ≡ true → bytes_eq label name ≡ false
differ label other name apart same = subst (λ one. bytes_eq label one ≡ false) ((bytes_eq-Decides other name).0 same) apart

pub put_at : (label : Name) (v : Thing) (fields : Fields) (name : Name)
    → thing_at (put label v fields) name ≡ (if bytes_eq label name then Some v else thing_at fields name)
put_at label v NoField name = refl
put_at label v (Field other w rest) name = by_order (slice_cmp nat_cmp label other) refl (put_at label v rest name)
  where
    At : Fields → Type 0
    At fields = thing_at fields name
        ≡ (if bytes_eq label name then Some v else (if bytes_eq other name then Some w else thing_at rest name))

    in_place : label ≡ other → At (Field label v rest)
    in_place same = elim (cases_Bool (bytes_eq label name)) [
      | inl found ↦ rw found refl
      | inr apart ↦ rw apart (rw (subst (λ one. bytes_eq one name ≡ false) same apart) refl)
    ]

    after : bytes_eq label other ≡ false
        → thing_at (put label v rest) name ≡ (if bytes_eq label name then Some v else thing_at rest name)
        → At (Field other w (put label v rest))
    after apart later = elim (cases_Bool (bytes_eq other name)) [
      | inl found ↦ rw found (rw (differ label other name apart found) refl)
      | inr none ↦ rw none later
    ]

    by_order : (order : Ordering) → slice_cmp nat_cmp label other ≡ order
        → thing_at (put label v rest) name ≡ (if bytes_eq label name then Some v else thing_at rest name)
        → At (placed order label v other w rest (put label v rest))
    by_order Less is later = refl
    by_order Equal is later = in_place (same_label label other is)
    by_order Greater is later = after (sym (is_eq-slice_cmp label other) ∙ ap is_eq is) later

pub merged_is : (fields others : Fields) (name : Name)
    → merged_at (thing_at fields name) (thing_at others name) ≡ thing_at (merged fields others) name
merged_is fields NoField name = refl
merged_is fields (Field label v rest) name =
    by_test (bytes_eq label name) (merged_is fields rest name) ∙ sym (put_at label v (merged fields rest) name)
  where
    by_test : (same : Bool) → merged_at (thing_at fields name) (thing_at rest name) ≡ thing_at (merged fields rest) name
        → merged_at (thing_at fields name) (if same then Some v else thing_at rest name)
        ≡ (if same then Some v else thing_at (merged fields rest) name)
    by_test true later = refl
    by_test false later = later

-- no label above this one is the name
abbrev IsPassed : (name before : Name) → Type 0
IsPassed name before = (label : Name) → slice_cmp nat_cmp before label ≡ Less → bytes_eq label name ≡ false

passed_itself : (name : Name) → IsPassed name name
passed_itself name = λ label above.
    sym (is_eq-slice_cmp label name) ∙ ap is_eq (nat_list_cmp_total.antisymm label name ∙ ap ordering_reverse above)

nothing_passed : (fields : Fields) (name before : Name) → IsPassed name before → LabelsRise (Some before) fields
    → thing_at fields name ≡ None
nothing_passed NoField name before passed rise = refl
nothing_passed (Field label v rest) name before passed rise =
    rw (passed label rise.0) (nothing_passed rest name label
    (λ other higher. passed other (nat_list_cmp_total.trans before label other rise.0 higher)) rise.1)

pub without_is : (label : Name) (before : Option Name) (fields : Fields) → LabelsRise before fields
    → IsWithout label fields (without label fields)
without_is label before NoField rise = λ name. by_test (bytes_eq label name)
  where
    by_test : (same : Bool) → thing_at NoField label ≡ (if same then None else None)
    by_test true = refl
    by_test false = refl
without_is label before (Field other v rest) rise = λ name.
    by_test name (bytes_eq other label) refl (without_is label (Some other) rest rise.1 name)
  where
    At : Name → Fields → Type 0
    At name fields = thing_at fields name
        ≡ (if bytes_eq label name then None else (if bytes_eq other name then Some v else thing_at rest name))

    gone : (name : Name) → other ≡ label → At name rest
    gone name same = elim (cases_Bool (bytes_eq label name)) [
      | inl found ↦ rw found (nothing_passed rest name other (subst (λ one. IsPassed one other)
          (same ∙ (bytes_eq-Decides label name).0 found) (passed_itself other)) rise.1)
      | inr apart ↦ rw apart (rw (subst (λ one. bytes_eq one name ≡ false) (sym same) apart) refl)
    ]

    kept : (name : Name) → bytes_eq other label ≡ false
        → thing_at (without label rest) name ≡ (if bytes_eq label name then None else thing_at rest name)
        → At name (Field other v (without label rest))
    kept name apart later = elim (cases_Bool (bytes_eq label name)) [
      | inl found ↦ rw found (rw (differ other label name apart found) (rw_first later found))
      | inr none ↦ rw none (same_rest (bytes_eq other name) (rw_second later none))
    ]
      where
        rw_first : thing_at (without label rest) name ≡ (if bytes_eq label name then None else thing_at rest name)
            → bytes_eq label name ≡ true → thing_at (without label rest) name ≡ None
        rw_first later found = later ∙ rw found refl

        rw_second : thing_at (without label rest) name ≡ (if bytes_eq label name then None else thing_at rest name)
            → bytes_eq label name ≡ false → thing_at (without label rest) name ≡ thing_at rest name
        rw_second later none = later ∙ rw none refl

        same_rest : (same : Bool) → thing_at (without label rest) name ≡ thing_at rest name
            → (if same then Some v else thing_at (without label rest) name) ≡ (if same then Some v else thing_at rest name)
        same_rest true later = refl
        same_rest false later = later

    by_test : (name : Name) (same : Bool) → bytes_eq other label ≡ same
        → thing_at (without label rest) name ≡ (if bytes_eq label name then None else thing_at rest name)
        → At name (if same then rest else Field other v (without label rest))
    by_test name true is later = gone name ((bytes_eq-Decides other label).0 is)
    by_test name false is later = kept name is later
