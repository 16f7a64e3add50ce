-- The fields of two records whose labels rise, from the first one.
use Rattle.std.proofs.Common.{◌≡◌, ◌∙◌, refl, sym, ap, subst, Option, Some, None}
use Rattle.std.specs.Ordering.{nat_cmp, is_eq, ordering_reverse}
use Rattle.std.specs.Cmp.Lexicographic.{slice_cmp}
use Rattle.std.specs.declared.cmp.Ordering.{Ordering}
use Rattle.std.specs.declared.cmp.Ordering.TheVariants.{Less, Equal, Greater}
use Rattle.std.proofs.lemmas.Cmp.{nat_list_cmp_total}
use Rattle.std.proofs.lemmas.Map.Text.{is_eq-slice_cmp}
use Rattle.std.proofs.lemmas.Slice.Eq.{bytes_eq-Decides}
use Rattle.cd_syntax.specs.Name.{Name, IsAbove}
use Rattle.cd_model.specs.Thing.{Thing, Fields, NoField, Field, LabelsRise}
use Rattle.cd_evaluation.specs.RecordFields.{placed, put, merged}

abbrev pub order : Name → Name → Ordering
order one other = slice_cmp nat_cmp one other

pub turned : (one other : Name) → order one other ≡ Greater → order other one ≡ Less
turned one other is = nat_list_cmp_total.antisymm other one ∙ ap ordering_reverse is

turned_back : (one other : Name) → order one other ≡ Less → order other one ≡ Greater
turned_back one other is = nat_list_cmp_total.antisymm other one ∙ ap ordering_reverse is

pub same_names : (one other : Name) → order one other ≡ Equal → one ≡ other
same_names one other is = (bytes_eq-Decides one other).0 (sym (is_eq-slice_cmp one other) ∙ ap is_eq is)

-- what is above a label is above each one that is below it
above_both : (before : Option Name) (one other : Name) → IsAbove before one → order one other ≡ Less → IsAbove before other
above_both None one other above less = tt
above_both (Some before) one other above less = nat_list_cmp_total.trans before one other above less

pub rise_before : (before : Option Name) (label : Name) (fields : Fields) → IsAbove before label → LabelsRise (Some label) fields
    → LabelsRise before fields
rise_before before label NoField above rise = tt
rise_before before label (Field other v rest) above rise = (above_both before label other above rise.0, rise.1)

-- a field is put before others, after one, or in the place of one
put_before : (label : Name) (v : Thing) (fields : Fields) → LabelsRise (Some label) fields → put label v fields ≡ Field label v fields
put_before label v NoField rise = refl
put_before label v (Field other w rest) rise = ap (λ is. placed is label v other w rest (put label v rest)) rise.0

put_after : (label : Name) (v : Thing) (other : Name) (w : Thing) (rest : Fields) → order other label ≡ Less
    → put label v (Field other w rest) ≡ Field other w (put label v rest)
put_after label v other w rest less =
    ap (λ is. placed is label v other w rest (put label v rest)) (turned_back other label less)

put_over : (label : Name) (v : Thing) (other : Name) (w : Thing) (rest : Fields) → order label other ≡ Equal
    → put label v (Field other w rest) ≡ Field label v rest
put_over label v other w rest same = ap (λ is. placed is label v other w rest (put label v rest)) same

put_rises : (before : Option Name) (label : Name) (v : Thing) (fields : Fields) → IsAbove before label → LabelsRise before fields
    → LabelsRise before (put label v fields)
put_rises before label v NoField above rise = (above, tt)
put_rises before label v (Field other w rest) above rise =
    by_order (order label other) refl (λ less. put_rises (Some other) label v rest less rise.1)
  where
    by_order : (is : Ordering) → order label other ≡ is → (order other label ≡ Less → LabelsRise (Some other) (put label v rest))
        → LabelsRise before (placed is label v other w rest (put label v rest))
    by_order Less is later = (above, (is, rise.1))
    by_order Equal is later = (above, subst (λ name. LabelsRise (Some name) rest) (sym (same_names label other is)) rise.1)
    by_order Greater is later = (rise.0, later (turned label other is))

pub merged_rises : (before : Option Name) (first second : Fields) → LabelsRise before first → LabelsRise before second
    → LabelsRise before (merged first second)
merged_rises before first NoField rise rise_too = rise
merged_rises before first (Field label v rest) rise rise_too =
    put_rises before label v (merged first rest) rise_too.0
    (merged_rises before first rest rise (rise_before before label rest rise_too.0 rise_too.1))

-- nothing is left of the first record
pub merged_none : (before : Option Name) (fields : Fields) → LabelsRise before fields → merged NoField fields ≡ fields
merged_none before NoField rise = refl
merged_none before (Field label v rest) rise =
    ap (put label v) (merged_none (Some label) rest rise.1) ∙ put_before label v rest rise.1

-- the first field is that of the second record, that of the first one, or of both
pub merged_second : (label : Name) (v : Thing) (first rest : Fields) → LabelsRise (Some label) first → LabelsRise (Some label) rest
    → merged first (Field label v rest) ≡ Field label v (merged first rest)
merged_second label v first rest rise rise_too =
    put_before label v (merged first rest) (merged_rises (Some label) first rest rise rise_too)

pub merged_first : (label : Name) (v : Thing) (rest second : Fields) → LabelsRise (Some label) second
    → merged (Field label v rest) second ≡ Field label v (merged rest second)
merged_first label v rest NoField rise = refl
merged_first label v rest (Field other w others) rise =
    ap (put other w) (merged_first label v rest others (rise_before (Some label) other others rise.0 rise.1))
    ∙ put_after other w label v (merged rest others) rise.0

pub merged_over : (label : Name) (v : Thing) (other : Name) (w : Thing) (rest others : Fields) → order other label ≡ Equal
    → LabelsRise (Some other) others → merged (Field label v rest) (Field other w others) ≡ Field other w (merged rest others)
merged_over label v other w rest others same rise =
    let above : LabelsRise (Some label) others = subst (λ name. LabelsRise (Some name) others) (same_names other label same) rise in
    ap (put other w) (merged_first label v rest others above) ∙ put_over other w label v (merged rest others) same
