-- The labels of record types are listed once each.
use Rattle.std.proofs.Common.{◌≡◌, Bool, true, false, ◌||◌, List, [], ◌∷◌, ◌++◌, map, if◌then◌else◌, bytes_eq, inl, inr, ◌⊎◌, refl, sym, ◌∙◌}
use Rattle.std.proofs.lemmas.Bool.{true≢false}
use Rattle.std.proofs.lemmas.Slice.Eq.{bytes_eq-Decides}
use Rattle.std.specs.List.{list_any}
use Rattle.cd_syntax.specs.Name.{Name}
use Rattle.cd_model.specs.AllOf.{AnyOf}
use Rattle.cd_rules.specs.Clauses.{RecordType}
use Rattle.cd_rules.specs.Rows.{with_label, labels_after, labels_of}
use Rattle.cd_model.proofs.Ones.{one_on_a_side}

-- a label is one of these
abbrev pub IsOne : List Name → Name → Type 0
IsOne labels label = AnyOf (λ other. other ≡ label) labels

-- each of these stands once
abbrev pub AreOnce : List Name → Type 0
AreOnce [] = Unit {0}
AreOnce (label ∷ labels) = (IsOne labels label → ⊥) × AreOnce labels

-- labels that stand once on each of two sides, and none on both, stand once on both together
pub both_once : (some others : List Name) → AreOnce some → AreOnce others
    → ((label : Name) → IsOne some label → IsOne others label → ⊥) → AreOnce (some ++ others)
both_once [] others once other_once apart = other_once
both_once (label ∷ some) others once other_once apart =
    (nowhere, both_once some others once.1 other_once (λ name here there. apart name (inr here) there))
  where
    on_no_side : IsOne some label ⊎ IsOne others label → ⊥
    on_no_side (inl here) = once.0 here
    on_no_side (inr there) = apart label (inl refl) there

    nowhere : IsOne (some ++ others) label → ⊥
    nowhere one = on_no_side (one_on_a_side (λ other. other ≡ label) some others one)

-- a label that is found nowhere is none of these
none_found : (label : Name) (labels : List Name) → list_any (bytes_eq label) labels ≡ false → IsOne labels label → ⊥
none_found label [] none one = elim one [ ]
none_found label (other ∷ labels) none one = by_first (bytes_eq label other) refl none one (none_found label labels)
  where
    by_first : (same : Bool) → bytes_eq label other ≡ same → (same || list_any (bytes_eq label) labels) ≡ false
        → IsOne (other ∷ labels) label → (list_any (bytes_eq label) labels ≡ false → IsOne labels label → ⊥) → ⊥
    by_first true same none one rest = true≢false none
    by_first false same none (inl here) rest =
        true≢false (sym ((bytes_eq-Decides label other).1 (sym here)) ∙ same)
    by_first false same none (inr later) rest = rest none later

with_once : (label : Name) (labels : List Name) → AreOnce labels → AreOnce (with_label label labels)
with_once label labels once = by_any (list_any (bytes_eq label) labels) refl
  where
    by_any : (any : Bool) → list_any (bytes_eq label) labels ≡ any → AreOnce (if any then labels else label ∷ labels)
    by_any true is = once
    by_any false is = (none_found label labels is, once)

after_once : (these labels : List Name) → AreOnce labels → AreOnce (labels_after these labels)
after_once [] labels once = once
after_once (label ∷ these) labels once = with_once label (labels_after these labels) (after_once these labels once)

pub labels_once : (types : List RecordType) → AreOnce (labels_of types)
labels_once [] = tt
labels_once (type ∷ types) = after_once (map (λ field. field.0) type.named) (labels_of types) (labels_once types)
