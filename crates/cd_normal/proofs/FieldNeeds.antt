-- Record types of which one asks for a field.
use Rattle.std.proofs.Common.{◌≡◌, Bool, true, false, not, ◌&&◌, ◌||◌, List, [], ◌∷◌, ◌++◌, map, inl, inr, refl, sym, subst}
use Rattle.std.proofs.lemmas.Bool.{false≢true}
use Rattle.std.specs.List.{list_any}
use Rattle.cd_sets.specs.declared.question.Question.{Question}
use Rattle.cd_syntax.specs.Name.{Name}
use Rattle.cd_model.specs.AllOf.{AllOf, AnyOf}
use Rattle.cd_rules.specs.Clauses.{RecordType}
use Rattle.cd_rules.specs.Needs.{question}
use Rattle.cd_rules.specs.Rows.{field_at}
use Rattle.cd_model.proofs.Ones.{each_of_lists}
use Rattle.cd_normal.specs.Inner.IsNeed.{IsFieldNeed}

one_asks : (label : Name) (types : List RecordType) → list_any (λ type. not (field_at type label).optional) types ≡ true
    → AnyOf (λ type. (field_at type label).optional ≡ false) types
one_asks label [] is = absurd (false≢true is)
one_asks label (type ∷ types) is = by_test (field_at type label).optional refl (one_asks label types) is
  where
    Asks : RecordType → Type 0
    Asks type = (field_at type label).optional ≡ false

    by_test : (optional : Bool) → (field_at type label).optional ≡ optional
        → (list_any (λ type. not (field_at type label).optional) types ≡ true → AnyOf Asks types)
        → (not optional || list_any (λ type. not (field_at type label).optional) types) ≡ true → AnyOf Asks (type ∷ types)
    by_test true same later any = inr (later any)
    by_test false same later any = inl same

-- the first part of a test with two
first_test : (one other : Bool) → (one && other) ≡ true → one ≡ true
first_test true other is = refl
first_test false other is = absurd (false≢true is)

-- the question of a label for which one of them asks is one more of theirs
pub one_more_need : (types : List RecordType) (label : Name) (other : Bool) (need : Question) (some all : List Question)
    → (list_any (λ type. not (field_at type label).optional) types && other) ≡ true
    → need ≡ question (map (λ type. (field_at type label).type) types) [] → all ≡ some ++ need ∷ []
    → AllOf (IsFieldNeed types) some → AllOf (IsFieldNeed types) all
one_more_need types label other need some all asked is put each = subst (AllOf (IsFieldNeed types)) (sym put)
    (each_of_lists (IsFieldNeed types) some (need ∷ []) each
    ((label, one_asks label types (first_test (list_any (λ type. not (field_at type label).optional) types) other asked), sym is), tt))
