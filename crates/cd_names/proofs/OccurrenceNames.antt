-- The names that stand among occurrences.
use Rattle.std.proofs.Common.{◌≡◌, ◌≢◌, Bool, true, false, ◌||◌, List, [], ◌∷◌, ◌++◌, ◌⊎◌, inl, inr}
use Rattle.std.proofs.Common.{refl, sym, ap, ◌∙◌, bytes_eq}
use Rattle.std.proofs.lemmas.Bool.{true≢false, or_cases, false_from_ne_true}
use Rattle.std.proofs.lemmas.List.Folds.{list_any-append}
use Rattle.std.proofs.lemmas.Slice.Eq.{bytes_eq-Decides}
use Rattle.cd_syntax.specs.Name.{Name}
use Rattle.cd_model.specs.AllOf.{AnyOf}
use Rattle.cd_variables.specs.Occurrences.{Occurrence, has}
use Rattle.cd_variables.specs.VariableFaults.{IsAmong, Differ, StandsAgain}

pub has_both : (ones others : List Occurrence) (name : Name)
    → has (ones ++ others) name ≡ (has ones name || has others name)
has_both ones others name = list_any-append (λ (o : Occurrence). bytes_eq o.name name) ones others

pub name_is : (one other : Name) → bytes_eq one other ≡ true → one ≡ other
name_is one other h = (bytes_eq-Decides one other).0 h

pub is_name : (name : Name) → bytes_eq name name ≡ true
is_name name = (bytes_eq-Decides name name).1 refl

-- an occurrence of a name that stands among these
record Named (all : List Occurrence) (name : Name) : Type 0 where
  o : Occurrence
  among : IsAmong o all
  is : o.name ≡ name

occurrence_of : (all : List Occurrence) (name : Name) → has all name ≡ true → Named all name
occurrence_of [] name h = absurd (true≢false (sym h))
occurrence_of (first ∷ rest) name h =
    by_side (or_cases (bytes_eq first.name name) (has rest name) h) (occurrence_of rest name)
  where
    by_side : (bytes_eq first.name name ≡ true) ⊎ (has rest name ≡ true)
        → (has rest name ≡ true → Named rest name) → Named (first ∷ rest) name
    by_side (inl here) later =
        record { o = first; among = inl refl; is = name_is first.name name here }
    by_side (inr there) later = let found = later there in
        record { o = found.o; among = inr found.among; is = found.is }

-- where nothing stands
pub nothing_among : (all : List Occurrence) → ((o : Occurrence) → IsAmong o all → ⊥) → all ≡ []
nothing_among [] none = refl
nothing_among (first ∷ rest) none = absurd (none first (inl refl))

pub not_among : (all : List Occurrence) (name : Name)
    → ((o : Occurrence) → IsAmong o all → o.name ≡ name → ⊥) → has all name ≡ false
not_among all name none = false_from_ne_true (has all name)
    (λ (h : has all name ≡ true). let found = occurrence_of all name h in
    none found.o found.among found.is)

-- where two lists do not differ
same_bool : (one other : Bool) → (one ≢ other → ⊥) → one ≡ other
same_bool true true same = refl
same_bool false false same = refl
same_bool true false same = absurd (same true≢false)
same_bool false true same = absurd (same (λ h. true≢false (sym h)))

pub same_names : (ones others : List Occurrence) → (Differ ones others → ⊥) → (name : Name)
    → has ones name ≡ has others name
same_names ones others same name =
    same_bool (has ones name) (has others name) (λ differ. same (name, differ))

-- the occurrences of a row
abbrev pub joined : List (List Occurrence) → List Occurrence
joined [] = []
joined (first ∷ rest) = first ++ joined rest

pub among_both : (ones others : List Occurrence) (o : Occurrence) → IsAmong o (ones ++ others)
    → IsAmong o ones ⊎ IsAmong o others
among_both [] others o h = inr h
among_both (one ∷ ones) others o (inl is) = inl (inl is)
among_both (one ∷ ones) others o (inr later) = elim (among_both ones others o later) [
  | inl left ↦ inl (inr left)
  | inr right ↦ inr right
]

in_row : (row : List (List Occurrence)) (o : Occurrence) → IsAmong o (joined row)
    → AnyOf (IsAmong o) row
in_row [] o h = absurd h
in_row (first ∷ rest) o h = elim (among_both first (joined rest) o h) [
  | inl here ↦ inl here
  | inr later ↦ inr (in_row rest o later)
]

pub row_disjoint : (first : List Occurrence) (rest : List (List Occurrence))
    → ((o : Occurrence) → StandsAgain o (first ∷ rest) → ⊥) → (name : Name)
    → has first name ≡ true → has (joined rest) name ≡ false
row_disjoint first rest once name here = not_among (joined rest) name (λ o among is.
    once o (inl (ap (has first) is ∙ here, in_row rest o among)))
