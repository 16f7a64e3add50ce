-- The least of a list of faults is one of them, and none of them comes before it.
use Rattle.std.proofs.Common.{◌≡◌, ◌<◌, ◌≤◌, ◌⊎◌, inl, inr, List, [], ◌∷◌, true, false, Option, Some, None, refl, sym}
use Rattle.std.proofs.Common.{◌∙◌, arith}
use Rattle.std.specs.Bool.{Decides}
use Rattle.std.proofs.lemmas.Bool.{cases_Bool, cases_order, cases_lt}
use Rattle.std.proofs.lemmas.Bool.Decides.{Decides-eqb, Decides-and, Decides-or, Decides-ltb}
use Rattle.std.proofs.lemmas.Option.{same_Some}
use Rattle.cd_resolve.specs.Faults.{Fault, rank, IsBefore, IsReported}
use Rattle.cd_resolve.specs.Least.{goes_before, lesser, least_from}
use Rattle.cd_resolve.proofs.InLists.{IsIn}

goes_before_decides : (one other : Fault) → Decides (goes_before one other)
    ((one.at < other.at) ⊎ ((one.at ≡ other.at) × (rank one.fault < rank other.fault)))
goes_before_decides one other = Decides-or _ _ (Decides-ltb one.at other.at)
    (Decides-and _ _ (Decides-eqb one.at other.at) (Decides-ltb (rank one.fault) (rank other.fault)))

before_itself : (one : Fault) → IsBefore one one
before_itself one = inr (refl, omega arith)

pub before_on : (one middle other : Fault) → IsBefore one middle → IsBefore middle other → IsBefore one other
before_on one middle other (inl less) (inl more) = inl (omega arith)
before_on one middle other (inl less) (inr equal) = let at = equal.0 in inl (omega arith)
before_on one middle other (inr equal) (inl more) = let at = equal.0 in inl (omega arith)
before_on one middle other (inr equal) (inr equal_too) = inr
    (equal.0 ∙ equal_too.0, (let first = equal.1 in let second = equal_too.1 in omega arith))

pub is_before : (one other : Fault) → goes_before one other ≡ true → IsBefore one other
is_before one other is = by ((goes_before_decides one other).0 is)
  where
    by : (one.at < other.at) ⊎ ((one.at ≡ other.at) × (rank one.fault < rank other.fault)) → IsBefore one other
    by (inl less) = inl less
    by (inr equal) = let more = equal.1 in inr (equal.0, omega arith)

pub is_after : (one other : Fault) → goes_before one other ≡ false → IsBefore other one
is_after one other is = by (cases_order one.at other.at)
  where
    never : (one.at < other.at) ⊎ ((one.at ≡ other.at) × (rank one.fault < rank other.fault)) → IsBefore other one
    never before = let some = (goes_before_decides one other).1 before in absurd cc

    by_rank : one.at ≡ other.at → (rank one.fault < rank other.fault) ⊎ (rank other.fault ≤ rank one.fault)
        → IsBefore other one
    by_rank equal (inl less) = never (inr (equal, less))
    by_rank equal (inr most) = inr (sym equal, most)

    by : (one.at ≡ other.at) ⊎ ((one.at < other.at) ⊎ (other.at < one.at)) → IsBefore other one
    by (inl equal) = by_rank equal (cases_lt (rank one.fault) (rank other.fault))
    by (inr (inl less)) = never (inl less)
    by (inr (inr more)) = inl more

record IsLeastOf (start : Option Fault) (rest : List Fault) (one : Fault) : Type 0 where
  is : (start ≡ Some one) ⊎ IsIn one rest
  first_start : (other : Fault) → start ≡ Some other → IsBefore one other
  first : (other : Fault) → IsIn other rest → IsBefore one other

before_equal : (one other : Fault) → one ≡ other → IsBefore one other
before_equal one other equal = rw equal (before_itself other)

in_rest : (middle : Option Fault) (x : Fault) (rest : List Fault) (one : Fault) → middle ≡ Some x
    → (middle ≡ Some one) ⊎ IsIn one rest → IsIn one (x ∷ rest)
in_rest middle x rest one middle_is (inl is) = inl (same_Some one x (sym is ∙ middle_is))
in_rest middle x rest one middle_is (inr is) = inr is

least_taken : (start : Option Fault) (x : Fault) (rest : List Fault) (one : Fault) (middle : Option Fault)
    → middle ≡ Some x → IsLeastOf middle rest one
    → ((other : Fault) → start ≡ Some other → IsBefore x other) → IsLeastOf start (x ∷ rest) one
least_taken start x rest one middle middle_is least before = record {
  is = inr (in_rest middle x rest one middle_is least.is);
  first_start = λ other starts. before_on one x other (least.first_start x middle_is) (before other starts);
  first = λ other there. by other there;
}
  where
    by : (other : Fault) → IsIn other (x ∷ rest) → IsBefore one other
    by other (inl equal) = rw equal (least.first_start x middle_is)
    by other (inr on) = least.first other on

least_kept : (s x : Fault) (rest : List Fault) (one : Fault) (middle : Option Fault) → middle ≡ Some s
    → IsLeastOf middle rest one → IsBefore s x → IsLeastOf (Some s) (x ∷ rest) one
least_kept s x rest one middle middle_is least before = record {
  is = by_is least.is;
  first_start = λ other starts. least.first_start other (middle_is ∙ starts);
  first = λ other there. by other there;
}
  where
    by_is : (middle ≡ Some one) ⊎ IsIn one rest → (Some s ≡ Some one) ⊎ IsIn one (x ∷ rest)
    by_is (inl is) = inl (sym middle_is ∙ is)
    by_is (inr is) = inr (inr is)

    by : (other : Fault) → IsIn other (x ∷ rest) → IsBefore one other
    by other (inl equal) = rw equal (before_on one s x (least.first_start s middle_is) before)
    by other (inr on) = least.first other on

least_is : (rest : List Fault) (start : Option Fault) (one : Fault) → least_from start rest ≡ Some one
    → IsLeastOf start rest one
least_is [] start one is = record {
  is = inl is;
  first_start = λ other starts. before_equal one other (same_Some one other (sym is ∙ starts));
  first = λ other nothing. elim nothing [ ];
}
least_is (x ∷ rest) None one is =
    least_taken None x rest one (Some x) refl (least_is rest (Some x) one is) (λ other none. absurd cc)
least_is (x ∷ rest) (Some s) one is = by (cases_Bool (goes_before x s)) (least_is rest (lesser (Some s) x) one is)
  where
    by : (goes_before x s ≡ true) ⊎ (goes_before x s ≡ false) → IsLeastOf (lesser (Some s) x) rest one
        → IsLeastOf (Some s) (x ∷ rest) one
    by (inl goes) least = least_taken (Some s) x rest one (lesser (Some s) x) (rw goes refl) least
        (λ other starts. rw (same_Some s other starts) at (is_before x s goes))
    by (inr stays) least = least_kept s x rest one (lesser (Some s) x) (rw stays refl) least (is_after x s stays)

some_is_least : (rest : List Fault) (s : Fault) → least_from (Some s) rest ≡ None → ⊥
some_is_least [] s none = absurd cc
some_is_least (x ∷ rest) s none = by (cases_Bool (goes_before x s)) (λ other. some_is_least rest other)
  where
    by : (goes_before x s ≡ true) ⊎ (goes_before x s ≡ false)
        → ((other : Fault) → least_from (Some other) rest ≡ None → ⊥) → ⊥
    by (inl goes) on = on x (rw goes at none)
    by (inr stays) on = on s (rw stays at none)

-- what is reported, where the list has just the faults that are such
pub nothing_reported : (faults : List Fault) (IsSuch : Fault → Type 0) → ((one : Fault) → IsSuch one → IsIn one faults)
    → least_from None faults ≡ None → (one : Fault) → IsSuch one → ⊥
nothing_reported [] IsSuch has none one is = has one is
nothing_reported (first ∷ rest) IsSuch has none one is = some_is_least rest first none

pub least_reported : (faults : List Fault) (IsSuch : Fault → Type 0) → ((one : Fault) → IsIn one faults → IsSuch one)
    → ((one : Fault) → IsSuch one → IsIn one faults)
    → (one : Fault) → least_from None faults ≡ Some one → IsReported IsSuch one
least_reported faults IsSuch are has one is = record {
  is = by least.is;
  first = λ other such. least.first other (has other such);
}
  where
    least : IsLeastOf None faults one
    least = least_is faults None one is

    by : (None ≡ Some one) ⊎ IsIn one faults → IsSuch one
    by (inl never) = absurd cc
    by (inr there) = are one there
