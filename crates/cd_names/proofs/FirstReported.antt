-- What is reported of two kinds of faults is reported of both.
use Rattle.std.proofs.Common.{◌≡◌, ◌⊎◌, inl, inr, ◌↔◌, List, [], ◌∷◌, sym, true, false, cond, None, Result, Ok}
use Rattle.std.proofs.Common.{Err, OnOk, IfErr}
use Rattle.std.proofs.lemmas.Bool.{cases_Bool}
use Rattle.cd_resolve.specs.Errors.{IsReportedError}
use Rattle.cd_resolve.specs.Faults.{Fault, IsBefore, IsReported}
use Rattle.cd_resolve.specs.declared.error.NameError.{NameError}
use Rattle.cd_resolve.specs.declared.error.NameError.TheVariants as error
use Rattle.cd_variables.specs.VariableFaults.{IsOneIn}
use Rattle.cd_names.specs.Inner.Faults.{Reports}
use Rattle.cd_resolve.specs.Least.{goes_before, least_from, IsLeast, first_error}
use Rattle.cd_resolve.specs.Least.{first_of}
use Rattle.cd_resolve.proofs.InLists.{IsIn}
use Rattle.cd_resolve.proofs.LeastFault.{before_on, is_before, is_after, nothing_reported, least_reported}

reported_same : (A B : Fault → Type 0) → ((f : Fault) → A f ↔ B f) → (one : Fault) → IsReported A one
    → IsReported B one
reported_same A B same one reported = record {
  is = (same one).0 reported.is;
  first = λ other is. reported.first other ((same other).1 is);
}

error_same : (A B : Fault → Type 0) → ((f : Fault) → A f ↔ B f) → (e : NameError) → IsReportedError A e
    → IsReportedError B e
error_same A B same (error.Fault fault name at) reported =
    reported_same A B same (record { fault = fault; name = name; at = at }) reported
error_same A B same error.Memory reported = tt

pub reports_same : (A B : Fault → Type 0) → ((f : Fault) → A f ↔ B f)
    → (result : Result (Unit {0}) NameError)
    → Reports A result → Reports B result
reports_same A B same (Ok done) reported = record {
  sound = λ f is. reported.sound f ((same f).1 is);
  fault = tt;
}
reports_same A B same (Err e) reported = record { sound = tt; fault = error_same A B same e reported.fault }

-- the one that goes before, or does not go after
first_reported : (A B : Fault → Type 0) (one other : Fault) → IsReported A one → IsReported B other
    → IsBefore one other
    → IsReported (λ f. A f ⊎ B f) one
first_reported A B one other reported reported_too before = record { is = inl reported.is; first = λ f is. by f is }
  where
    by : (f : Fault) → A f ⊎ B f → IsBefore one f
    by f (inl is) = reported.first f is
    by f (inr is) = before_on one other f before (reported_too.first f is)

other_reported : (A B : Fault → Type 0) (one other : Fault) → IsReported A one → IsReported B other
    → IsBefore other one
    → IsReported (λ f. A f ⊎ B f) other
other_reported A B one other reported reported_too before =
    record { is = inr reported_too.is; first = λ f is. by f is }
  where
    by : (f : Fault) → A f ⊎ B f → IsBefore other f
    by f (inl is) = before_on other one f before (reported.first f is)
    by f (inr is) = reported_too.first f is

errors_reported : (A B : Fault → Type 0) (one other : NameError) → IsReportedError A one
    → IsReportedError B other
    → IsReportedError (λ f. A f ⊎ B f) (first_error one other)
errors_reported A B error.Memory error.Memory reported reported_too = tt
errors_reported A B error.Memory (error.Fault fault name at) reported reported_too = tt
errors_reported A B (error.Fault fault name at) error.Memory reported reported_too = tt
errors_reported A B (error.Fault fault name at) (error.Fault fault_too name_too at_too) reported reported_too =
    by (cases_Bool (goes_before other one))
  where
    one : Fault
    one = record { fault = fault; name = name; at = at }

    other : Fault
    other = record { fault = fault_too; name = name_too; at = at_too }

    by : (goes_before other one ≡ true) ⊎ (goes_before other one ≡ false)
        → IsReportedError (λ f. A f ⊎ B f) (cond (goes_before other one)
        (error.Fault fault_too name_too at_too) (error.Fault fault name at))
    by (inl goes) = rw goes (other_reported A B one other reported reported_too (is_before other one goes))
    by (inr stays) = rw stays (first_reported A B one other reported reported_too (is_after other one stays))

only_first : (A B : Fault → Type 0) → ((f : Fault) → B f → ⊥) → (f : Fault) → A f ↔ (A f ⊎ B f)
only_first A B none f = (λ is. inl is, λ is. by is)
  where
    by : A f ⊎ B f → A f
    by (inl is) = is
    by (inr is) = absurd (none f is)

only_second : (A B : Fault → Type 0) → ((f : Fault) → A f → ⊥) → (f : Fault) → B f ↔ (A f ⊎ B f)
only_second A B none f = (λ is. inr is, λ is. by is)
  where
    by : A f ⊎ B f → B f
    by (inl is) = absurd (none f is)
    by (inr is) = is

pub both_reported : (A B : Fault → Type 0) (one other : Result (Unit {0}) NameError) → Reports A one
    → Reports B other
    → Reports (λ f. A f ⊎ B f) (first_of one other)
both_reported A B (Ok done) other reported reported_too =
    reports_same B (λ f. A f ⊎ B f) (only_second A B reported.sound) other reported_too
both_reported A B (Err one) (Ok done) reported reported_too =
    reports_same A (λ f. A f ⊎ B f) (only_first A B reported_too.sound) (Err one) reported
both_reported A B (Err one) (Err other) reported reported_too = record {
  sound = tt;
  fault = errors_reported A B one other reported.fault reported_too.fault;
}

-- one of a list, said from either side
one_is_in : (faults : List Fault) (one : Fault) → IsOneIn one faults → IsIn one faults
one_is_in [] one is = is
one_is_in (first ∷ rest) one (inl same) = inl (sym same)
one_is_in (first ∷ rest) one (inr on) = inr (one_is_in rest one on)

in_is_one : (faults : List Fault) (one : Fault) → IsIn one faults → IsOneIn one faults
in_is_one [] one is = is
in_is_one (first ∷ rest) one (inl same) = inl (sym same)
in_is_one (first ∷ rest) one (inr on) = inr (in_is_one rest one on)

-- what the least of a list says
least_error : (faults : List Fault) (e : NameError) → IsLeast (least_from None faults) e
    → IsReportedError (λ f. IsOneIn f faults) e
least_error faults (error.Fault fault name at) least =
    least_reported faults (λ f. IsOneIn f faults) (in_is_one faults) (one_is_in faults)
    (record { fault = fault; name = name; at = at }) least
least_error faults error.Memory least = tt

pub list_reported : (faults : List Fault) (result : Result (Unit {0}) NameError)
    → OnOk result (least_from None faults ≡ None)
    → IfErr result (λ e. IsLeast (least_from None faults) e)
    → Reports (λ f. IsOneIn f faults) result
list_reported faults (Ok done) none least = record {
  sound = nothing_reported faults (λ f. IsOneIn f faults) (one_is_in faults) none;
  fault = tt;
}
list_reported faults (Err e) none least = record { sound = tt; fault = least_error faults e least }
