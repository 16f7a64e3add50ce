-- What is reported of a type, and of type declarations, is the least of their faults.
use Rattle.std.proofs.Common.{◌≡◌, ℕ, zero, suc, ◌<◌, ◌≤◌, ◌⊎◌, inl, inr, List, [], ◌∷◌, length, Some, None, refl, sym}
use Rattle.std.proofs.Common.{ap, ◌∙◌, arith}
use Rattle.std.specs.List.{slice_get as nth}
use Rattle.std.proofs.lemmas.Option.{same_Some}
use Rattle.cd_syntax.specs.TypeTree.{Tree, Declarations}
use Rattle.cd_resolve.specs.Faults.{Fault, IsFault, IsFaultOfList}
use Rattle.cd_resolve.specs.Errors.{IsReportedError}
use Rattle.cd_resolve.specs.Inner.Finding.{ScopeLevels, State, entered, found_in}
use Rattle.cd_resolve.specs.Least.{least_from}
use Rattle.cd_resolve.specs.Inner.Check.{found_in_type, found_in_declarations, all_faults}
use Rattle.cd_resolve.specs.Least.{IsLeast}
use Rattle.cd_resolve.specs.declared.error.NameError.{NameError}
use Rattle.cd_resolve.specs.declared.error.NameError.TheVariants as error
use Rattle.cd_resolve.proofs.Rich.{whole, lean, lean_walked, lean_list}
use Rattle.cd_resolve.proofs.FoundGrows.{same, walked_grows, declared_grows}
use Rattle.cd_resolve.proofs.WhatNamesMean.{scope_of}
use Rattle.cd_resolve.proofs.Visits.{Visited, ListVisited, in_list, visits_list}
use Rattle.cd_resolve.proofs.Complete.{complete, complete_list}
use Rattle.cd_resolve.proofs.Paths.{New, new_then, new_entered, new_walked, new_declared}
use Rattle.cd_resolve.proofs.FoundAreFaults.{IsSound, sound_entered, sound_walked, sound_declared, all_declared}
use Rattle.cd_resolve.proofs.Exact.{IsWalk, all_sound, all_complete}
use Rattle.cd_resolve.proofs.LeastFault.{nothing_reported, least_reported}

-- what a type sees, and the walk over it
abbrev seen : Declarations → ScopeLevels
seen declared = record { declarations = declared; list = zero } ∷ []

abbrev begun : Declarations → State ScopeLevels
begun declared = record { faults = []; lists = seen declared ∷ []; links = [] }

abbrev over_type : Declarations → Tree → State ScopeLevels
over_type declared is = found_in whole (seen declared) None is (begun declared)

abbrev IsOfType : Declarations → Tree → Fault → Type 0
IsOfType declared is one = IsFault (declared ∷ []) (declared ∷ []) is one

only_seen : (declared : Declarations) (n : ℕ) (levels : ScopeLevels) → nth (seen declared ∷ []) n ≡ Some levels
    → (n ≡ zero) × (seen declared ≡ levels)
only_seen declared zero levels at = (refl, same_Some _ _ at)
only_seen declared (suc n) levels at = absurd cc

begun_sound : (declared : Declarations) (is : Tree)
    → IsSound (declared ∷ []) (suc zero) (IsOfType declared is) (begun declared)
begun_sound declared is = record {
  faults = λ one nothing. elim nothing [ ];
  lists = λ n levels late at. let only = only_seen declared n levels at in let none = only.0 in absurd (omega arith);
  links = λ link nothing. elim nothing [ ];
}

not_inside : (declared : Declarations) (levels : ScopeLevels) → seen declared ≡ levels
    → length (let one : List Declarations = declared ∷ [] in one) < length (scope_of levels) → ⊥
not_inside declared levels equal inside = let less : suc zero < suc zero = rw (sym equal) at inside in omega arith

type_walk : (declared : Declarations) (is : Tree)
    → IsWalk (declared ∷ []) (suc zero) (IsOfType declared is) (over_type declared is)
type_walk declared is = record {
  sound = sound_walked (declared ∷ []) (suc zero) (IsOfType declared is) (seen declared) None is (begun declared)
      (begun_sound declared is) (refl, tt) (omega arith) tt (λ one is_fault. is_fault);
  complete = λ one is_fault. complete (declared ∷ []) (suc zero) None (seen declared) (declared ∷ []) is one
      (over_type declared is) refl is_fault visited;
  visited = λ n levels at known. by n levels known (new.each n levels at);
  late = λ n levels at inside. late n levels at inside;
}
  where
    visited : Visited (suc zero) None (seen declared) is (over_type declared is)
    visited = record {
      before = begun declared;
      fits = (refl, tt);
      late = omega arith;
      grows = same
          (over_type declared is);
    }

    new : New zero (begun declared) (over_type declared is) (over_type declared is)
    new = new_walked zero (seen declared) None is (begun declared) (over_type declared is) (refl, tt) (omega arith)
        (same (over_type declared is))

    late : (n : ℕ) (levels : ScopeLevels) → nth (over_type declared is).lists n ≡ Some levels
        → length (let one : List Declarations = declared ∷ [] in one) < length (scope_of levels) → suc zero ≤ n
    late zero levels at inside =
        let first = (walked_grows (seen declared) None is (begun declared)).lists zero (seen declared) refl in
        absurd (not_inside declared levels (same_Some _ _ (sym first ∙ at)) inside)
    late (suc n) levels at inside = omega arith

    old : (n : ℕ) (levels : ScopeLevels) → (suc zero ≤ n) ⊎
        (length (let one : List Declarations = declared ∷ [] in one) < length (scope_of levels))
        → (n ≡ zero) × (seen declared ≡ levels)
        → ListVisited zero n levels (over_type declared is)
    old n levels (inl later) only = let none = only.0 in absurd (omega arith)
    old n levels (inr inside) only = absurd (not_inside declared levels only.1 inside)

    by : (n : ℕ) (levels : ScopeLevels) → (suc zero ≤ n) ⊎
        (length (let one : List Declarations = declared ∷ [] in one) < length (scope_of levels))
        → (nth (begun declared).lists n ≡ Some levels) ⊎ ListVisited zero n levels (over_type declared is)
        → ListVisited zero n levels (over_type declared is)
    by n levels known (inl at) = old n levels known (only_seen declared n levels at)
    by n levels known (inr is_visited) = is_visited

-- the walk over type declarations
abbrev nothing : State ScopeLevels
nothing = record { faults = []; lists = []; links = [] }

abbrev over_declared : Declarations → State ScopeLevels
over_declared declared = in_list declared [] nothing

abbrev IsOfDeclared : Declarations → Fault → Type 0
IsOfDeclared declared one = IsFaultOfList [] (declared ∷ []) declared one

nothing_sound : (declared : Declarations) → IsSound [] zero (IsOfDeclared declared) nothing
nothing_sound declared = record {
  faults = λ one none. elim none [ ];
  lists = λ n levels late at. absurd cc;
  links = λ link none. elim none [ ];
}

declared_walk : (declared : Declarations) → IsWalk [] zero (IsOfDeclared declared) (over_declared declared)
declared_walk declared = record {
  sound = sound_declared [] zero (IsOfDeclared declared) (seen declared) zero [] declared
      (entered (seen declared) nothing)
      (sound_entered [] zero (IsOfDeclared declared) (seen declared) nothing (nothing_sound declared)
      (λ one is_fault. is_fault))
      (refl, tt) refl (omega arith) (all_declared declared) (λ one is_fault. is_fault);
  complete = λ one is_fault. complete_list [] zero zero (seen declared) (declared ∷ []) declared one
      (over_declared declared) refl refl (omega arith)
      ((declared_grows (seen declared) zero [] declared (entered (seen declared) nothing)).lists zero (seen declared)
      refl) is_fault
      (visits_list zero [] declared nothing (over_declared declared) tt (omega arith) (same (over_declared declared)));
  visited = λ n levels at known. by n levels (new.each n levels at);
  late = λ n levels at inside. omega arith;
}
  where
    new : New zero nothing (over_declared declared) (over_declared declared)
    new = new_then zero nothing (entered (seen declared) nothing) (over_declared declared) (over_declared declared)
        (new_entered zero declared [] nothing (over_declared declared) tt (omega arith) (same (over_declared declared)))
        (new_declared zero (seen declared) zero [] declared (entered (seen declared) nothing) (over_declared declared)
        (refl, tt) (omega arith) (same (over_declared declared)))

    by : (n : ℕ) (levels : ScopeLevels) → (nth nothing.lists n ≡ Some levels) ⊎ ListVisited zero n levels
        (over_declared declared) → ListVisited zero n levels (over_declared declared)
    by n levels (inl at) = absurd cc
    by n levels (inr is_visited) = is_visited

-- the same of the walk that keeps no lists
type_faults : (declared : Declarations) (is : Tree)
    → all_faults (found_in_type declared is) ≡ all_faults (lean (over_type declared is))
type_faults declared is = ap all_faults (lean_walked (seen declared) None is (begun declared))

declared_faults : (declared : Declarations) → all_faults (found_in_declarations declared) ≡ all_faults
    (lean (over_declared declared))
declared_faults declared = ap all_faults (lean_list [] declared nothing)

pub type_sound : (declared : Declarations) (is : Tree) → least_from None (all_faults (found_in_type declared is)) ≡ None
    → (one : Fault) → IsFault (declared ∷ []) (declared ∷ []) is one → ⊥
type_sound declared is none = nothing_reported (all_faults (lean (over_type declared is))) (IsOfType declared is)
    (all_complete (declared ∷ []) (suc zero) (IsOfType declared is) (over_type declared is) (type_walk declared is))
    (rw (type_faults declared is) at none)

pub declared_sound : (declared : Declarations) → least_from None (all_faults (found_in_declarations declared)) ≡ None
    → (one : Fault) → IsFaultOfList [] (declared ∷ []) declared one → ⊥
declared_sound declared none = nothing_reported (all_faults (lean (over_declared declared))) (IsOfDeclared declared)
    (all_complete [] zero (IsOfDeclared declared) (over_declared declared) (declared_walk declared))
    (rw (declared_faults declared) at none)

pub type_reported : (declared : Declarations) (is : Tree) (e : NameError)
    → IsLeast (least_from None (all_faults (found_in_type declared is))) e
    → IsReportedError (IsFault (declared ∷ []) (declared ∷ []) is) e
type_reported declared is (error.Fault fault name at) least = least_reported (all_faults (lean (over_type declared is)))
    (IsOfType declared is)
    (all_sound (declared ∷ []) (suc zero) (IsOfType declared is) (over_type declared is) (type_walk declared is))
    (all_complete (declared ∷ []) (suc zero) (IsOfType declared is) (over_type declared is) (type_walk declared is))
    (record { fault = fault; name = name; at = at }) (rw (type_faults declared is) at least)
type_reported declared is error.Memory least = tt

pub declared_reported : (declared : Declarations) (e : NameError)
    → IsLeast (least_from None (all_faults (found_in_declarations declared))) e
    → IsReportedError (IsFaultOfList [] (declared ∷ []) declared) e
declared_reported declared (error.Fault fault name at) least = least_reported (all_faults (lean (over_declared declared)))
    (IsOfDeclared declared)
    (all_sound [] zero (IsOfDeclared declared) (over_declared declared) (declared_walk declared))
    (all_complete [] zero (IsOfDeclared declared) (over_declared declared) (declared_walk declared))
    (record { fault = fault; name = name; at = at }) (rw (declared_faults declared) at least)
declared_reported declared error.Memory least = tt
