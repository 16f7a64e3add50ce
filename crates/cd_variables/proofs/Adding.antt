-- What a step adds to the faults that are there.
use Rattle.std.proofs.Common.{◌≡◌, Bool, true, false, List, [], ◌∷◌, ◌++◌, ◌⊎◌, inl, inr, ◌↔◌, refl, sym, subst}
use Rattle.std.proofs.lemmas.Bool.{true≢false}
use Rattle.cd_syntax.specs.Name.{Name}
use Rattle.cd_model.specs.AllOf.{AnyOf}
use Rattle.cd_resolve.specs.Faults.{Fault}
use Rattle.cd_variables.specs.Occurrences.{Occurrence}
use Rattle.cd_variables.specs.VariableFaults.{IsOneIn, twice}
use Rattle.cd_variables.specs.FindingVariables.{has_name, reported_if, reported_of_each, reported_again}

-- a step adds such faults, and keeps those that are there
abbrev pub Adds : (Fault → Type 0) → (List Fault → List Fault) → Type 0
Adds Such step = (s : List Fault) (f : Fault) → IsOneIn f (step s) ↔ (IsOneIn f s ⊎ Such f)

pub adds_nothing : Adds (λ f. ⊥) (λ s. s)
adds_nothing s f = (inl, from) where
  from : IsOneIn f s ⊎ ⊥ → IsOneIn f s
  from (inl is) = is
  from (inr none) = absurd none

-- one step after another
pub adds_both : (Such Other : Fault → Type 0) (first second : List Fault → List Fault) → Adds Such first
    → Adds Other second → Adds (λ f. Such f ⊎ Other f) (λ s. second (first s))
adds_both Such Other first second one other s f = (to, from) where
  first_to : IsOneIn f (first s) → IsOneIn f s ⊎ Such f ⊎ Other f
  first_to is = elim ((one s f).0 is) [ inl old ↦ inl old | inr such ↦ inr (inl such) ]

  to : IsOneIn f (second (first s)) → IsOneIn f s ⊎ Such f ⊎ Other f
  to is = elim ((other (first s) f).0 is) [ inl old ↦ first_to old | inr such ↦ inr (inr such) ]

  from : IsOneIn f s ⊎ Such f ⊎ Other f → IsOneIn f (second (first s))
  from (inl old) = (other (first s) f).1 (inl ((one s f).1 (inl old)))
  from (inr (inl such)) = (other (first s) f).1 (inl ((one s f).1 (inr such)))
  from (inr (inr such)) = (other (first s) f).1 (inr such)

-- the same faults in other words
pub adds_same : (Such Other : Fault → Type 0) (step : List Fault → List Fault) → ((f : Fault) → Such f ↔ Other f)
    → Adds Such step → Adds Other step
adds_same Such Other step same adds s f = (to, from) where
  to : IsOneIn f (step s) → IsOneIn f s ⊎ Other f
  to is = elim ((adds s f).0 is) [ inl old ↦ inl old | inr such ↦ inr ((same f).0 such) ]

  from : IsOneIn f s ⊎ Other f → IsOneIn f (step s)
  from (inl old) = (adds s f).1 (inl old)
  from (inr such) = (adds s f).1 (inr ((same f).1 such))

-- one fault
pub adds_one : (fault : Fault) → Adds (λ f. fault ≡ f) (λ s. s ++ fault ∷ [])
adds_one fault s f = (to s, from s) where
  to : (s : List Fault) → IsOneIn f (s ++ fault ∷ []) → IsOneIn f s ⊎ (fault ≡ f)
  to [] (inl is) = inr is
  to [] (inr none) = absurd none
  to (one ∷ rest) (inl is) = inl (inl is)
  to (one ∷ rest) (inr later) = elim (to rest later) [ inl old ↦ inl (inr old) | inr is ↦ inr is ]

  from : (s : List Fault) → IsOneIn f s ⊎ (fault ≡ f) → IsOneIn f (s ++ fault ∷ [])
  from [] (inl none) = absurd none
  from [] (inr is) = inl is
  from (one ∷ rest) (inl (inl is)) = inl is
  from (one ∷ rest) (inl (inr later)) = inr (from rest (inl later))
  from (one ∷ rest) (inr is) = inr (from rest (inr is))

-- one fault if a test holds
pub adds_if : (test : Bool) (fault : Fault) → Adds (λ f. (test ≡ true) × (fault ≡ f)) (reported_if test fault)
adds_if true fault = adds_same (λ f. fault ≡ f) (λ f. (true ≡ true) × (fault ≡ f)) (λ s. s ++ fault ∷ [])
    (λ f. (λ is. (refl, is), λ both. both.1)) (adds_one fault)
adds_if false fault = adds_same (λ f. ⊥) (λ f. (false ≡ true) × (fault ≡ f)) (λ s. s)
    (λ f. (λ none. absurd none, λ both. true≢false (sym both.0))) adds_nothing

-- a fault of each occurrence
pub adds_each : (fault : Occurrence → Fault) (all : List Occurrence)
    → Adds (λ f. AnyOf (λ o. fault o ≡ f) all) (reported_of_each fault all)
adds_each fault [] = adds_nothing
adds_each fault (o ∷ rest) = adds_both (λ f. fault o ≡ f) (λ f. AnyOf (λ o. fault o ≡ f) rest)
    (λ s. s ++ fault o ∷ []) (reported_of_each fault rest) (adds_one (fault o)) (adds_each fault rest)

-- those of occurrences whose names were seen
abbrev pub Again : List Name → List Occurrence → Fault → Type 0
Again seen all f = AnyOf (λ o. (has_name seen o.name ≡ true) × (twice o ≡ f)) all

pub adds_again : (seen : List Name) (all : List Occurrence) → Adds (Again seen all) (reported_again seen all)
adds_again seen [] = adds_nothing
adds_again seen (o ∷ rest) = adds_both (λ f. (has_name seen o.name ≡ true) × (twice o ≡ f)) (Again seen rest)
    (reported_if (has_name seen o.name) (twice o)) (reported_again seen rest)
    (adds_if (has_name seen o.name) (twice o)) (adds_again seen rest)

-- a step that does the same
pub adds_as : (Such : Fault → Type 0) (step other : List Fault → List Fault) → ((s : List Fault) → step s ≡ other s)
    → Adds Such other → Adds Such step
adds_as Such step other same adds s f =
    (λ is. (adds s f).0 (subst (IsOneIn f) (same s) is), λ is. subst (IsOneIn f) (sym (same s)) ((adds s f).1 is))

-- a fact of one of a list
pub any_in : {X : Type 0} (fact : X → Type 0) (list : List X) (one : X) → IsOneIn one list → fact one → AnyOf fact list
any_in fact [] one none is = absurd none
any_in fact (first ∷ rest) one (inl same) is = inl (subst fact (sym same) is)
any_in fact (first ∷ rest) one (inr later) is = inr (any_in fact rest one later is)

pub one_of_any : {X : Type 0} (fact : X → Type 0) (list : List X) → AnyOf fact list
    → (one : X) × (IsOneIn one list × fact one)
one_of_any fact [] none = absurd none
one_of_any fact (first ∷ rest) (inl is) = (first, (inl refl, is))
one_of_any fact (first ∷ rest) (inr later) =
    let on = one_of_any fact rest later in (on.0, (inr on.1.0, on.1.1))

pub one_of_both : {X : Type 0} (one : X) (ones others : List X) → IsOneIn one (ones ++ others)
    → IsOneIn one ones ⊎ IsOneIn one others
one_of_both one [] others is = inr is
one_of_both one (first ∷ rest) others (inl same) = inl (inl same)
one_of_both one (first ∷ rest) others (inr later) =
    elim (one_of_both one rest others later) [ inl is ↦ inl (inr is) | inr is ↦ inr is ]

pub one_of_first : {X : Type 0} (one : X) (ones others : List X) → IsOneIn one ones → IsOneIn one (ones ++ others)
one_of_first one [] others none = absurd none
one_of_first one (first ∷ rest) others (inl same) = inl same
one_of_first one (first ∷ rest) others (inr later) = inr (one_of_first one rest others later)

pub one_of_second : {X : Type 0} (one : X) (ones others : List X) → IsOneIn one others → IsOneIn one (ones ++ others)
one_of_second one [] others is = is
one_of_second one (first ∷ rest) others is = inr (one_of_second one rest others is)
