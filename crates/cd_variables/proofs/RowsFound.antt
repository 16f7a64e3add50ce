-- The faults of a row of parts that all bind, and of trees where no variable may stand.
use Rattle.std.proofs.Common.{◌≡◌, List, [], ◌∷◌, ◌++◌, ◌⊎◌, inl, inr, map, true}
use Rattle.cd_syntax.specs.Name.{Name}
use Rattle.cd_syntax.specs.TypeTree.{Tree}
use Rattle.cd_model.specs.AllOf.{AnyOf}
use Rattle.cd_resolve.specs.Faults.{Fault}
use Rattle.cd_variables.specs.Occurrences.{Occurrence, has, variables, bound}
use Rattle.cd_variables.specs.VariableFaults.{IsVariableFault, IsAmong, StandsAgain, twice, misplaced}
use Rattle.cd_variables.specs.FindingMisplaced.{misplaced_in}
use Rattle.cd_variables.specs.FindingVariables.{has_name, names_among, variable_faults, reported_again, reported_of_each}
use Rattle.cd_variables.proofs.Adding.{Adds, Again, adds_both, adds_same, adds_each, adds_again, adds_as, any_in, one_of_any}
use Rattle.cd_variables.proofs.MisplacedFound.{found_in_tree}
use Rattle.cd_variables.proofs.NamesAmong.{seen_or_has, seen_before, seen_in}

-- some variable of one of these trees
abbrev pub Misplaced : List Tree → Fault → Type 0
Misplaced parts f = AnyOf (λ part. AnyOf (λ o. misplaced o ≡ f) (variables part)) parts

-- those of a row of parts after some with these names
abbrev pub RowFault : List Name → List Tree → Fault → Type 0
RowFault seen [] f = ⊥
RowFault seen (t ∷ rest) f =
    (IsVariableFault t f ⊎ Again seen (bound t) f) ⊎ RowFault (seen ++ names_among (bound t)) rest f

-- both
abbrev pub PartFault : List Name → (kept side : List Tree) → Fault → Type 0
PartFault seen kept side f = RowFault seen kept f ⊎ Misplaced side f

-- one tree more where no variable may stand
adds_misplaced : (t : Tree) → Adds (λ f. AnyOf (λ o. misplaced o ≡ f) (variables t)) (misplaced_in t)
adds_misplaced t = adds_as (λ f. AnyOf (λ o. misplaced o ≡ f) (variables t)) (misplaced_in t)
    (reported_of_each misplaced (variables t)) (found_in_tree t) (adds_each misplaced (variables t))

pub adds_side : (t : Tree) (seen : List Name) (kept side : List Tree) (step : List Fault → List Fault)
    → Adds (PartFault seen kept side) step → Adds (PartFault seen kept (t ∷ side)) (λ s. step (misplaced_in t s))
adds_side t seen kept side step on =
    adds_same (λ f. AnyOf (λ o. misplaced o ≡ f) (variables t) ⊎ PartFault seen kept side f)
    (PartFault seen kept (t ∷ side)) (λ s. step (misplaced_in t s)) (λ f. (to f, from f))
    (adds_both (λ f. AnyOf (λ o. misplaced o ≡ f) (variables t)) (PartFault seen kept side) (misplaced_in t) step
    (adds_misplaced t) on) where
      to : (f : Fault) → AnyOf (λ o. misplaced o ≡ f) (variables t) ⊎ PartFault seen kept side f
          → PartFault seen kept (t ∷ side) f
      to f (inl is) = inr (inl is)
      to f (inr (inl is)) = inl is
      to f (inr (inr is)) = inr (inr is)

      from : (f : Fault) → PartFault seen kept (t ∷ side) f
          → AnyOf (λ o. misplaced o ≡ f) (variables t) ⊎ PartFault seen kept side f
      from f (inl is) = inr (inl is)
      from f (inr (inl is)) = inl is
      from f (inr (inr is)) = inr (inr is)

-- one part more
pub adds_part : (t : Tree) (seen : List Name) (kept side : List Tree) (step : List Fault → List Fault)
    → Adds (IsVariableFault t) (variable_faults t)
    → Adds (PartFault (seen ++ names_among (bound t)) kept side) step
    → Adds (PartFault seen (t ∷ kept) side) (λ s. step (reported_again seen (bound t) (variable_faults t s)))
adds_part t seen kept side step one on =
    adds_same (λ f. (IsVariableFault t f ⊎ Again seen (bound t) f)
    ⊎ PartFault (seen ++ names_among (bound t)) kept side f)
    (PartFault seen (t ∷ kept) side) (λ s. step (reported_again seen (bound t) (variable_faults t s)))
    (λ f. (to f, from f))
    (adds_both (λ f. IsVariableFault t f ⊎ Again seen (bound t) f) (PartFault (seen ++ names_among (bound t)) kept side)
    (λ s. reported_again seen (bound t) (variable_faults t s)) step
    (adds_both (IsVariableFault t) (Again seen (bound t)) (variable_faults t) (reported_again seen (bound t))
    one (adds_again seen (bound t))) on) where
      to : (f : Fault) → (IsVariableFault t f ⊎ Again seen (bound t) f)
          ⊎ PartFault (seen ++ names_among (bound t)) kept side f → PartFault seen (t ∷ kept) side f
      to f (inl is) = inl (inl is)
      to f (inr (inl is)) = inl (inr is)
      to f (inr (inr is)) = inr is

      from : (f : Fault) → PartFault seen (t ∷ kept) side f → (IsVariableFault t f ⊎ Again seen (bound t) f)
          ⊎ PartFault (seen ++ names_among (bound t)) kept side f
      from f (inl (inl is)) = inl is
      from f (inl (inr is)) = inr (inl is)
      from f (inr is) = inr (inr is)

-- an occurrence stands in a part of a row, and its name was seen or stands in an earlier part
abbrev pub StandsAfter : List Name → Occurrence → List Tree → Type 0
StandsAfter seen o parts = ((has_name seen o.name ≡ true) × AnyOf (IsAmong o) (map bound parts))
    ⊎ StandsAgain o (map bound parts)

abbrev pub RowIs : List Name → List Tree → Fault → Type 0
RowIs seen parts f = AnyOf (λ t. IsVariableFault t f) parts
    ⊎ ((o : Occurrence) × (StandsAfter seen o parts × (twice o ≡ f)))

pub row_to : (seen : List Name) (parts : List Tree) (f : Fault) → RowFault seen parts f → RowIs seen parts f
row_to seen [] f none = absurd none
row_to seen (t ∷ rest) f (inl (inl is)) = inl (inl is)
row_to seen (t ∷ rest) f (inl (inr again)) =
    let one = one_of_any (λ o. (has_name seen o.name ≡ true) × (twice o ≡ f)) (bound t) again in
    inr (one.0, (inl (one.1.1.0, inl one.1.0), one.1.1.1))
row_to seen (t ∷ rest) f (inr later) = by_rest (row_to (seen ++ names_among (bound t)) rest f later) where
  by_name : (o : Occurrence) → AnyOf (IsAmong o) (map bound rest) → twice o ≡ f
      → (has_name seen o.name ≡ true) ⊎ (has (bound t) o.name ≡ true) → RowIs seen (t ∷ rest) f
  by_name o among same (inl is) = inr (o, (inl (is, inr among), same))
  by_name o among same (inr is) = inr (o, (inr (inl (is, among)), same))

  by_rest : RowIs (seen ++ names_among (bound t)) rest f → RowIs seen (t ∷ rest) f
  by_rest (inl any) = inl (inr any)
  by_rest (inr (o, (inl (is, among), same))) = by_name o among same (seen_or_has seen (bound t) o.name is)
  by_rest (inr (o, (inr again, same))) = inr (o, (inr (inr again), same))

pub row_from : (seen : List Name) (parts : List Tree) (f : Fault) → RowIs seen parts f → RowFault seen parts f
row_from seen [] f (inl none) = absurd none
row_from seen [] f (inr (o, (inl both, same))) = absurd both.1
row_from seen [] f (inr (o, (inr none, same))) = absurd none
row_from seen (t ∷ rest) f (inl (inl is)) = inl (inl is)
row_from seen (t ∷ rest) f (inl (inr later)) = inr (row_from (seen ++ names_among (bound t)) rest f (inl later))
row_from seen (t ∷ rest) f (inr (o, (inl (is, inl among), same))) =
    inl (inr (any_in (λ o. (has_name seen o.name ≡ true) × (twice o ≡ f)) (bound t) o among (is, same)))
row_from seen (t ∷ rest) f (inr (o, (inl (is, inr among), same))) =
    inr (row_from (seen ++ names_among (bound t)) rest f
    (inr (o, (inl (seen_before seen (bound t) o.name is, among), same))))
row_from seen (t ∷ rest) f (inr (o, (inr (inl (is, among)), same))) =
    inr (row_from (seen ++ names_among (bound t)) rest f
    (inr (o, (inl (seen_in seen (bound t) o.name is, among), same))))
row_from seen (t ∷ rest) f (inr (o, (inr (inr again), same))) =
    inr (row_from (seen ++ names_among (bound t)) rest f (inr (o, (inr again, same))))
