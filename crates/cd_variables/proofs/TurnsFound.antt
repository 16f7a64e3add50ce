-- The faults of the parts of an expression that are taken in turn.
use Rattle.std.proofs.Common.{◌≡◌, List, [], ◌∷◌, ◌++◌, ◌⊎◌, inl, inr, true}
use Rattle.cd_syntax.specs.Name.{Name}
use Rattle.cd_syntax.specs.TypeTree.{Regular}
use Rattle.cd_model.specs.AllOf.{AnyOf}
use Rattle.cd_resolve.specs.Faults.{Fault}
use Rattle.cd_variables.specs.Occurrences.{Occurrence, has, plain, gathered}
use Rattle.cd_variables.specs.VariableFaults.{IsRegularFault, IsAmong, StandsAgainInTurn, twice}
use Rattle.cd_variables.specs.FindingVariables.{has_name, names_among}
use Rattle.cd_variables.proofs.Adding.{Again, any_in, one_of_any}
use Rattle.cd_variables.proofs.NamesAmong.{seen_or_has, seen_before, seen_in, has_of_both, has_first, has_second}

-- those of parts after some with these names, of which those are plain
abbrev pub TurnFault : (seen plain_ones : List Name) → List Regular → Fault → Type 0
TurnFault seen plain_ones [] f = ⊥
TurnFault seen plain_ones (r ∷ rest) f =
    ((IsRegularFault r f ⊎ Again seen (plain r) f) ⊎ Again plain_ones (gathered r) f)
    ⊎ TurnFault (seen ++ names_among (plain r) ++ names_among (gathered r)) (plain_ones ++ names_among (plain r)) rest f

abbrev pub StandsAfterInTurn : (seen plain_ones : List Name) → Occurrence → List Regular → Type 0
StandsAfterInTurn seen plain_ones o parts =
    ((has_name seen o.name ≡ true) × AnyOf (λ r. IsAmong o (plain r)) parts)
    ⊎ ((has_name plain_ones o.name ≡ true) × AnyOf (λ r. IsAmong o (gathered r)) parts)
    ⊎ StandsAgainInTurn o parts

abbrev pub TurnIs : (seen plain_ones : List Name) → List Regular → Fault → Type 0
TurnIs seen plain_ones parts f = AnyOf (λ r. IsRegularFault r f) parts
    ⊎ ((o : Occurrence) × (StandsAfterInTurn seen plain_ones o parts × (twice o ≡ f)))

pub turn_to : (seen plain_ones : List Name) (parts : List Regular) (f : Fault) → TurnFault seen plain_ones parts f
    → TurnIs seen plain_ones parts f
turn_to seen plain_ones [] f none = absurd none
turn_to seen plain_ones (r ∷ rest) f (inl (inl (inl is))) = inl (inl is)
turn_to seen plain_ones (r ∷ rest) f (inl (inl (inr again))) =
    let one = one_of_any (λ o. (has_name seen o.name ≡ true) × (twice o ≡ f)) (plain r) again in
    inr (one.0, (inl (one.1.1.0, inl one.1.0), one.1.1.1))
turn_to seen plain_ones (r ∷ rest) f (inl (inr again)) =
    let one = one_of_any (λ o. (has_name plain_ones o.name ≡ true) × (twice o ≡ f)) (gathered r) again in
    inr (one.0, (inr (inl (one.1.1.0, inl one.1.0)), one.1.1.1))
turn_to seen plain_ones (r ∷ rest) f (inr later) =
    by_rest (turn_to (seen ++ names_among (plain r) ++ names_among (gathered r))
    (plain_ones ++ names_among (plain r)) rest f later) where
      by_name : (o : Occurrence) → AnyOf (λ r. IsAmong o (plain r)) rest → twice o ≡ f
          → (has_name seen o.name ≡ true) ⊎ (has (plain r ++ gathered r) o.name ≡ true)
          → TurnIs seen plain_ones (r ∷ rest) f
      by_name o among same (inl is) = inr (o, (inl (is, inr among), same))
      by_name o among same (inr is) = inr (o, (inr (inr (inl (is, among))), same))

      by_plain_name : (o : Occurrence) → AnyOf (λ r. IsAmong o (gathered r)) rest → twice o ≡ f
          → (has_name plain_ones o.name ≡ true) ⊎ (has (plain r) o.name ≡ true)
          → TurnIs seen plain_ones (r ∷ rest) f
      by_plain_name o among same (inl is) = inr (o, (inr (inl (is, inr among)), same))
      by_plain_name o among same (inr is) = inr (o, (inr (inr (inr (inl (is, among)))), same))

      by_rest : TurnIs (seen ++ names_among (plain r) ++ names_among (gathered r)) (plain_ones ++ names_among (plain r)) rest f
          → TurnIs seen plain_ones (r ∷ rest) f
      by_rest (inl any) = inl (inr any)
      by_rest (inr (o, (inl (is, among), same))) =
          by_name o among same (has_of_both seen (plain r) (gathered r) o.name is)
      by_rest (inr (o, (inr (inl (is, among)), same))) =
          by_plain_name o among same (seen_or_has plain_ones (plain r) o.name is)
      by_rest (inr (o, (inr (inr again), same))) = inr (o, (inr (inr (inr (inr again))), same))

pub turn_from : (seen plain_ones : List Name) (parts : List Regular) (f : Fault) → TurnIs seen plain_ones parts f
    → TurnFault seen plain_ones parts f
turn_from seen plain_ones [] f (inl none) = absurd none
turn_from seen plain_ones [] f (inr (o, (inl both, same))) = absurd both.1
turn_from seen plain_ones [] f (inr (o, (inr (inl both), same))) = absurd both.1
turn_from seen plain_ones [] f (inr (o, (inr (inr none), same))) = absurd none
turn_from seen plain_ones (r ∷ rest) f (inl (inl is)) = inl (inl (inl is))
turn_from seen plain_ones (r ∷ rest) f (inl (inr later)) =
    inr (turn_from (seen ++ names_among (plain r) ++ names_among (gathered r)) (plain_ones ++ names_among (plain r))
    rest f (inl later))
turn_from seen plain_ones (r ∷ rest) f (inr (o, (inl (is, inl among), same))) =
    inl (inl (inr (any_in (λ o. (has_name seen o.name ≡ true) × (twice o ≡ f)) (plain r) o among (is, same))))
turn_from seen plain_ones (r ∷ rest) f (inr (o, (inr (inl (is, inl among)), same))) =
    inl (inr (any_in (λ o. (has_name plain_ones o.name ≡ true) × (twice o ≡ f)) (gathered r) o among (is, same)))
turn_from seen plain_ones (r ∷ rest) f (inr (o, (inl (is, inr among), same))) =
    inr (turn_from (seen ++ names_among (plain r) ++ names_among (gathered r)) (plain_ones ++ names_among (plain r))
    rest f (inr (o, (inl (has_first seen (plain r) (gathered r) o.name is, among), same))))
turn_from seen plain_ones (r ∷ rest) f (inr (o, (inr (inl (is, inr among)), same))) =
    inr (turn_from (seen ++ names_among (plain r) ++ names_among (gathered r)) (plain_ones ++ names_among (plain r))
    rest f (inr (o, (inr (inl (seen_before plain_ones (plain r) o.name is, among)), same))))
turn_from seen plain_ones (r ∷ rest) f (inr (o, (inr (inr (inl (is, among))), same))) =
    inr (turn_from (seen ++ names_among (plain r) ++ names_among (gathered r)) (plain_ones ++ names_among (plain r))
    rest f (inr (o, (inl (has_second seen (plain r) (gathered r) o.name is, among), same))))
turn_from seen plain_ones (r ∷ rest) f (inr (o, (inr (inr (inr (inl (is, among)))), same))) =
    inr (turn_from (seen ++ names_among (plain r) ++ names_among (gathered r)) (plain_ones ++ names_among (plain r))
    rest f (inr (o, (inr (inl (seen_in plain_ones (plain r) o.name is, among)), same))))
turn_from seen plain_ones (r ∷ rest) f (inr (o, (inr (inr (inr (inr again))), same))) =
    inr (turn_from (seen ++ names_among (plain r) ++ names_among (gathered r)) (plain_ones ++ names_among (plain r))
    rest f (inr (o, (inr (inr again), same))))
