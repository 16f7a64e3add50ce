-- What a conjunct in the making becomes by its next formula.
use Rattle.std.specs.Prelude.{Bool, true, false, not, ◌&&◌, List, [], ◌∷◌, ◌++◌, map}
use Rattle.std.specs.Prelude.{if◌then◌else◌}
use Rattle.cd_model.specs.Formula as formula
use Rattle.cd_model.specs.Formula.{Formula, Formulas, NoFormula, AFormula}
use Rattle.cd_model.specs.Kinds.{Kind}
use Rattle.cd_rules.specs.Dnf.{Conjunct}
use Rattle.cd_rules.specs.KindDnf.{is_of}
use Rattle.cd_rules.specs.PartialConjuncts.{Partial, Signed, partial, each_signed, extensions}

-- the conjunct with these formulas before those that are left
abbrev pub with_left : List Signed → Partial → Partial
with_left more is = partial is.kind is.conjunct (more ++ is.left)

-- the conjunct with more literals, for each of some conjuncts
abbrev pub with_conjuncts : List Conjunct → Partial → List Partial
with_conjuncts conjuncts is = map (λ more. partial is.kind (is.conjunct ++ more) is.left) conjuncts

-- the conjunct with each of these formulas as its next one
abbrev pub with_each : List Signed → Partial → List Partial
with_each members is = map (λ member. partial is.kind is.conjunct (member ∷ is.left)) members

-- a literal, or a union of such
abbrev mutual
  pub is_flat : Formula → Bool
  is_flat formula.Nothing = false
  is_flat formula.Everything = false
  is_flat (formula.And formulas) = false
  is_flat (formula.Or formulas) = are_flat formulas
  is_flat (formula.Not one) = false
  is_flat one = true

  pub are_flat : Formulas → Bool
  are_flat NoFormula = true
  are_flat (AFormula is rest) = is_flat is && are_flat rest

-- the literals of a kind in such formulas, refused
abbrev mutual
  pub refused_in : Kind → Formula → Conjunct
  refused_in kind (formula.Or formulas) = refused_of kind formulas
  refused_in kind is = if is_of kind is then record { wanted = false; is = is } ∷ [] else []

  pub refused_of : Kind → Formulas → Conjunct
  refused_of kind NoFormula = []
  refused_of kind (AFormula is rest) = refused_in kind is ++ refused_of kind rest

-- a conjunct for each one of them, wanted
abbrev mutual
  pub wanted_in : Kind → Formula → List Conjunct
  wanted_in kind (formula.Or formulas) = wanted_of kind formulas
  wanted_in kind is =
      if is_of kind is then (record { wanted = true; is = is } ∷ []) ∷ [] else []

  pub wanted_of : Kind → Formulas → List Conjunct
  wanted_of kind NoFormula = []
  wanted_of kind (AFormula is rest) = wanted_in kind is ++ wanted_of kind rest

-- what a conjunct becomes by a formula that it is to meet before those that are left: literals that
-- are refused together are met at once, and of those of which one is wanted only the ones of the
-- kind are met
abbrev pub next_conjuncts : Partial → Formula → (wanted : Bool) → List Partial
next_conjuncts is (formula.And formulas) true = with_left (each_signed formulas true) is ∷ []
next_conjuncts is (formula.And formulas) false = with_each (each_signed formulas false) is
next_conjuncts is (formula.Or formulas) true = if are_flat formulas
    then with_conjuncts (wanted_of is.kind formulas) is
    else with_each (each_signed formulas true) is
next_conjuncts is (formula.Or formulas) false = if are_flat formulas
    then partial is.kind (is.conjunct ++ refused_of is.kind formulas) is.left ∷ []
    else with_left (each_signed formulas false) is ∷ []
next_conjuncts is (formula.Not one) wanted = with_left ((one, not wanted) ∷ []) is ∷ []
next_conjuncts is one wanted = extensions is.kind is.conjunct (one, wanted) is.left
