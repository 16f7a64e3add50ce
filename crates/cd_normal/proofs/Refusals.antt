-- Literals, and unions of such, that are refused together have one conjunct: the literals of the
-- kind. Where one is wanted there is a choice for each of the kind.
use Rattle.std.proofs.Common.{◌≡◌, Bool, true, false, List, [], ◌∷◌, ◌++◌, map, refl, ap₂, subst, if◌then◌else◌}
use Rattle.cd_model.specs.Formula as formula
use Rattle.cd_model.specs.Formula.{Formula, Formulas, NoFormula, AFormula}
use Rattle.cd_model.specs.Kinds.{Kind}
use Rattle.cd_rules.specs.Dnf.{Conjunct, joined}
use Rattle.cd_rules.specs.KindDnf.{is_of, literal_by, kind_dnf, kind_of_each, kind_of_one}
use Rattle.cd_rules.specs.PartialConjuncts.{Partial, GoesOn, unfolds, divides, extends, partial, each_signed}
use Rattle.cd_rules.specs.PartialConjuncts.{refuses_each, wants_one}
use Rattle.cd_rules.proofs.InCells.{both_hold}
use Rattle.cd_normal.specs.Inner.NextConjuncts.{is_flat, are_flat, refused_in, refused_of, wanted_in, wanted_of, with_left, with_each, with_conjuncts}

one_refused : (of_kind : Bool) (is : Formula) → literal_by of_kind false is
    ≡ (if of_kind then record { wanted = false; is = is } ∷ [] else []) ∷ []
one_refused true is = refl
one_refused false is = refl

one_wanted : (of_kind : Bool) (is : Formula) → literal_by of_kind true is
    ≡ (if of_kind then (record { wanted = true; is = is } ∷ []) ∷ [] else [])
one_wanted true is = refl
one_wanted false is = refl

mutual
  refused_conjunct : (kind : Kind) (is : Formula) → is_flat is ≡ true → kind_dnf kind is false ≡ refused_in kind is ∷ []
  refused_conjunct kind (formula.Or formulas) flat = refused_together kind formulas flat
  refused_conjunct kind (formula.Ints set) flat = one_refused (is_of kind (formula.Ints set)) (formula.Ints set)
  refused_conjunct kind (formula.Chars set) flat = one_refused (is_of kind (formula.Chars set)) (formula.Chars set)
  refused_conjunct kind (formula.Atoms set) flat = one_refused (is_of kind (formula.Atoms set)) (formula.Atoms set)
  refused_conjunct kind (formula.Pair first second) flat = one_refused (is_of kind (formula.Pair first second)) (formula.Pair first second)
  refused_conjunct kind (formula.Xml tag attributes content) flat =
      one_refused (is_of kind (formula.Xml tag attributes content)) (formula.Xml tag attributes content)
  refused_conjunct kind (formula.Record named rest) flat = one_refused (is_of kind (formula.Record named rest)) (formula.Record named rest)
  refused_conjunct kind (formula.Arrow argument result) flat =
      one_refused (is_of kind (formula.Arrow argument result)) (formula.Arrow argument result)
  refused_conjunct kind formula.Nothing flat = absurd cc flat
  refused_conjunct kind formula.Everything flat = absurd cc flat
  refused_conjunct kind (formula.And formulas) flat = absurd cc flat
  refused_conjunct kind (formula.Not one) flat = absurd cc flat

  refused_together : (kind : Kind) (formulas : Formulas) → are_flat formulas ≡ true
      → kind_of_each kind formulas false ≡ refused_of kind formulas ∷ []
  refused_together kind NoFormula flat = refl
  refused_together kind (AFormula is rest) flat =
      let both = both_hold (is_flat is) (are_flat rest) flat in
      ap₂ joined (refused_conjunct kind is both.0) (refused_together kind rest both.1)

mutual
  wanted_conjuncts : (kind : Kind) (is : Formula) → is_flat is ≡ true → kind_dnf kind is true ≡ wanted_in kind is
  wanted_conjuncts kind (formula.Or formulas) flat = wanted_apart kind formulas flat
  wanted_conjuncts kind (formula.Ints set) flat = one_wanted (is_of kind (formula.Ints set)) (formula.Ints set)
  wanted_conjuncts kind (formula.Chars set) flat = one_wanted (is_of kind (formula.Chars set)) (formula.Chars set)
  wanted_conjuncts kind (formula.Atoms set) flat = one_wanted (is_of kind (formula.Atoms set)) (formula.Atoms set)
  wanted_conjuncts kind (formula.Pair first second) flat = one_wanted (is_of kind (formula.Pair first second)) (formula.Pair first second)
  wanted_conjuncts kind (formula.Xml tag attributes content) flat =
      one_wanted (is_of kind (formula.Xml tag attributes content)) (formula.Xml tag attributes content)
  wanted_conjuncts kind (formula.Record named rest) flat = one_wanted (is_of kind (formula.Record named rest)) (formula.Record named rest)
  wanted_conjuncts kind (formula.Arrow argument result) flat =
      one_wanted (is_of kind (formula.Arrow argument result)) (formula.Arrow argument result)
  wanted_conjuncts kind formula.Nothing flat = absurd cc flat
  wanted_conjuncts kind formula.Everything flat = absurd cc flat
  wanted_conjuncts kind (formula.And formulas) flat = absurd cc flat
  wanted_conjuncts kind (formula.Not one) flat = absurd cc flat

  wanted_apart : (kind : Kind) (formulas : Formulas) → are_flat formulas ≡ true → kind_of_one kind formulas true ≡ wanted_of kind formulas
  wanted_apart kind NoFormula flat = refl
  wanted_apart kind (AFormula is rest) flat =
      let both = both_hold (is_flat is) (are_flat rest) flat in
      ap₂ (λ (one others : List Conjunct). one ++ others) (wanted_conjuncts kind is both.0) (wanted_apart kind rest both.1)

-- a conjunct goes on by such, or they are unfolded
pub goes_on_refusing : (is : Partial) (formulas : Formulas) (test : Bool) → are_flat formulas ≡ test
    → GoesOn (partial is.kind is.conjunct ((formula.Or formulas, false) ∷ is.left))
    (if test then partial is.kind (is.conjunct ++ refused_of is.kind formulas) is.left ∷ [] else with_left (each_signed formulas false) is ∷ [])
goes_on_refusing is formulas true flat =
    subst (λ conjuncts. GoesOn (partial is.kind is.conjunct ((formula.Or formulas, false) ∷ is.left))
    (map (λ more. partial is.kind (is.conjunct ++ more) is.left) conjuncts)) (refused_together is.kind formulas flat)
    (extends is.kind is.conjunct (formula.Or formulas, false) is.left)
goes_on_refusing is formulas false flat =
    unfolds is.kind is.conjunct (formula.Or formulas, false) (each_signed formulas false) is.left (refuses_each formulas)

-- or divided
pub goes_on_wanting : (is : Partial) (formulas : Formulas) (test : Bool) → are_flat formulas ≡ test
    → GoesOn (partial is.kind is.conjunct ((formula.Or formulas, true) ∷ is.left))
    (if test then with_conjuncts (wanted_of is.kind formulas) is else with_each (each_signed formulas true) is)
goes_on_wanting is formulas true flat =
    subst (λ conjuncts. GoesOn (partial is.kind is.conjunct ((formula.Or formulas, true) ∷ is.left))
    (map (λ more. partial is.kind (is.conjunct ++ more) is.left) conjuncts)) (wanted_apart is.kind formulas flat)
    (extends is.kind is.conjunct (formula.Or formulas, true) is.left)
goes_on_wanting is formulas false flat =
    divides is.kind is.conjunct (formula.Or formulas, true) (each_signed formulas true) is.left (wants_one formulas)
