-- What a conjunct of a kind wants and refuses is a clause of the question.
use Rattle.std.proofs.Common.{◌≡◌, ◌&&◌, ◌⊎◌, Bool, true, false, List, [], ◌∷◌, Option, Some, None, if◌then◌else◌, inl, inr, refl, subst, ◌∙◌}
use Rattle.std.proofs.lemmas.Bool.{cases_Bool}
use Rattle.cd_sets.specs.declared.question.Question.{Question}
use Rattle.cd_model.specs.AllOf.{AnyOf}
use Rattle.cd_model.specs.Formula.{Formula, Graph}
use Rattle.cd_model.specs.Kinds.{Kind}
use Rattle.cd_rules.specs.Dnf.{Conjunct, dnf_of}
use Rattle.cd_rules.specs.Clauses.{IsOfParts, AllOfKind, kind_of_formula}
use Rattle.cd_rules.specs.KindDnf.{is_of, kind_dnf_of, of_kind, fits, for_kind}
use Rattle.cd_rules.proofs.KindDnfExact.{question_exact, parts_same, HasParts}

both_so : (one other : Bool) → (one && other) ≡ true → (one ≡ true) × (other ≡ true)
both_so true other is = (refl, is)
both_so false other is = absurd cc

module _ (kind : Kind) (says : (is : Formula) → is_of kind is ≡ true → kind_of_formula is ≡ Some kind) where
  all_of_fitting : (conjunct : Conjunct) → fits kind conjunct ≡ true → AllOfKind kind conjunct
  all_of_fitting [] fitting = tt
  all_of_fitting (literal ∷ conjunct) fitting =
      let both = both_so (if literal.wanted then is_of kind literal.is else true) (fits kind conjunct) fitting in (
        λ wanted. says literal.is (subst (λ (test : Bool). (if test then is_of kind literal.is else true) ≡ true) wanted both.0),
        all_of_fitting conjunct both.1,
      )

  module _ {X : Type 0} (parts_of : Formula → Option X) (others : (is : Formula) → is_of kind is ≡ false → parts_of is ≡ None)
      (wanted refused : List X) where
    one_back : (all : List Conjunct) → AnyOf (HasParts kind parts_of others wanted refused) (for_kind kind all)
        → AnyOf (λ conjunct. IsOfParts kind parts_of conjunct wanted refused) all
    one_back [] is = is
    one_back (conjunct ∷ all) is = by_test (cases_Bool (fits kind conjunct)) (one_back all)
      where
        by_test : (fits kind conjunct ≡ true) ⊎ (fits kind conjunct ≡ false)
            → (AnyOf (HasParts kind parts_of others wanted refused) (for_kind kind all) → AnyOf (λ conjunct. IsOfParts kind parts_of conjunct wanted refused) all)
            → AnyOf (λ conjunct. IsOfParts kind parts_of conjunct wanted refused) (conjunct ∷ all)
        by_test (inr differ) rest = inr (rest (subst (λ (test : Bool). AnyOf (HasParts kind parts_of others wanted refused)
            (if test then of_kind kind conjunct ∷ for_kind kind all else for_kind kind all)) differ is))
        by_test (inl fitting) rest = by_one (subst (λ (test : Bool). AnyOf (HasParts kind parts_of others wanted refused)
            (if test then of_kind kind conjunct ∷ for_kind kind all else for_kind kind all)) fitting is)
          where
            by_one : AnyOf (HasParts kind parts_of others wanted refused) (of_kind kind conjunct ∷ for_kind kind all)
                → AnyOf (λ conjunct. IsOfParts kind parts_of conjunct wanted refused) (conjunct ∷ all)
            by_one (inl parts) = inl (
              all_of_fitting conjunct fitting,
              parts.0 ∙ parts_same kind parts_of others true conjunct,
              parts.1 ∙ parts_same kind parts_of others false conjunct,
            )
            by_one (inr later) = inr (rest later)

    pub kind_clause_of : (graph : Graph) (question : Question) → AnyOf (HasParts kind parts_of others wanted refused) (kind_dnf_of kind graph question)
        → AnyOf (λ conjunct. IsOfParts kind parts_of conjunct wanted refused) (dnf_of graph question)
    kind_clause_of graph question is = one_back (dnf_of graph question)
        (subst (AnyOf (HasParts kind parts_of others wanted refused)) (question_exact kind graph question) is)
