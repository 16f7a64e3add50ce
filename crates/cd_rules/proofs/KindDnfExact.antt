-- The conjuncts of a kind are what all conjuncts are for the kind: so each clause of the kind is
-- that of one of them.
use Rattle.std.proofs.Common.{◌≡◌, ◌&&◌, ◌⊎◌, Bool, true, false, not, List, [], ◌∷◌, ◌++◌, Option, Some, None, map, if◌then◌else◌, inl, inr, refl, sym, ap, subst, ◌∙◌}
use Rattle.std.proofs.lemmas.Bool.{cases_Bool}
use Rattle.cd_sets.specs.declared.node_id.NodeId.{NodeId}
use Rattle.cd_sets.specs.declared.question.Question.{Question}
use Rattle.cd_model.specs.AllOf.{AnyOf}
use Rattle.cd_model.specs.Formula as formula
use Rattle.cd_model.specs.Formula.{Formula, Formulas, NoFormula, AFormula, Graph, formula_at}
use Rattle.cd_model.specs.Kinds.{Kind}
use Rattle.cd_rules.specs.Dnf.{Conjunct, joined, when, dnf, dnf_of_each, dnf_of_one, dnf_at, dnf_of}
use Rattle.cd_rules.specs.Clauses.{IsOfParts, AllOfKind, kind_of_formula, one_more, parts_in}
use Rattle.cd_rules.specs.KindDnf.{is_of, literal_by, kind_dnf, kind_of_each, kind_of_one, kind_at, kind_dnf_of, of_kind, allows, fits, for_kind}

cons_both : (one two : Conjunct) (ones twos : List Conjunct) → one ≡ two → ones ≡ twos → one ∷ ones ≡ two ∷ twos
cons_both one two ones twos same so = ap (λ x. x ∷ ones) same ∙ ap (λ xs. two ∷ xs) so

module _ (kind : Kind) where
  fits_append : (one other : Conjunct) → fits kind (one ++ other) ≡ (fits kind one && fits kind other)
  fits_append [] other = refl
  fits_append (literal ∷ one) other = by_test (allows kind literal) (fits_append one other)
    where
      by_test : (test : Bool) → fits kind (one ++ other) ≡ (fits kind one && fits kind other)
          → (test && fits kind (one ++ other)) ≡ ((test && fits kind one) && fits kind other)
      by_test true rest = rest
      by_test false rest = refl

  of_append : (one other : Conjunct) → of_kind kind (one ++ other) ≡ of_kind kind one ++ of_kind kind other
  of_append [] other = refl
  of_append (literal ∷ one) other = by_test (is_of kind literal.is) (of_append one other)
    where
      by_test : (test : Bool) → of_kind kind (one ++ other) ≡ of_kind kind one ++ of_kind kind other
          → (if test then literal ∷ of_kind kind (one ++ other) else of_kind kind (one ++ other))
          ≡ (if test then literal ∷ of_kind kind one else of_kind kind one) ++ of_kind kind other
      by_test true rest = ap (λ conjunct. literal ∷ conjunct) rest
      by_test false rest = rest

  for_append : (some others : List Conjunct) → for_kind kind (some ++ others) ≡ for_kind kind some ++ for_kind kind others
  for_append [] others = refl
  for_append (conjunct ∷ some) others = by_test (fits kind conjunct) (for_append some others)
    where
      by_test : (test : Bool) → for_kind kind (some ++ others) ≡ for_kind kind some ++ for_kind kind others
          → (if test then of_kind kind conjunct ∷ for_kind kind (some ++ others) else for_kind kind (some ++ others))
          ≡ (if test then of_kind kind conjunct ∷ for_kind kind some else for_kind kind some) ++ for_kind kind others
      by_test true rest = ap (λ more. of_kind kind conjunct ∷ more) rest
      by_test false rest = rest

  -- one conjunct with each of the others
  abbrev with_each : (fitting : Bool) → Conjunct → List Conjunct → List Conjunct
  with_each true conjunct others = map (λ other. conjunct ++ other) others
  with_each false conjunct others = []

  with_each_one : (conjunct : Conjunct) (others : List Conjunct) → for_kind kind (map (λ other. conjunct ++ other) others)
      ≡ with_each (fits kind conjunct) (of_kind kind conjunct) (for_kind kind others)
  with_each_one conjunct [] = by_test (fits kind conjunct)
    where
      by_test : (test : Bool) → [] ≡ with_each test (of_kind kind conjunct) []
      by_test true = refl
      by_test false = refl
  with_each_one conjunct (other ∷ others) = by_tests (fits kind conjunct) (fits kind other) (fits_append conjunct other) (with_each_one conjunct others)
    where
      by_tests : (one two : Bool) → fits kind (conjunct ++ other) ≡ (one && two)
          → for_kind kind (map (λ other. conjunct ++ other) others) ≡ with_each one (of_kind kind conjunct) (for_kind kind others)
          → (if fits kind (conjunct ++ other) then of_kind kind (conjunct ++ other) ∷ for_kind kind (map (λ other. conjunct ++ other) others)
          else for_kind kind (map (λ other. conjunct ++ other) others))
          ≡ with_each one (of_kind kind conjunct) (if two then of_kind kind other ∷ for_kind kind others else for_kind kind others)
      by_tests true true fitting rest = rw fitting (cons_both (of_kind kind (conjunct ++ other)) (of_kind kind conjunct ++ of_kind kind other)
          (for_kind kind (map (λ other. conjunct ++ other) others)) (with_each true (of_kind kind conjunct) (for_kind kind others)) (of_append conjunct other) rest)
      by_tests true false fitting rest = rw fitting rest
      by_tests false two fitting rest = rw fitting rest

  for_joined : (some others : List Conjunct) → for_kind kind (joined some others) ≡ joined (for_kind kind some) (for_kind kind others)
  for_joined [] others = refl
  for_joined (conjunct ∷ some) others = for_append (map (λ other. conjunct ++ other) others) (joined some others)
      ∙ ap (λ more. more ++ for_kind kind (joined some others)) (with_each_one conjunct others)
      ∙ ap (λ more. with_each (fits kind conjunct) (of_kind kind conjunct) (for_kind kind others) ++ more) (for_joined some others)
      ∙ by_test (fits kind conjunct)
    where
      by_test : (test : Bool) → with_each test (of_kind kind conjunct) (for_kind kind others) ++ joined (for_kind kind some) (for_kind kind others)
          ≡ joined (if test then of_kind kind conjunct ∷ for_kind kind some else for_kind kind some) (for_kind kind others)
      by_test true = refl
      by_test false = refl

  for_when : (test : Bool) → when test ≡ for_kind kind (when test)
  for_when true = refl
  for_when false = refl

  for_literal : (is : Formula) (wanted : Bool) → literal_by (is_of kind is) wanted is ≡ for_kind kind ((record { wanted = wanted; is = is } ∷ []) ∷ [])
  for_literal is wanted = by_tests (is_of kind is) wanted
    where
      by_tests : (test wanted : Bool) → literal_by test wanted is ≡ (if (if wanted then test else true) && true
          then (if test then record { wanted = wanted; is = is } ∷ [] else []) ∷ [] else [])
      by_tests true true = refl
      by_tests true false = refl
      by_tests false true = refl
      by_tests false false = refl

  mutual
    pub kind_exact : (is : Formula) (wanted : Bool) → kind_dnf kind is wanted ≡ for_kind kind (dnf is wanted)
    kind_exact formula.Nothing wanted = for_when (not wanted)
    kind_exact formula.Everything wanted = for_when wanted
    kind_exact (formula.And formulas) true = each_exact formulas true
    kind_exact (formula.And formulas) false = one_exact formulas false
    kind_exact (formula.Or formulas) true = one_exact formulas true
    kind_exact (formula.Or formulas) false = each_exact formulas false
    kind_exact (formula.Not is) wanted = kind_exact is (not wanted)
    kind_exact (formula.Ints set) wanted = for_literal (formula.Ints set) wanted
    kind_exact (formula.Chars set) wanted = for_literal (formula.Chars set) wanted
    kind_exact (formula.Atoms set) wanted = for_literal (formula.Atoms set) wanted
    kind_exact (formula.Pair first second) wanted = for_literal (formula.Pair first second) wanted
    kind_exact (formula.Xml tag attributes content) wanted = for_literal (formula.Xml tag attributes content) wanted
    kind_exact (formula.Record named rest) wanted = for_literal (formula.Record named rest) wanted
    kind_exact (formula.Arrow argument result) wanted = for_literal (formula.Arrow argument result) wanted

    each_exact : (formulas : Formulas) (wanted : Bool) → kind_of_each kind formulas wanted ≡ for_kind kind (dnf_of_each formulas wanted)
    each_exact NoFormula wanted = refl
    each_exact (AFormula is rest) wanted = ap (λ some. joined some (kind_of_each kind rest wanted)) (kind_exact is wanted)
        ∙ ap (joined (for_kind kind (dnf is wanted))) (each_exact rest wanted)
        ∙ sym (for_joined (dnf is wanted) (dnf_of_each rest wanted))

    one_exact : (formulas : Formulas) (wanted : Bool) → kind_of_one kind formulas wanted ≡ for_kind kind (dnf_of_one formulas wanted)
    one_exact NoFormula wanted = refl
    one_exact (AFormula is rest) wanted = ap (λ some. some ++ kind_of_one kind rest wanted) (kind_exact is wanted)
        ∙ ap (λ more. for_kind kind (dnf is wanted) ++ more) (one_exact rest wanted)
        ∙ sym (for_append (dnf is wanted) (dnf_of_one rest wanted))

  at_exact : (graph : Graph) (ids : List NodeId) (wanted : Bool) → kind_at kind graph ids wanted ≡ for_kind kind (dnf_at graph ids wanted)
  at_exact graph [] wanted = refl
  at_exact graph (id ∷ ids) wanted = ap (λ some. joined some (kind_at kind graph ids wanted)) (kind_exact (formula_at graph id) wanted)
      ∙ ap (joined (for_kind kind (dnf (formula_at graph id) wanted))) (at_exact graph ids wanted)
      ∙ sym (for_joined (dnf (formula_at graph id) wanted) (dnf_at graph ids wanted))

  pub question_exact : (graph : Graph) (question : Question) → kind_dnf_of kind graph question ≡ for_kind kind (dnf_of graph question)
  question_exact graph question = ap (λ some. joined some (kind_at kind graph question.neg false)) (at_exact graph question.pos true)
      ∙ ap (joined (for_kind kind (dnf_at graph question.pos true))) (at_exact graph question.neg false)
      ∙ sym (for_joined (dnf_at graph question.pos true) (dnf_at graph question.neg false))

  -- a conjunct that has a clause of the kind fits it
  all_fit : ((is : Formula) → kind_of_formula is ≡ Some kind → is_of kind is ≡ true) → (conjunct : Conjunct) → AllOfKind kind conjunct → fits kind conjunct ≡ true
  all_fit says [] all = refl
  all_fit says (literal ∷ conjunct) all = by_test literal.wanted (λ is. says literal.is (all.0 is)) (all_fit says conjunct all.1)
    where
      by_test : (wanted : Bool) → (wanted ≡ true → is_of kind literal.is ≡ true) → fits kind conjunct ≡ true
          → ((if wanted then is_of kind literal.is else true) && fits kind conjunct) ≡ true
      by_test true is rest = rw (is refl) rest
      by_test false is rest = rest

  -- and for the kind it has the same parts
  module _ {X : Type 0} (parts_of : Formula → Option X) (others : (is : Formula) → is_of kind is ≡ false → parts_of is ≡ None) where
    pub parts_same : (sign : Bool) (conjunct : Conjunct) → parts_in parts_of sign (of_kind kind conjunct) ≡ parts_in parts_of sign conjunct
    parts_same sign [] = refl
    parts_same sign (literal ∷ conjunct) = by_test (cases_Bool (is_of kind literal.is)) (parts_same sign conjunct)
      where
        none_more : (sign wanted : Bool) (rest : List X) → rest ≡ one_more sign wanted None rest
        none_more true true rest = refl
        none_more true false rest = refl
        none_more false true rest = refl
        none_more false false rest = refl

        by_test : (is_of kind literal.is ≡ true) ⊎ (is_of kind literal.is ≡ false)
            → parts_in parts_of sign (of_kind kind conjunct) ≡ parts_in parts_of sign conjunct
            → parts_in parts_of sign (of_kind kind (literal ∷ conjunct)) ≡ parts_in parts_of sign (literal ∷ conjunct)
        by_test (inl is) rest = rw is (ap (one_more sign literal.wanted (parts_of literal.is)) rest)
        by_test (inr other) rest = rw other (rw (others literal.is other) (rest ∙ none_more sign literal.wanted (parts_in parts_of sign conjunct)))

    -- the parts of a conjunct
    abbrev pub HasParts : (wanted refused : List X) → Conjunct → Type 0
    HasParts wanted refused conjunct = (wanted ≡ parts_in parts_of true conjunct) × (refused ≡ parts_in parts_of false conjunct)

    for_one : ((is : Formula) → kind_of_formula is ≡ Some kind → is_of kind is ≡ true) → (wanted refused : List X) (all : List Conjunct)
        → AnyOf (λ conjunct. IsOfParts kind parts_of conjunct wanted refused) all → AnyOf (HasParts wanted refused) (for_kind kind all)
    for_one says wanted refused [] is = is
    for_one says wanted refused (conjunct ∷ all) (inl is) = rw (all_fit says conjunct is.0)
        (inl (is.1 ∙ sym (parts_same true conjunct), is.2 ∙ sym (parts_same false conjunct)))
    for_one says wanted refused (conjunct ∷ all) (inr later) = by_test (fits kind conjunct) (for_one says wanted refused all later)
      where
        by_test : (test : Bool) → AnyOf (HasParts wanted refused) (for_kind kind all)
            → AnyOf (HasParts wanted refused) (if test then of_kind kind conjunct ∷ for_kind kind all else for_kind kind all)
        by_test true rest = inr rest
        by_test false rest = rest

    pub clause_of_kind : ((is : Formula) → kind_of_formula is ≡ Some kind → is_of kind is ≡ true) → (graph : Graph) (question : Question)
        (wanted refused : List X) → AnyOf (λ conjunct. IsOfParts kind parts_of conjunct wanted refused) (dnf_of graph question)
        → AnyOf (HasParts wanted refused) (kind_dnf_of kind graph question)
    clause_of_kind says graph question wanted refused is = subst (AnyOf (HasParts wanted refused)) (sym (question_exact graph question))
        (for_one says wanted refused (dnf_of graph question) is)
