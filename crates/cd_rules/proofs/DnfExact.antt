-- A thing is in a formula, or in a question, exactly when it meets one of its conjuncts.
use Rattle.std.proofs.Common.{◌≡◌, Bool, true, false, not, List, [], ◌∷◌, ◌++◌, map, ◌⊎◌, inl, inr, ◌↔◌, refl, sym}
use Rattle.std.proofs.lemmas.Bool.{true≢false}
use Rattle.cd_sets.specs.declared.node_id.NodeId.{NodeId}
use Rattle.cd_sets.specs.declared.question.Question.{Question}
use Rattle.cd_model.specs.AllOf.{AllOf, AnyOf}
use Rattle.cd_model.specs.Formula as formula
use Rattle.cd_model.specs.Formula.{Formula, Formulas, NoFormula, AFormula, Graph, formula_at}
use Rattle.cd_model.specs.Membership.{Reader, holds, each_holds, one_holds, at_nodes, asked}
use Rattle.cd_rules.specs.Dnf.{Conjunct, Meets, joined, dnf, dnf_of_each, dnf_of_one, dnf_at, dnf_of}

-- where each of two facts means another one, both mean the two others
both_mean : {A B C D : Type 0} → (A ↔ C) → (B ↔ D) → (A × B) ↔ (C × D)
both_mean first second = (λ h. (first.0 h.0, second.0 h.1), λ h. (first.1 h.0, second.1 h.1))

-- and one of them means one of the others
one_means : {A B C D : Type 0} → (A ↔ C) → (B ↔ D) → (A ⊎ B) ↔ (C ⊎ D)
one_means first second = (
  λ h. elim h [ inl is ↦ inl (first.0 is) | inr is ↦ inr (second.0 is) ],
  λ h. elim h [ inl is ↦ inl (first.1 is) | inr is ↦ inr (second.1 is) ],
)

-- what one fact means and another means too, and the same from the other side
means_so : {A B C : Type 0} → (A ↔ B) → (B ↔ C) → A ↔ C
means_so first second = (λ h. second.0 (first.0 h), λ h. first.1 (second.1 h))

means_back : {A B : Type 0} → (A ↔ B) → B ↔ A
means_back both = (both.1, both.0)

-- a fact of each of two lists is one of each of the whole
each_of_both : {X : Type 0} (fact : X → Type 0) (xs ys : List X) → AllOf fact (xs ++ ys) ↔ (AllOf fact xs × AllOf fact ys)
each_of_both fact [] ys = (λ each. (tt, each), λ both. both.1)
each_of_both fact (x ∷ xs) ys = (
  λ each. let later = (each_of_both fact xs ys).0 each.1 in ((each.0, later.0), later.1),
  λ both. (both.0.0, (each_of_both fact xs ys).1 (both.0.1, both.1)),
)

-- a fact of one of the whole is one of one of two lists
pub one_of_both : {X : Type 0} (fact : X → Type 0) (xs ys : List X) → AnyOf fact (xs ++ ys) ↔ (AnyOf fact xs ⊎ AnyOf fact ys)
one_of_both fact [] ys = (λ one. inr one, λ either. elim either [ inl none ↦ absurd none | inr one ↦ one ])
one_of_both fact (x ∷ xs) ys = by_rest (one_of_both fact xs ys)
  where
    by_rest : {A B C D : Type 0} → (B ↔ (C ⊎ D)) → (A ⊎ B) ↔ ((A ⊎ C) ⊎ D)
    by_rest rest = (
      λ one. elim one [
        | inl is ↦ inl (inl is)
        | inr later ↦ elim (rest.0 later) [ inl is ↦ inl (inr is) | inr is ↦ inr is ]
      ],
      λ either. elim either [
        | inl (inl is) ↦ inl is
        | inl (inr is) ↦ inr (rest.1 (inl is))
        | inr is ↦ inr (rest.1 (inr is))
      ],
    )

module _ (reader : Reader) where
  -- one of the conjuncts that begin with this one is met where this one is, and one of the others
  one_with : (conjunct : Conjunct) (others : List Conjunct)
      → AnyOf (Meets reader) (map (λ other. conjunct ++ other) others) ↔ (Meets reader conjunct × AnyOf (Meets reader) others)
  one_with conjunct [] = (λ none. absurd none, λ both. both.1)
  one_with conjunct (other ∷ others) =
      by_rest (each_of_both (λ literal. reader literal.is literal.wanted) conjunct other) (one_with conjunct others)
    where
      by_rest : (Meets reader (conjunct ++ other) ↔ (Meets reader conjunct × Meets reader other))
          → (AnyOf (Meets reader) (map (λ other. conjunct ++ other) others) ↔ (Meets reader conjunct × AnyOf (Meets reader) others))
          → (Meets reader (conjunct ++ other) ⊎ AnyOf (Meets reader) (map (λ other. conjunct ++ other) others))
          ↔ (Meets reader conjunct × (Meets reader other ⊎ AnyOf (Meets reader) others))
      by_rest first rest = (
        λ one. elim one [
          | inl is ↦ ((first.0 is).0, inl (first.0 is).1)
          | inr is ↦ ((rest.0 is).0, inr (rest.0 is).1)
        ],
        λ both. elim both.1 [ inl is ↦ inl (first.1 (both.0, is)) | inr is ↦ inr (rest.1 (both.0, is)) ],
      )

  -- one of the joined conjuncts is met where one of these is, and one of those
  pub joined_exact : (first second : List Conjunct)
      → AnyOf (Meets reader) (joined first second) ↔ (AnyOf (Meets reader) first × AnyOf (Meets reader) second)
  joined_exact [] second = (λ none. absurd none, λ both. both.0)
  joined_exact (conjunct ∷ first) second = means_so
      (one_of_both (Meets reader) (map (λ other. conjunct ++ other) second) (joined first second))
      (by_rest (one_with conjunct second) (joined_exact first second))
    where
      by_rest : {A B C D E : Type 0} → (A ↔ (B × C)) → (D ↔ (E × C)) → (A ⊎ D) ↔ ((B ⊎ E) × C)
      by_rest one rest = (
        λ either. elim either [
          | inl is ↦ (inl (one.0 is).0, (one.0 is).1)
          | inr is ↦ (inr (rest.0 is).0, (rest.0 is).1)
        ],
        λ both. elim both.0 [ inl is ↦ inl (one.1 (is, both.1)) | inr is ↦ inr (rest.1 (is, both.1)) ],
      )

  -- a formula that is no connective has one conjunct of one literal
  leaf_exact : {fact : Type 0} → fact ↔ ((fact × Unit {0}) ⊎ ⊥)
  leaf_exact = (λ is. inl (is, tt), λ one. elim one [ inl is ↦ is.0 | inr none ↦ absurd none ])

  nothing_exact : (wanted : Bool) → (wanted ≡ false) ↔ AnyOf (Meets reader) (dnf formula.Nothing wanted)
  nothing_exact true = (λ no. absurd (true≢false no), λ none. absurd none)
  nothing_exact false = (λ _. inl tt, λ _. refl)

  everything_exact : (wanted : Bool) → (wanted ≡ true) ↔ AnyOf (Meets reader) (dnf formula.Everything wanted)
  everything_exact true = (λ _. inl tt, λ _. refl)
  everything_exact false = (λ no. absurd (true≢false (sym no)), λ none. absurd none)

  -- by recursion on the formula
  mutual
    pub dnf_exact : (is : Formula) (wanted : Bool) → holds reader is wanted ↔ AnyOf (Meets reader) (dnf is wanted)
    dnf_exact formula.Nothing wanted = nothing_exact wanted
    dnf_exact formula.Everything wanted = everything_exact wanted
    dnf_exact (formula.Ints set) wanted = leaf_exact
    dnf_exact (formula.Chars set) wanted = leaf_exact
    dnf_exact (formula.Atoms set) wanted = leaf_exact
    dnf_exact (formula.Pair first second) wanted = leaf_exact
    dnf_exact (formula.Xml tag attributes content) wanted = leaf_exact
    dnf_exact (formula.Record named rest) wanted = leaf_exact
    dnf_exact (formula.Arrow argument result) wanted = leaf_exact
    dnf_exact (formula.And formulas) true = each_exact formulas true
    dnf_exact (formula.And formulas) false = one_exact formulas false
    dnf_exact (formula.Or formulas) true = one_exact formulas true
    dnf_exact (formula.Or formulas) false = each_exact formulas false
    dnf_exact (formula.Not is) wanted = dnf_exact is (not wanted)

    -- one conjunct of each of these, and a conjunct of one of them
    pub each_exact : (formulas : Formulas) (wanted : Bool)
        → each_holds reader formulas wanted ↔ AnyOf (Meets reader) (dnf_of_each formulas wanted)
    each_exact NoFormula wanted = (λ _. inl tt, λ _. tt)
    each_exact (AFormula is rest) wanted = means_so (both_mean (dnf_exact is wanted) (each_exact rest wanted))
        (means_back (joined_exact (dnf is wanted) (dnf_of_each rest wanted)))

    pub one_exact : (formulas : Formulas) (wanted : Bool)
        → one_holds reader formulas wanted ↔ AnyOf (Meets reader) (dnf_of_one formulas wanted)
    one_exact NoFormula wanted = (λ none. none, λ none. none)
    one_exact (AFormula is rest) wanted = means_so (one_means (dnf_exact is wanted) (one_exact rest wanted))
        (means_back (one_of_both (Meets reader) (dnf is wanted) (dnf_of_one rest wanted)))

  module _ (graph : Graph) where
    -- a thing answers so at each of some nodes where it meets one conjunct of each
    pub nodes_exact : (ids : List NodeId) (wanted : Bool)
        → AllOf (λ id. holds reader (formula_at graph id) wanted) ids ↔ AnyOf (Meets reader) (dnf_at graph ids wanted)
    nodes_exact [] wanted = (λ _. inl tt, λ _. tt)
    nodes_exact (id ∷ ids) wanted = means_so
        (both_mean (dnf_exact (formula_at graph id) wanted) (nodes_exact ids wanted))
        (means_back (joined_exact (dnf (formula_at graph id) wanted) (dnf_at graph ids wanted)))

    -- it is in a question where it meets one of the question's conjuncts
    pub question_exact : (question : Question)
        → asked (at_nodes graph reader) question true ↔ AnyOf (Meets reader) (dnf_of graph question)
    question_exact question = means_so (both_mean (nodes_exact question.pos true) (nodes_exact question.neg false))
        (means_back (joined_exact (dnf_at graph question.pos true) (dnf_at graph question.neg false)))
