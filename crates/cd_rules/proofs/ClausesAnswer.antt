-- Where each clause of a question has all it needs or is refuted, all of them are refuted or one
-- has all it needs.
use Rattle.std.proofs.Common.{◌≡◌, Bool, true, false, List, [], ◌∷◌, ◌⊎◌, inl, inr, refl, sym, ap, subst, true≢false, Option, Some, None}
use Rattle.std.proofs.lemmas.Option.{none-some, same_Some}
use Rattle.cd_sets.specs.declared.question.Question.{Question}
use Rattle.cd_model.specs.AllOf.{AnyOf}
use Rattle.cd_model.specs.Formula.{Formula}
use Rattle.cd_model.specs.Kinds.{Kind, AnInteger, ACharacter, AnAtom, APair, AnXml, ARecord, AFunction}
use Rattle.cd_rules.specs.Dnf.{Conjunct, Literal}
use Rattle.cd_rules.specs.Clauses.{Clause, Ints, Chars, Atoms, Pairs, Xmls, Records, Arrows, kind_of_formula, AllOfKind, parts_in, IsOfParts, IsClauseOf}
use Rattle.cd_rules.specs.Clauses.{integers_of, characters_of, atoms_of, pair_of, xml_of, record_of, arrow_of}
use Rattle.cd_rules.specs.Family.{Refutes}
use Rattle.cd_rules.specs.Members.{IsSupplied}
use Rattle.cd_model.proofs.HoldsOrNot.{HoldsOrNot, each_or_not}

-- two kinds are one or not
kinds_or_not : (one other : Kind) → HoldsOrNot (one ≡ other)
kinds_or_not AnInteger AnInteger = inl refl
kinds_or_not ACharacter ACharacter = inl refl
kinds_or_not AnAtom AnAtom = inl refl
kinds_or_not APair APair = inl refl
kinds_or_not AnXml AnXml = inl refl
kinds_or_not ARecord ARecord = inl refl
kinds_or_not AFunction AFunction = inl refl
kinds_or_not _ _ = inr (λ same. cc)

-- a literal is not wanted or of this kind, or it is wanted and of no such kind
literal_or_not : (kind : Kind) (literal : Literal) → HoldsOrNot (literal.wanted ≡ true → kind_of_formula literal.is ≡ Some kind)
literal_or_not kind literal = by_sign literal.wanted (kind_of_formula literal.is)
  where
    by_kind : (other : Kind) → HoldsOrNot (other ≡ kind) → HoldsOrNot (true ≡ true → Some other ≡ Some kind)
    by_kind other (inl same) = inl (λ wanted. ap Some same)
    by_kind other (inr differ) = inr (λ is. differ (same_Some other kind (is refl)))

    by_sign : (wanted : Bool) (of : Option Kind) → HoldsOrNot (wanted ≡ true → of ≡ Some kind)
    by_sign false of = inl (λ wanted. absurd (true≢false (sym wanted)))
    by_sign true None = inr (λ is. none-some kind (is refl))
    by_sign true (Some other) = by_kind other (kinds_or_not other kind)

kind_or_not : (kind : Kind) (conjunct : Conjunct) → HoldsOrNot (AllOfKind kind conjunct)
kind_or_not kind =
    each_or_not (λ literal. literal.wanted ≡ true → kind_of_formula literal.is ≡ Some kind) (literal_or_not kind)

module _ (fact : Question → Type 0) (family : List Question) where
  -- a clause has all it needs or is refuted
  abbrev pub Settles : Clause → Type 0
  Settles clause = IsSupplied fact clause ⊎ Refutes family clause

  -- the clauses that are such are refuted, or one of them has all it needs
  abbrev pub Answer : (Clause → Type 0) → Type 0
  Answer IsSuch = ((clause : Clause) → IsSuch clause → Refutes family clause) ⊎ ((clause : Clause) × IsSuch clause × IsSupplied fact clause)

  -- the clause of one kind
  module _ {X : Type 0} (kind : Kind) (parts_of : Formula → Option X) (made : List X → List X → Clause) (conjunct : Conjunct) where
    abbrev PartAnswer : Type 0
    PartAnswer = ((wanted refused : List X) → IsOfParts kind parts_of conjunct wanted refused → Refutes family (made wanted refused))
        ⊎ ((wanted refused : List X) × IsOfParts kind parts_of conjunct wanted refused × IsSupplied fact (made wanted refused))

    part_answer : ((wanted refused : List X) → IsOfParts kind parts_of conjunct wanted refused → Settles (made wanted refused)) → PartAnswer
    part_answer settles = by_kind (kind_or_not kind conjunct)
      where
        wanted : List X
        wanted = parts_in parts_of true conjunct

        refused : List X
        refused = parts_in parts_of false conjunct

        the_same : Refutes family (made wanted refused) → (others rest : List X) → IsOfParts kind parts_of conjunct others rest
            → Refutes family (made others rest)
        the_same refuted others rest of = subst (λ (others : List X). Refutes family (made others rest)) (sym of.1)
            (subst (λ (rest : List X). Refutes family (made wanted rest)) (sym of.2) refuted)

        by_clause : AllOfKind kind conjunct → Settles (made wanted refused) → PartAnswer
        by_clause all (inl supplied) = inr (wanted, refused, (all, refl, refl), supplied)
        by_clause all (inr refuted) = inl (the_same refuted)

        by_kind : HoldsOrNot (AllOfKind kind conjunct) → PartAnswer
        by_kind (inl all) = by_clause all (settles wanted refused (all, refl, refl))
        by_kind (inr not) = inl (λ others rest of. absurd (not of.0))

  -- those of a conjunct
  module _ (conjunct : Conjunct) where
    all_refuted : ((wanted refused : _) → IsOfParts AnInteger integers_of conjunct wanted refused → Refutes family (Ints wanted refused))
        → ((wanted refused : _) → IsOfParts ACharacter characters_of conjunct wanted refused → Refutes family (Chars wanted refused))
        → ((wanted refused : _) → IsOfParts AnAtom atoms_of conjunct wanted refused → Refutes family (Atoms wanted refused))
        → ((wanted refused : _) → IsOfParts APair pair_of conjunct wanted refused → Refutes family (Pairs wanted refused))
        → ((wanted refused : _) → IsOfParts AnXml xml_of conjunct wanted refused → Refutes family (Xmls wanted refused))
        → ((wanted refused : _) → IsOfParts ARecord record_of conjunct wanted refused → Refutes family (Records wanted refused))
        → ((wanted refused : _) → IsOfParts AFunction arrow_of conjunct wanted refused → Refutes family (Arrows wanted refused))
        → (clause : Clause) → IsClauseOf conjunct clause → Refutes family clause
    all_refuted ints chars atoms pairs xmls records arrows (Ints wanted refused) of = ints wanted refused of
    all_refuted ints chars atoms pairs xmls records arrows (Chars wanted refused) of = chars wanted refused of
    all_refuted ints chars atoms pairs xmls records arrows (Atoms wanted refused) of = atoms wanted refused of
    all_refuted ints chars atoms pairs xmls records arrows (Pairs wanted refused) of = pairs wanted refused of
    all_refuted ints chars atoms pairs xmls records arrows (Xmls wanted refused) of = xmls wanted refused of
    all_refuted ints chars atoms pairs xmls records arrows (Records wanted refused) of = records wanted refused of
    all_refuted ints chars atoms pairs xmls records arrows (Arrows wanted refused) of = arrows wanted refused of

    joined : PartAnswer AnInteger integers_of Ints conjunct → PartAnswer ACharacter characters_of Chars conjunct
        → PartAnswer AnAtom atoms_of Atoms conjunct → PartAnswer APair pair_of Pairs conjunct → PartAnswer AnXml xml_of Xmls conjunct
        → PartAnswer ARecord record_of Records conjunct → PartAnswer AFunction arrow_of Arrows conjunct → Answer (IsClauseOf conjunct)
    joined (inr one) chars atoms pairs xmls records arrows = inr (Ints one.0 one.1, one.2, one.3)
    joined (inl ints) (inr one) atoms pairs xmls records arrows = inr (Chars one.0 one.1, one.2, one.3)
    joined (inl ints) (inl chars) (inr one) pairs xmls records arrows = inr (Atoms one.0 one.1, one.2, one.3)
    joined (inl ints) (inl chars) (inl atoms) (inr one) xmls records arrows = inr (Pairs one.0 one.1, one.2, one.3)
    joined (inl ints) (inl chars) (inl atoms) (inl pairs) (inr one) records arrows = inr (Xmls one.0 one.1, one.2, one.3)
    joined (inl ints) (inl chars) (inl atoms) (inl pairs) (inl xmls) (inr one) arrows = inr (Records one.0 one.1, one.2, one.3)
    joined (inl ints) (inl chars) (inl atoms) (inl pairs) (inl xmls) (inl records) (inr one) = inr (Arrows one.0 one.1, one.2, one.3)
    joined (inl ints) (inl chars) (inl atoms) (inl pairs) (inl xmls) (inl records) (inl arrows) =
        inl (all_refuted ints chars atoms pairs xmls records arrows)

    conjunct_answer : ((clause : Clause) → IsClauseOf conjunct clause → Settles clause) → Answer (IsClauseOf conjunct)
    conjunct_answer settles = joined
        (part_answer AnInteger integers_of Ints conjunct (λ wanted refused. settles (Ints wanted refused)))
        (part_answer ACharacter characters_of Chars conjunct (λ wanted refused. settles (Chars wanted refused)))
        (part_answer AnAtom atoms_of Atoms conjunct (λ wanted refused. settles (Atoms wanted refused)))
        (part_answer APair pair_of Pairs conjunct (λ wanted refused. settles (Pairs wanted refused)))
        (part_answer AnXml xml_of Xmls conjunct (λ wanted refused. settles (Xmls wanted refused)))
        (part_answer ARecord record_of Records conjunct (λ wanted refused. settles (Records wanted refused)))
        (part_answer AFunction arrow_of Arrows conjunct (λ wanted refused. settles (Arrows wanted refused)))

  -- those of some conjuncts
  abbrev IsOfOne : List Conjunct → Clause → Type 0
  IsOfOne conjuncts clause = AnyOf (λ conjunct. IsClauseOf conjunct clause) conjuncts

  pub conjuncts_answer : (conjuncts : List Conjunct) → ((clause : Clause) → AnyOf (λ conjunct. IsClauseOf conjunct clause) conjuncts → Settles clause)
      → Answer (λ clause. AnyOf (λ conjunct. IsClauseOf conjunct clause) conjuncts)
  conjuncts_answer [] settles = inl (λ clause one. elim one [ ])
  conjuncts_answer (conjunct ∷ conjuncts) settles = by_first
      (conjunct_answer conjunct (λ clause of. settles clause (inl of))) (conjuncts_answer conjuncts (λ clause one. settles clause (inr one)))
    where
      by_first : Answer (IsClauseOf conjunct) → Answer (IsOfOne conjuncts) → Answer (IsOfOne (conjunct ∷ conjuncts))
      by_first (inr one) later = inr (one.0, inl one.1, one.2)
      by_first (inl refuted) (inr one) = inr (one.0, inr one.1, one.2)
      by_first (inl refuted) (inl others) = inl (λ clause one. elim one [ inl of ↦ refuted clause of | inr later ↦ others clause later ])
