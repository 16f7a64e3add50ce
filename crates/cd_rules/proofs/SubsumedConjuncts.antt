-- A partial conjunct fails where what it wants, or refuses, so far has a subsumed question: each
-- clause of a conjunct with its literals is refuted. So it need not be joined with others.
use Rattle.std.proofs.Common.{◌≡◌, Bool, true, false, ◌&&◌, ◌⊎◌, List, [], ◌∷◌, ◌++◌, Option, Some, None, map, inl, inr, refl, sym, ap, subst, ◌∙◌}
use Rattle.std.proofs.lemmas.Bool.{true≢false}
use Rattle.std.specs.List.{list_all}
use Rattle.cd_sets.specs.declared.node_id.NodeId.{NodeId}
use Rattle.cd_sets.specs.declared.question.Question.{Question}
use Rattle.cd_syntax.specs.Name.{Name}
use Rattle.cd_model.specs.BuiltIns.{ATOM, RECORD}
use Rattle.cd_model.specs.AllOf.{AnyOf}
use Rattle.cd_model.specs.Formula.{Formula, Field}
use Rattle.cd_model.specs.Kinds.{Kind, APair, AnXml, ARecord, AFunction}
use Rattle.cd_model.proofs.Labels.{IsOneOf}
use Rattle.cd_rules.specs.Dnf.{Conjunct}
use Rattle.cd_rules.specs.Clauses.{Pairs, Xmls, Records, Arrows, Pair, Triple, RecordType, one_more, parts_in}
use Rattle.cd_rules.specs.Clauses.{pair_of, xml_of, record_of, arrow_of}
use Rattle.cd_rules.specs.Fails.{row_seen}
use Rattle.cd_rules.specs.Family.{AreAmong, IsSubsumed, Refutes}
use Rattle.cd_rules.specs.Needs.{question}
use Rattle.cd_rules.specs.PartialConjuncts.{Signed, partial, clause_by, completions, PartialFails}
use Rattle.cd_rules.specs.Rows.{labels_of, field_at, cell_at}
use Rattle.cd_rules.specs.Tasks.{PairTask, XmlTask, ArrowTask, questions_of, TaskFails}
use Rattle.cd_rules.proofs.Among.{among_longer, among_map, among_both, one_of_among}
use Rattle.cd_rules.proofs.Subsumption.{asks_more, subsumes_more}
use Rattle.cd_rules.proofs.FailingTasks.{subsumed_fails, task_refutes}
use Rattle.cd_rules.proofs.LabelsNamed.{IsUnnamed, named_or_unnamed, unnamed_parts}
use Rattle.cd_model.proofs.Ones.{one_weaker, one_of_map, each_of_all}

-- the parts of a longer conjunct are those of both
one_more_longer : {X : Type 0} (sign wanted : Bool) (is : Option X) (some others : List X)
    → one_more sign wanted is (some ++ others) ≡ one_more sign wanted is some ++ others
one_more_longer true true (Some x) some others = refl
one_more_longer false false (Some x) some others = refl
one_more_longer true true None some others = refl
one_more_longer false false None some others = refl
one_more_longer true false is some others = refl
one_more_longer false true is some others = refl

module _ {X : Type 0} (parts_of : Formula → Option X) (sign : Bool) where
  parts_longer : (conjunct rest : Conjunct)
      → parts_in parts_of sign (conjunct ++ rest) ≡ parts_in parts_of sign conjunct ++ parts_in parts_of sign rest
  parts_longer [] rest = refl
  parts_longer (literal ∷ conjunct) rest = ap (one_more sign literal.wanted (parts_of literal.is)) (parts_longer conjunct rest)
      ∙ one_more_longer sign literal.wanted (parts_of literal.is) (parts_in parts_of sign conjunct) (parts_in parts_of sign rest)

  parts_among : (conjunct rest : Conjunct) → AreAmong (parts_in parts_of sign conjunct) (parts_in parts_of sign (conjunct ++ rest))
  parts_among conjunct rest = subst (AreAmong (parts_in parts_of sign conjunct)) (sym (parts_longer conjunct rest))
      (among_longer (parts_in parts_of sign conjunct) (parts_in parts_of sign rest))

among_after : (before some all : List NodeId) → AreAmong some all → AreAmong (before ++ some) (before ++ all)
among_after [] some all among = among
among_after (id ∷ before) some all among = among_both id (before ++ some) (before ++ all) (among_after before some all among)

-- a record type that asks for a field at a label: no cell of the label is one that may be absent
is_asked_for : (label : Name) (types : List RecordType) → AnyOf (λ type. (field_at type label).optional ≡ false) types
    → (list_all (λ type. (field_at type label).optional) types && true) ≡ false
is_asked_for label [] is = elim is [ ]
is_asked_for label (type ∷ types) (inl is) = rw is refl
is_asked_for label (type ∷ types) (inr later) = by_test (field_at type label).optional (is_asked_for label types later)
  where
    by_test : (test : Bool) → (list_all (λ type. (field_at type label).optional) types && true) ≡ false
        → ((test && list_all (λ type. (field_at type label).optional) types) && true) ≡ false
    by_test true rest = rest
    by_test false rest = refl

-- so a label is named where a type asks for a field there
asked_is_named : (label : Name) (types others : List RecordType) → AnyOf (λ type. (field_at type label).optional ≡ false) types
    → IsOneOf (labels_of (types ++ others)) label
asked_is_named label types others asked = by_both (named_or_unnamed (types ++ others) label)
  where
    none_asks : (some : List RecordType) → IsUnnamed some label → AnyOf (λ type. (field_at type label).optional ≡ false) some → ⊥
    none_asks [] unnamed is = is
    none_asks (type ∷ some) unnamed (inl is) = let free = ap (λ (field : Field). field.optional) unnamed.0 in true≢false (sym free ∙ is)
    none_asks (type ∷ some) unnamed (inr later) = none_asks some unnamed.1 later

    by_both : IsOneOf (labels_of (types ++ others)) label ⊎ IsUnnamed (types ++ others) label → IsOneOf (labels_of (types ++ others)) label
    by_both (inl named) = named
    by_both (inr unnamed) = absurd (none_asks types (unnamed_parts types others label unnamed).0 asked)

module _ (family : List Question) where
  -- the question of a part is subsumed where it is of a conjunct that wants less
  stays_subsumed : {X : Type 0} (parts_of : Formula → Option X) (part : X → NodeId) (before : List NodeId) (conjunct rest : Conjunct)
      → IsSubsumed (question (before ++ map part (parts_in parts_of true conjunct)) []) family
      → IsSubsumed (question (before ++ map part (parts_in parts_of true (conjunct ++ rest))) []) family
  stays_subsumed parts_of part before conjunct rest =
      let some = before ++ map part (parts_in parts_of true conjunct) in
      let all = before ++ map part (parts_in parts_of true (conjunct ++ rest)) in
      subsumes_more family (question all []) (question some []) (asks_more some [] all [] (among_after before
      (map part (parts_in parts_of true conjunct)) (map part (parts_in parts_of true (conjunct ++ rest)))
      (among_map part (parts_in parts_of true conjunct) (parts_in parts_of true (conjunct ++ rest)) (parts_among parts_of true conjunct rest))) tt)

  -- so whatever completes the conjunct, its clause is refuted
  cut : (kind : Kind) (conjunct : Conjunct) (left : List Signed) → ((rest : Conjunct) → Refutes family (clause_by kind (conjunct ++ rest)))
      → PartialFails family (partial kind conjunct left)
  cut kind conjunct left refutes = each_of_all (λ rest. Refutes family (clause_by kind (conjunct ++ rest))) refutes (completions kind left)

  pub pair_cut : (conjunct : Conjunct) (left : List Signed)
      → IsSubsumed (question (map (λ parts. parts.0) (parts_in pair_of true conjunct)) []) family
      ⊎ IsSubsumed (question (map (λ parts. parts.1) (parts_in pair_of true conjunct)) []) family
      → PartialFails family (partial APair conjunct left)
  pair_cut conjunct left subsumed = cut APair conjunct left (λ rest.
      let wanted = parts_in pair_of true (conjunct ++ rest) in let refused = parts_in pair_of false (conjunct ++ rest) in
      task_refutes family (Pairs wanted refused) (inl (subsumed_fails family (PairTask wanted refused ([], []) refused) (by_part rest subsumed))))
    where
      by_part : (rest : Conjunct) → IsSubsumed (question (map (λ parts. parts.0) (parts_in pair_of true conjunct)) []) family
          ⊎ IsSubsumed (question (map (λ parts. parts.1) (parts_in pair_of true conjunct)) []) family
          → AnyOf (λ question. IsSubsumed question family) (questions_of (PairTask (parts_in pair_of true (conjunct ++ rest))
          (parts_in pair_of false (conjunct ++ rest)) ([], []) (parts_in pair_of false (conjunct ++ rest))))
      by_part rest (inl is) = inl (stays_subsumed pair_of (λ (parts : Pair). parts.0) [] conjunct rest is)
      by_part rest (inr is) = inr (inl (stays_subsumed pair_of (λ (parts : Pair). parts.1) [] conjunct rest is))

  pub xml_cut : (conjunct : Conjunct) (left : List Signed)
      → IsSubsumed (question (ATOM ∷ map (λ parts. parts.0) (parts_in xml_of true conjunct)) []) family
      ⊎ IsSubsumed (question (RECORD ∷ map (λ parts. parts.1) (parts_in xml_of true conjunct)) []) family
      ⊎ IsSubsumed (question (map (λ parts. parts.2) (parts_in xml_of true conjunct)) []) family
      → PartialFails family (partial AnXml conjunct left)
  xml_cut conjunct left subsumed = cut AnXml conjunct left (λ rest.
      let wanted = parts_in xml_of true (conjunct ++ rest) in let refused = parts_in xml_of false (conjunct ++ rest) in
      task_refutes family (Xmls wanted refused) (inl (subsumed_fails family (XmlTask wanted refused ([], [], []) refused) (by_part rest subsumed))))
    where
      by_part : (rest : Conjunct) → IsSubsumed (question (ATOM ∷ map (λ parts. parts.0) (parts_in xml_of true conjunct)) []) family
          ⊎ IsSubsumed (question (RECORD ∷ map (λ parts. parts.1) (parts_in xml_of true conjunct)) []) family
          ⊎ IsSubsumed (question (map (λ parts. parts.2) (parts_in xml_of true conjunct)) []) family
          → AnyOf (λ question. IsSubsumed question family) (questions_of (XmlTask (parts_in xml_of true (conjunct ++ rest))
          (parts_in xml_of false (conjunct ++ rest)) ([], [], []) (parts_in xml_of false (conjunct ++ rest))))
      by_part rest (inl is) = inl (stays_subsumed xml_of (λ (parts : Triple). parts.0) (ATOM ∷ []) conjunct rest is)
      by_part rest (inr (inl is)) = inr (inl (stays_subsumed xml_of (λ (parts : Triple). parts.1) (RECORD ∷ []) conjunct rest is))
      by_part rest (inr (inr is)) = inr (inr (inl (stays_subsumed xml_of (λ (parts : Triple). parts.2) [] conjunct rest is)))

  -- of records a field that has to be there
  pub record_cut : (conjunct : Conjunct) (left : List Signed) (label : Name)
      → AnyOf (λ type. (field_at type label).optional ≡ false) (parts_in record_of true conjunct)
      → IsSubsumed (question (map (λ type. (field_at type label).type) (parts_in record_of true conjunct)) []) family
      → PartialFails family (partial ARecord conjunct left)
  record_cut conjunct left label has subsumed = cut ARecord conjunct left (λ rest.
      let wanted = parts_in record_of true (conjunct ++ rest) in let refused = parts_in record_of false (conjunct ++ rest) in
      let asked = one_of_among (λ type. (field_at type label).optional ≡ false) (parts_in record_of true conjunct) wanted
      (parts_among record_of true conjunct rest) has in
      task_refutes family (Records wanted refused) (inl (row_seen [] (inl
      (one_of_map (λ label. (label, cell_at wanted [] label)) (λ cell. (cell.1.absent ≡ false) × IsSubsumed cell.1.value family)
      (labels_of (wanted ++ refused))
      (one_weaker (λ name. name ≡ label) (IsRefuted rest) (λ name same. subst (IsRefuted rest) (sym same) (
        is_asked_for label wanted asked,
        stays_subsumed record_of (λ type. (field_at type label).type) [] conjunct rest subsumed,
      )) (labels_of (wanted ++ refused)) (asked_is_named label wanted refused asked)))))))
    where
      IsRefuted : Conjunct → Name → Type 0
      IsRefuted rest label = ((cell_at (parts_in record_of true (conjunct ++ rest)) [] label).absent ≡ false)
          × IsSubsumed (cell_at (parts_in record_of true (conjunct ++ rest)) [] label).value family

  -- of functions the argument of a refused arrow
  pub arrow_cut : (conjunct : Conjunct) (left : List Signed)
      → AnyOf (λ parts. IsSubsumed (question (parts.0 ∷ []) []) family) (parts_in arrow_of false conjunct)
      → PartialFails family (partial AFunction conjunct left)
  arrow_cut conjunct left subsumed = cut AFunction conjunct left (λ rest.
      let wanted = parts_in arrow_of true (conjunct ++ rest) in let refused = parts_in arrow_of false (conjunct ++ rest) in
      task_refutes family (Arrows wanted refused) (one_of_map (λ one. ArrowTask one wanted ([], []) wanted) (TaskFails family) refused
      (one_weaker (λ parts. IsSubsumed (question (parts.0 ∷ []) []) family) (λ one. TaskFails family (ArrowTask one wanted ([], []) wanted))
      (λ one is. subsumed_fails family (ArrowTask one wanted ([], []) wanted) (inl is)) refused
      (one_of_among (λ parts. IsSubsumed (question (parts.0 ∷ []) []) family) (parts_in arrow_of false conjunct) refused
      (parts_among arrow_of false conjunct rest) subsumed))))
