-- Each question has an element or has none, and where it has none it has no value.
--
-- Of all questions of two sets of nodes a family is kept, from which questions that have an element are taken, until it is closed.
use Rattle.std.proofs.Common.{◌≡◌, ℕ, zero, suc, ◌<◌, ◌≤◌, List, [], ◌∷◌, ◌++◌, ◌⊎◌, inl, inr, true, refl, sym, ap, subst, arith, map, length}
use Rattle.cd_sets.specs.declared.question.Question.{Question}
use Rattle.cd_model.specs.BuiltIns.{built_ins}
use Rattle.cd_model.specs.AllOf.{AllOf, AnyOf}
use Rattle.cd_model.specs.Formula.{Graph, IsGraph}
use Rattle.cd_model.specs.Interfaces.{Interfaces}
use Rattle.cd_model.specs.Membership.{asked, answers, reader, value_answers, value_reader}
use Rattle.cd_model.specs.Thing.{Thing, IsValue}
use Rattle.cd_model.specs.Types.{no_closure}
use Rattle.cd_rules.specs.Dnf.{dnf_of}
use Rattle.cd_rules.specs.Clauses.{Clause, Ints, Chars, Atoms, Pairs, Xmls, Records, Arrows, IsClauseOfQuestion}
use Rattle.cd_rules.specs.Family.{IsOfFamily, IsSubsumed, Refutes, IsClosed, AsksNodes}
use Rattle.cd_rules.specs.Members.{HasElement}
use Rattle.cd_rules.specs.Needs.{Way, Need, question, empty_or_not, pair_way, xml_way, arrow_way, splits, splits_in_three}
use Rattle.cd_rules.specs.Rows.{Row, rows_of}
use Rattle.cd_rules.specs.Settled.{IsSettled, AreSettled, HasSettledRow, IsSettledClause}
use Rattle.cd_rules.proofs.Among.{set_among}
use Rattle.cd_rules.proofs.Answered.{each_of_asked}
use Rattle.cd_rules.proofs.Asking.{each_of_set}
use Rattle.cd_rules.proofs.ClausesExact.{thing_exact}
use Rattle.cd_rules.proofs.Subsumption.{subsumes_own, subsumes_more}
use Rattle.cd_rules.proofs.MembersOfClauses.{supplied_has}
use Rattle.cd_rules.proofs.NoMember.{element_out, value_out}
use Rattle.cd_rules.proofs.NumbersBeyond.{has_built_ins, named, of_nodes, asks_nodes, asked_there, asked_back}
use Rattle.cd_model.proofs.Ones.{each_weaker, each_of_all}
use Rattle.cd_rules.proofs.Settling.{each_or_one, clause_settled}
use Rattle.cd_rules.specs.Within.{IsWithin}
use Rattle.cd_rules.proofs.PartsAsk.{RowAsks, clause_is_within, clause_names_labels, pair_ways_ask, xml_ways_ask, arrow_ways_ask, rows_ask}
use Rattle.cd_rules.proofs.BasicNeeds.{needs_known, integer_or_not, character_or_not, atom_or_not}
use Rattle.cd_rules.proofs.ClausesAnswer.{Answer, conjuncts_answer}
use Rattle.cd_model.proofs.HoldsOrNot.{HoldsOrNot}
use Rattle.cd_rules.proofs.NodeSets.{all_questions, among_all}

-- a basic kind has no questions
basic_settled : {X : Type 0} (fact : Question → Type 0) (family : List Question) (IsMember : X → Type 0) (needs : List Need)
    → empty_or_not IsMember needs → AllOf (AreSettled fact family) needs
basic_settled fact family IsMember needs (inl empty) = subst (AllOf (AreSettled fact family)) (sym empty.1) (tt, tt)
basic_settled fact family IsMember needs (inr member) = subst (AllOf (AreSettled fact family)) (sym member.2) tt

module _ (graph more : Graph) (begins : graph ≡ built_ins ++ more) (sound : IsGraph graph) where
  abbrev nodes : ℕ
  nodes = length graph

  -- what asks what a question asks, of sets
  abbrev set_question : Question → Question
  set_question one = question one.pos one.neg

  -- a question has an element, or is of a family
  abbrev HasOrIsOf : List Question → Question → Type 0
  HasOrIsOf family one = HasElement graph one ⊎ IsOfFamily one family

  -- each question of sets has an element, or is of this family
  abbrev Subsumes : List Question → Type 0
  Subsumes family = (one : Question) → IsOfFamily one (all_questions nodes) → HasOrIsOf family one

  module _ (family : List Question) (subsumes : Subsumes family) where
    question_settled : (one : Question) → AsksNodes nodes one → IsSettled (HasElement graph) family one
    question_settled one asks = elim (subsumes (set_question one) (among_all nodes one.pos one.neg
        (each_of_set (λ id. id.0 < nodes) one.pos asks.0, each_of_set (λ id. id.0 < nodes) one.neg asks.1))) [
          | inl has ↦ inl (has.0, has.1, each_of_asked (answers graph has.0) one.pos one.neg has.2)
          | inr of ↦ inr (subsumes_more family one (set_question one) (set_among one.pos, set_among one.neg)
              (subsumes_own family (set_question one) of))
        ]

    way_settled : (way : Way) → AllOf (AsksNodes nodes) way → AllOf (IsSettled (HasElement graph) family) way
    way_settled = each_weaker (AsksNodes nodes) (IsSettled (HasElement graph) family) question_settled

    need_settled : (need : Need) → AllOf (AllOf (AsksNodes nodes)) need → AreSettled (HasElement graph) family need
    need_settled = each_weaker (AllOf (AsksNodes nodes)) (AllOf (IsSettled (HasElement graph) family)) way_settled

    row_settled : (row : Row) → RowAsks nodes row → HasSettledRow (HasElement graph) family row
    row_settled row asks = (
      each_weaker (λ cell. AsksNodes nodes cell.1.value) (λ cell. IsSettled (HasElement graph) family cell.1.value)
          (λ cell. question_settled cell.1.value) row.cells asks.0,
      way_settled row.some asks.1,
    )

    -- so each clause of nodes of the graph is settled
    all_settled : (clause : Clause) → IsWithin nodes clause → IsSettledClause (HasElement graph) family clause
    all_settled (Ints wanted refused) within = let needs = needs_known _ (integer_or_not wanted refused) in
        (needs.0, needs.1, basic_settled (HasElement graph) family _ needs.0 needs.1)
    all_settled (Chars wanted refused) within = let needs = needs_known _ (character_or_not wanted refused) in
        (needs.0, needs.1, basic_settled (HasElement graph) family _ needs.0 needs.1)
    all_settled (Atoms wanted refused) within = let needs = needs_known _ (atom_or_not wanted refused) in
        (needs.0, needs.1, basic_settled (HasElement graph) family _ needs.0 needs.1)
    all_settled (Pairs wanted refused) within = (
      _,
      refl,
      (
        need_settled (map (pair_way wanted) (splits refused)) (pair_ways_ask nodes wanted refused within),
        tt,
      ),
    )
    all_settled (Xmls wanted refused) within = (
      _,
      refl,
      (
        need_settled (map (xml_way wanted) (splits_in_three refused))
            (xml_ways_ask nodes (has_built_ins graph more begins) wanted refused within),
        tt,
      ),
    )
    all_settled (Arrows wanted refused) within = (
      _,
      refl,
      each_weaker (AllOf (AllOf (AsksNodes nodes))) (AreSettled (HasElement graph) family) need_settled
          (map (λ one. map (arrow_way one) (splits wanted)) refused) (arrow_ways_ask nodes wanted refused within),
    )
    all_settled (Records wanted refused) within = each_weaker (RowAsks nodes) (HasSettledRow (HasElement graph) family) row_settled
        (rows_of wanted refused) (rows_ask nodes wanted refused within)

    -- each clause of a question is refuted, or the question has an element
    abbrev IsRefuted : Question → Type 0
    IsRefuted one = (clause : Clause) → IsClauseOfQuestion graph one clause → Refutes family clause

    refuted_or_has : (one : Question) → IsRefuted one ⊎ HasElement graph one
    refuted_or_has one = by_answer (conjuncts_answer (HasElement graph) family (dnf_of graph one)
        (λ clause of. clause_settled (HasElement graph) family clause
        (all_settled clause (clause_is_within graph sound one clause of))))
      where
        by_answer : Answer (HasElement graph) family (IsClauseOfQuestion graph one) → IsRefuted one ⊎ HasElement graph one
        by_answer (inl refuted) = inl refuted
        by_answer (inr supplied) =
            let clause = supplied.0 in
            let names = clause_names_labels graph sound one clause supplied.1 in
            let member = supplied_has graph more begins clause names supplied.2 in
            let is = member.0 in
            inr (
              is,
              member.1,
              (thing_exact graph no_closure one is).1 (clause, supplied.1, member.2),
            )

  -- a family without one of its questions, which has an element
  record Without (family : List Question) : Type 0 where
    rest : List Question
    shorter : suc (length rest) ≡ length family
    others : (one : Question) → IsOfFamily one family → HasOrIsOf rest one

  without : (family : List Question) → AnyOf (HasElement graph) family → Without family
  without [] has = elim has [ ]
  without (first ∷ family) (inl has) = record {
    rest = family;
    shorter = refl;
    others = λ one there. elim there [ inl same ↦ inl (subst (HasElement graph) same has) | inr later ↦ inr later ];
  }
  without (first ∷ family) (inr later) = let less = without family later in record {
    rest = first ∷ less.rest;
    shorter = ap suc less.shorter;
    others = λ one there. elim there [
      | inl same ↦ inr (inl same)
      | inr further ↦ elim (less.others one further) [ inl has ↦ inl has | inr stays ↦ inr (inr stays) ]
    ];
  }

  -- there is a closed family
  abbrev HasClosed : Type 0
  HasClosed = (family : List Question) × IsClosed graph family × Subsumes family

  closed_of : (most : ℕ) (family : List Question) → length family ≤ most → Subsumes family → HasClosed
  closed_of most [] short subsumes = ([], tt, subsumes)
  closed_of zero (first ∷ family) short subsumes = absurd (omega arith)
  closed_of (suc most) (first ∷ family) short subsumes =
      by_answer (each_or_one (IsRefuted (first ∷ family) subsumes) (HasElement graph) (first ∷ family)
      (each_of_all (λ one. IsRefuted (first ∷ family) subsumes one ⊎ HasElement graph one)
      (refuted_or_has (first ∷ family) subsumes) (first ∷ family))) (closed_of most)
    where
      by_answer : AllOf (IsRefuted (first ∷ family) subsumes) (first ∷ family) ⊎ AnyOf (HasElement graph) (first ∷ family)
          → ((family : List Question) → length family ≤ most → Subsumes family → HasClosed) → HasClosed
      by_answer (inl closed) go_on = (first ∷ family, closed, subsumes)
      by_answer (inr has) go_on =
          let less = without (first ∷ family) has in
          let shorter = less.shorter in
          go_on less.rest (omega arith)
          (λ one there. elim (subsumes one there) [ inl has ↦ inl has | inr of ↦ less.others one of ])

  closed : HasClosed
  closed = closed_of (length (all_questions nodes)) (all_questions nodes) (omega arith) (λ one there. inr there)

  -- so a question has an element, or the family subsumes that of the same nodes
  has_or_subsumed : (one : Question) → HasElement graph one ⊎ IsSubsumed (of_nodes graph more begins one) closed.0
  has_or_subsumed one = by_settled (closed.2 (of_nodes graph more begins one)
      (among_all nodes (map (named graph more begins) one.pos) (map (named graph more begins) one.neg) (asks_nodes graph more begins one)))
    where
      by_settled : HasOrIsOf closed.0 (of_nodes graph more begins one)
          → HasElement graph one ⊎ IsSubsumed (of_nodes graph more begins one) closed.0
      by_settled (inl has) = inl (has.0, has.1, asked_back graph more begins (reader graph has.0) one has.2)
      by_settled (inr there) = inr (subsumes_own closed.0 (of_nodes graph more begins one) there)

  pub has_or_not : (one : Question) → HoldsOrNot (HasElement graph one)
  has_or_not one = elim (has_or_subsumed one) [
    | inl has ↦ inl has
    | inr there ↦ inr (λ has. element_out graph (more, begins) closed.0 closed.1 has.0 has.1 (of_nodes graph more begins one)
        (asked_there graph more begins (reader graph has.0) one has.2) there)
  ]

  -- where a value is in a question, an element is too
  pub element_too : (one : Question) (interfaces : Interfaces) (v : Thing) → IsValue v
      → asked (value_answers graph interfaces v) one true → HasElement graph one
  element_too one interfaces v is inside = elim (has_or_subsumed one) [
    | inl has ↦ has
    | inr there ↦ absurd (value_out graph (more, begins) closed.0 closed.1 interfaces v is (of_nodes graph more begins one)
        (asked_there graph more begins (value_reader graph interfaces v) one inside) there)
  ]
