-- The XML things of a question are in the boxes of its clauses of XML things, and elements that are
-- in a box make an XML element of the question, since its tag is an atom and its attributes are a
-- record.
use Rattle.std.proofs.Common.{◌≡◌, ℕ, Bool, true, false, List, [], ◌∷◌, ◌++◌, ◌⊎◌, inl, inr, map}
use Rattle.std.proofs.Common.{refl, ap, sym, subst}
use Rattle.std.proofs.lemmas.Bool.{true≢false}
use Rattle.cd_sets.specs.declared.node_id.NodeId.{NodeId}
use Rattle.cd_sets.specs.declared.question.Question.{Question}
use Rattle.cd_model.specs.AllOf.{AllOf, AnyOf}
use Rattle.cd_model.specs.BuiltIns.{built_ins, ATOM, RECORD}
use Rattle.cd_model.specs.Formula.{Graph, in_node}
use Rattle.cd_model.specs.Kinds.{Kind, AnXml}
use Rattle.cd_model.specs.Membership.{Answers, Mapping, Reader}
use Rattle.cd_model.specs.Thing as thing
use Rattle.cd_model.specs.Thing.{Thing, IsElement, IsAtom, IsRecord}
use Rattle.cd_model.specs.Types.{no_closure}
use Rattle.cd_model.proofs.Ones.{one_on_left, one_on_right, one_on_a_side}
use Rattle.cd_rules.specs.Clauses.{Clause, Triple, Ints, Chars, Atoms, Pairs, Xmls, Records, Arrows}
use Rattle.cd_rules.specs.Clauses.{IsClauseOfQuestion, IsInClause}
use Rattle.cd_rules.proofs.ClausesExact.{thing_exact}
use Rattle.cd_rules.proofs.MembersOfXmls.{atom_of_answer, record_of_answer}
use Rattle.cd_rules.proofs.NoMember.{tag_in, attributes_in}
use Rattle.cd_rules.proofs.PairsBack.{xmls_back}
use Rattle.cd_rules.proofs.Things.{answers_of, reader_of}
use Rattle.cd_rules.proofs.WaysExact.{xml_exact}
use Rattle.cd_products.specs.InBoxes.{InClause, OutsideRow}
use Rattle.cd_products.specs.QuestionBoxes.{QuestionClause, InQuestion, CoverXml, MakeXml}
use Rattle.cd_products.specs.Inner.ClauseBoxes.{AreClauses, triple_row, triple_box, triple_box_of}
use Rattle.cd_products.specs.Inner.ClauseBoxes.{triple_boxes}
use Rattle.cd_products.proofs.AmongClauses.{among_clauses}

abbrev is_xml : Kind → Bool
is_xml AnXml = true
is_xml _ = false

-- whatever closures map
module _ (graph : Graph) (begins : (more : Graph) × (graph ≡ built_ins ++ more))
    (closed : ℕ → Mapping) (tag attributes content : Thing) where
  abbrev answers : Thing → Answers
  answers = answers_of graph closed

  abbrev things : List Thing
  things = tag ∷ attributes ∷ content ∷ []

  abbrev at_xml : Reader
  at_xml = reader_of graph closed (thing.Xml tag attributes content)

  abbrev IsIn : QuestionClause → Type 0
  IsIn = InClause Thing Question NodeId (InQuestion answers) answers things

  abbrev IsOut : List NodeId → Type 0
  IsOut = OutsideRow Thing Question NodeId (InQuestion answers) answers things

  abbrev IsOutside : Triple → Type 0
  IsOutside parts = answers tag parts.0 false ⊎ answers attributes parts.1 false
      ⊎ answers content parts.2 false

  out : (refused : List Triple) → AllOf IsOutside refused → AllOf IsOut (map triple_row refused)
  out [] each = tt
  out (parts ∷ refused) each = (by_part each.0, out refused each.1)
    where
      by_part : IsOutside parts → IsOut (triple_row parts)
      by_part (inl is) = inl is
      by_part (inr (inl is)) = inr (inl is)
      by_part (inr (inr is)) = inr (inr (inl is))

  out_back : (refused : List Triple) → AllOf IsOut (map triple_row refused)
      → AllOf IsOutside refused
  out_back [] each = tt
  out_back (parts ∷ refused) each = (by_part each.0, out_back refused each.1)
    where
      by_part : IsOut (triple_row parts) → IsOutside parts
      by_part (inl is) = inl is
      by_part (inr (inl is)) = inr (inl is)
      by_part (inr (inr (inl is))) = inr (inr is)
      by_part (inr (inr (inr none))) = absurd none

  -- an XML thing of a clause has its parts in the clause's box
  module _ (is_atom : IsAtom tag) (is_record : IsRecord attributes) where
    in_box : (wanted refused : List Triple) → IsInClause AnXml at_xml (Xmls wanted refused)
        → IsIn (triple_box wanted refused)
    in_box wanted refused within =
        elim ((xml_exact wanted [] (answers tag) (answers attributes) (answers content)
        (tag_in graph begins closed tag is_atom)
        (attributes_in graph begins closed attributes is_record)).0 (refl, within.1, tt)) [
          | inl inside ↦ (inside, out refused within.2)
          | inr none ↦ absurd none
        ]

    box_of_clause : (clause : Clause) → IsInClause AnXml at_xml clause
        → AnyOf IsIn (triple_box_of clause)
    box_of_clause (Xmls wanted refused) within = inl (in_box wanted refused within)
    box_of_clause (Ints _ _) within = absurd (true≢false (ap is_xml within.0))
    box_of_clause (Chars _ _) within = absurd (true≢false (ap is_xml within.0))
    box_of_clause (Atoms _ _) within = absurd (true≢false (ap is_xml within.0))
    box_of_clause (Pairs _ _) within = absurd (true≢false (ap is_xml within.0))
    box_of_clause (Records _ _) within = absurd (true≢false (ap is_xml within.0))
    box_of_clause (Arrows _ _) within = absurd (true≢false (ap is_xml within.0))

    box_among : (clause : Clause) (all : List Clause) → AnyOf (λ other. other ≡ clause) all
        → IsInClause AnXml at_xml clause → AnyOf IsIn (triple_boxes all)
    box_among clause [] among within = absurd among
    box_among clause (other ∷ all) (inl same) within =
        one_on_left IsIn (triple_box_of other) (triple_boxes all)
        (box_of_clause other (subst (IsInClause AnXml at_xml) (sym same) within))
    box_among clause (other ∷ all) (inr later) within =
        one_on_right IsIn (triple_box_of other) (triple_boxes all)
        (box_among clause all later within)

  -- and what is in a box is in the clause, and its parts are in the nodes of atoms and of records
  in_clause : (wanted refused : List Triple) → IsIn (triple_box wanted refused)
      → answers tag ATOM true × answers attributes RECORD true
      × IsInClause AnXml at_xml (Xmls wanted refused)
  in_clause wanted refused inside =
      let back = xmls_back (answers tag) (answers attributes) (answers content) wanted []
      ([], [], []) (inl refl) inside.0.0 inside.0.1.0 inside.0.1.1.0 in
      (back.0, back.1, (refl, back.2, out_back refused inside.1))

  clause_of_box : (clause : Clause) → AnyOf IsIn (triple_box_of clause)
      → answers tag ATOM true × answers attributes RECORD true × IsInClause AnXml at_xml clause
  clause_of_box (Xmls wanted refused) (inl inside) = in_clause wanted refused inside
  clause_of_box (Xmls wanted refused) (inr none) = absurd none
  clause_of_box _ none = absurd none

  clause_among : (all : List Clause) (fact : Clause → Type 0) → AllOf fact all
      → AnyOf IsIn (triple_boxes all) → (clause : Clause) × fact clause × answers tag ATOM true
      × answers attributes RECORD true × IsInClause AnXml at_xml clause
  clause_among [] fact each one = absurd one
  clause_among (clause ∷ all) fact each one =
      elim (one_on_a_side IsIn (triple_box_of clause) (triple_boxes all) one) [
        | inl here ↦ let is = clause_of_box clause here in (clause, each.0, is.0, is.1, is.2)
        | inr later ↦ clause_among all fact each.1 later
      ]

module _ (graph : Graph) (begins : (more : Graph) × (graph ≡ built_ins ++ more))
    (question : Question) (all : List Clause) (are : AreClauses graph question all) where
  module _ (closed : ℕ → Mapping) where
    abbrev of_graph : Thing → Answers
    of_graph = answers_of graph closed

    abbrev InIt : (tag attributes content : Thing) → Clause → Type 0
    InIt tag attributes content =
        IsInClause AnXml (reader_of graph closed (thing.Xml tag attributes content))

    -- where XML things of a sort have atoms as tags and records as attributes
    pub cover_xml : (Sort : Thing → Type 0)
        → ((tag attributes content : Thing) → Sort (thing.Xml tag attributes content)
        → IsAtom tag × IsRecord attributes) → CoverXml of_graph Sort question (triple_boxes all)
    cover_xml Sort are_sound tag attributes content sort asking =
        let sound = are_sound tag attributes content sort in
        let is = (thing_exact graph closed question (thing.Xml tag attributes content)).0 asking in
        box_among graph begins closed tag attributes content sound.0 sound.1 is.0 all
        (among_clauses AnXml refl (reader_of graph closed (thing.Xml tag attributes content))
        graph question all are is.0 is.1 is.2) is.2

  pub make_xml : MakeXml (in_node graph) IsElement question (triple_boxes all)
  make_xml tag attributes content of_tag of_attributes of_content one =
      let is = clause_among graph begins no_closure tag attributes content all
      (IsClauseOfQuestion graph question) are.0 one in (
        (
          atom_of_answer begins.0 tag
              (subst (λ graph. in_node graph tag ATOM true) begins.1 is.2),
          record_of_answer begins.0 attributes
              (subst (λ graph. in_node graph attributes RECORD true) begins.1 is.3),
          of_tag,
          of_attributes,
          of_content,
        ),
        (thing_exact graph no_closure question (thing.Xml tag attributes content)).1
            (is.0, is.1, is.4),
      )
