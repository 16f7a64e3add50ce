-- An XML thing of a clause has its parts in all three questions of one of the ways of the clause's need.
use Rattle.std.proofs.Common.{true, false, List, [], ◌∷◌, map}
use Rattle.cd_sets.specs.declared.node_id.NodeId.{NodeId}
use Rattle.cd_sets.specs.declared.question.Question.{Question}
use Rattle.cd_model.specs.AllOf.{AllOf, AnyOf}
use Rattle.cd_model.specs.BuiltIns.{ATOM, RECORD}
use Rattle.cd_model.specs.Formula as formula
use Rattle.cd_model.specs.Membership.{Answers, asked, xml_reader}
use Rattle.cd_rules.specs.Clauses.{Triple}
use Rattle.cd_rules.specs.InWay.{AreInWay}
use Rattle.cd_rules.specs.Needs.{question, xml_way, splits_in_three}
use Rattle.cd_rules.proofs.Asking.{each_of_map, asked_of_each}
use Rattle.cd_rules.proofs.PairsForward.{asked_of_parts, facts_of_way}
use Rattle.cd_model.proofs.Ones.{each_weaker, one_weaker, one_of_map}
use Rattle.cd_rules.proofs.Sides.{HaveThree, one_splits_in_three}
use Rattle.cd_rules.proofs.Things.{IsAskedFact}

-- the same where one node more is wanted
asked_of_more : {X : Type 0} (answers : Answers) (more : NodeId) (part : X → NodeId) (wanted refused : List X) → answers more true
    → AllOf (λ parts. answers (part parts) true) wanted → AllOf (λ parts. answers (part parts) false) refused
    → asked answers (question (more ∷ map part wanted) (map part refused)) true
asked_of_more answers more part wanted refused is inside outside = asked_of_each answers (more ∷ map part wanted) (map part refused)
    (is, each_of_map part (λ id. answers id true) wanted inside) (each_of_map part (λ id. answers id false) refused outside)

-- an XML thing of a clause, whose tag is an atom and whose attributes are a record, has its parts in one way
pub xml_in_way : (tag attributes content : Answers) → tag ATOM true → attributes RECORD true
    → (wanted refused : List Triple)
    → AllOf (λ parts. xml_reader tag attributes content (formula.Xml parts.0 parts.1 parts.2) true) wanted
    → AllOf (λ parts. xml_reader tag attributes content (formula.Xml parts.0 parts.1 parts.2) false) refused
    → AnyOf (AreInWay (tag ∷ attributes ∷ content ∷ [])) (map (xml_way wanted) (splits_in_three refused))
xml_in_way tag attributes content is_atom is_record wanted refused inside outside =
    one_of_map (xml_way wanted) (AreInWay (tag ∷ attributes ∷ content ∷ [])) (splits_in_three refused)
    (one_weaker (HaveThree out_tag out_attributes out_content) (λ given. AreInWay (tag ∷ attributes ∷ content ∷ []) (xml_way wanted given))
    of_way (splits_in_three refused) (one_splits_in_three out_tag out_attributes out_content refused outside))
  where
    out_tag : Triple → Type 0
    out_tag = λ parts. tag parts.0 false

    out_attributes : Triple → Type 0
    out_attributes = λ parts. attributes parts.1 false

    out_content : Triple → Type 0
    out_content = λ parts. content parts.2 false

    all_in : Triple → Type 0
    all_in = λ parts. tag parts.0 true × attributes parts.1 true × content parts.2 true

    in_tag : AllOf (λ (parts : Triple). tag parts.0 true) wanted
    in_tag = each_weaker all_in (λ parts. tag parts.0 true) (λ parts is. is.0) wanted inside

    in_attributes : AllOf (λ (parts : Triple). attributes parts.1 true) wanted
    in_attributes = each_weaker all_in (λ parts. attributes parts.1 true) (λ parts is. is.1) wanted inside

    in_content : AllOf (λ (parts : Triple). content parts.2 true) wanted
    in_content = each_weaker all_in (λ parts. content parts.2 true) (λ parts is. is.2) wanted inside

    of_way : (given : List Triple × List Triple × List Triple) → HaveThree out_tag out_attributes out_content given
        → AreInWay (tag ∷ attributes ∷ content ∷ []) (xml_way wanted given)
    of_way given all = (
      asked_of_more tag ATOM (λ parts. parts.0) wanted given.0 is_atom in_tag all.0,
      (
        asked_of_more attributes RECORD (λ parts. parts.1) wanted given.1 is_record in_attributes all.1,
        (asked_of_parts content (λ parts. parts.2) wanted given.2 in_content all.2, tt),
      ),
    )

-- so what is so of each question that a part of it is in is so of all questions of one way
pub xmls_forward : (tag attributes content : Answers) (Fact : Question → Type 0)
    → IsAskedFact Fact tag → IsAskedFact Fact attributes → IsAskedFact Fact content → tag ATOM true → attributes RECORD true
    → (wanted refused : List Triple)
    → AllOf (λ parts. xml_reader tag attributes content (formula.Xml parts.0 parts.1 parts.2) true) wanted
    → AllOf (λ parts. xml_reader tag attributes content (formula.Xml parts.0 parts.1 parts.2) false) refused
    → AnyOf (AllOf Fact) (map (xml_way wanted) (splits_in_three refused))
xmls_forward tag attributes content Fact of_tag of_attributes of_content is_atom is_record wanted refused inside outside =
    one_weaker (AreInWay (tag ∷ attributes ∷ content ∷ [])) (AllOf Fact)
    (facts_of_way Fact (tag ∷ attributes ∷ content ∷ []) (of_tag, (of_attributes, (of_content, tt))))
    (map (xml_way wanted) (splits_in_three refused))
    (xml_in_way tag attributes content is_atom is_record wanted refused inside outside)
