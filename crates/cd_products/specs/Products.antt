-- Products of a question of pairs, and triples of one of XML things.
use Rattle.std.specs.Prelude.{◌≡◌, ◌++◌, ℕ, true, List}
use Rattle.cd_sets.specs.declared.node_id.NodeId.{NodeId}
use Rattle.cd_sets.specs.declared.question.Question.{Question}
use Rattle.cd_model.specs.AllOf.{AllOf, AnyOf}
use Rattle.cd_model.specs.Formula.{Graph, IsGraph, asked}
use Rattle.cd_model.specs.Interfaces.{Interfaces, OfNodes, OfWritten, ArrowOf, ArrowsAgree}
use Rattle.cd_model.specs.Interfaces.{value_in_node}
use Rattle.cd_model.specs.Thing.{Thing, Pair, Xml, IsValue}
use Rattle.cd_model.specs.Types.{Answers}
use Rattle.cd_rules.specs.Family.{AsksNodes}
use Rattle.cd_products.specs.QuestionBoxes.{IsInhabited}

-- each question of each product asks nodes of a graph of so many, and so for triples
abbrev pub ProductsAsk : (nodes : ℕ) → List (Question × Question) → Type 0
ProductsAsk nodes = AllOf (λ product. AsksNodes nodes product.0 × AsksNodes nodes product.1)

abbrev pub TriplesAsk : (nodes : ℕ) → List (Question × Question × Question) → Type 0
TriplesAsk nodes = AllOf
    (λ triple. AsksNodes nodes triple.0 × AsksNodes nodes triple.1 × AsksNodes nodes triple.2)

module _ (answers : Thing → Answers NodeId) where
  abbrev pub InProduct : (first second : Thing) → Question × Question → Type 0
  InProduct first second product =
      asked (answers first) product.0 true × asked (answers second) product.1 true

  abbrev pub InTriple : (tag attributes content : Thing) → Question × Question × Question → Type 0
  InTriple tag attributes content triple = asked (answers tag) triple.0 true
      × asked (answers attributes) triple.1 true × asked (answers content) triple.2 true

  -- of the things of a sort
  module _ (Sort : Thing → Type 0) where
    -- each pair of the question is in a product
    abbrev pub Cover : Question → List (Question × Question) → Type 0
    Cover question products = (first second : Thing) → Sort (Pair first second)
        → asked (answers (Pair first second)) question true
        → AnyOf (InProduct first second) products

    -- and the products hold no other pairs, and both questions of each are inhabited
    pub record AreProducts (question : Question) (products : List (Question × Question))
        : Type 0 where
      pub covers : Cover question products
      pub only : (first second : Thing) → Sort (Pair first second)
          → AnyOf (InProduct first second) products
          → asked (answers (Pair first second)) question true
      pub inhabited : AllOf
          (λ product. IsInhabited answers Sort product.0 × IsInhabited answers Sort product.1)
          products

    abbrev pub CoverTriples : Question → List (Question × Question × Question) → Type 0
    CoverTriples question triples = (tag attributes content : Thing)
        → Sort (Xml tag attributes content)
        → asked (answers (Xml tag attributes content)) question true
        → AnyOf (InTriple tag attributes content) triples

    -- any three parts of a triple make an XML thing of the question
    pub record AreTriples (question : Question) (triples : List (Question × Question × Question))
        : Type 0 where
      pub covers : CoverTriples question triples
      pub makes : (tag attributes content : Thing) → Sort tag → Sort attributes → Sort content
          → AnyOf (InTriple tag attributes content) triples
          → Sort (Xml tag attributes content)
          × asked (answers (Xml tag attributes content)) question true
      pub inhabited : AllOf
          (λ triple. IsInhabited answers Sort triple.0 × IsInhabited answers Sort triple.1
          × IsInhabited answers Sort triple.2)
          triples

-- The interfaces of a graph: arrows are nodes of it, or written types that hold the same elements
-- as nodes of it
abbrev pub AreInterfacesOf : Graph → Interfaces → Type 0
AreInterfacesOf graph (OfNodes other arrows) = other ≡ graph
AreInterfacesOf graph (OfWritten count others) = (arrows : ℕ → List (ArrowOf NodeId))
    × ((function : ℕ) → ArrowsAgree graph count (arrows function) (others function))

-- Products cover the values of a question in each sound graph that begins with this one, under all
-- interfaces of that graph
abbrev pub CoverValues : Graph → Question → List (Question × Question) → Type 0
CoverValues graph question products = (more : Graph) (interfaces : Interfaces)
    → IsGraph (graph ++ more) → AreInterfacesOf (graph ++ more) interfaces
    → Cover (value_in_node (graph ++ more) interfaces) IsValue question products

-- and so do triples
abbrev pub CoverTripleValues : Graph → Question → List (Question × Question × Question) → Type 0
CoverTripleValues graph question triples = (more : Graph) (interfaces : Interfaces)
    → IsGraph (graph ++ more) → AreInterfacesOf (graph ++ more) interfaces
    → CoverTriples (value_in_node (graph ++ more) interfaces) IsValue question triples
