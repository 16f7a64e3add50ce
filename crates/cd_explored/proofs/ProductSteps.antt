-- The steps of nodes that take pairs and XML elements, by products and triples.
use Rattle.std.proofs.Common.{◌<◌, ℕ, List, [], ◌∷◌, length, refl}
use Rattle.cd_sets.specs.declared.node_id.NodeId.{NodeId}
use Rattle.cd_sets.specs.declared.question.Question.{Question}
use Rattle.cd_model.specs.AllOf.{AllOf}
use Rattle.cd_model.specs.Formula.{Graph, in_node}
use Rattle.cd_model.specs.Thing.{IsElement}
use Rattle.cd_matching.specs.Kernel.{KernelNode, Pair, Gather, Xml}
use Rattle.cd_rules.specs.Family.{AsksNodes}
use Rattle.cd_products.specs.Products.{AreProducts, CoverValues, AreTriples, CoverTripleValues}
use Rattle.cd_filter.specs.Table.{Step, pair_steps, gather_steps, triple_steps}
use Rattle.cd_explored.specs.NextPlaces.{NextHas}
use Rattle.cd_explored.specs.Inner.NodeSteps.{IsInRange, AreNodeSteps}

module _ (graph : Graph) (nodes : List (KernelNode NodeId)) where
  abbrev InRange : Step → Type 0
  InRange = NextHas (IsInRange (length graph) (length nodes))

  abbrev Asks : Question → Type 0
  Asks = AsksNodes (length graph)

  abbrev AskBoth : Question × Question → Type 0
  AskBoth product = Asks product.0 × Asks product.1

  abbrev AskAll : Question × Question × Question → Type 0
  AskAll triple = Asks triple.0 × Asks triple.1 × Asks triple.2

  pairs_in_range : (p q : ℕ) → p < length nodes → q < length nodes
      → (products : List (Question × Question)) → AllOf AskBoth products
      → AllOf InRange (pair_steps p q products)
  pairs_in_range p q first second [] asks = tt
  pairs_in_range p q first second (product ∷ products) asks = (
    record { number = first; asks = asks.0.0 },
    (
      record { number = second; asks = asks.0.1 },
      pairs_in_range p q first second products asks.1,
    ),
  )

  gathers_in_range : (variable p q : ℕ) → p < length nodes → q < length nodes
      → (products : List (Question × Question)) → AllOf AskBoth products
      → AllOf InRange (gather_steps variable p q products)
  gathers_in_range variable p q first second [] asks = tt
  gathers_in_range variable p q first second (product ∷ products) asks = (
    record { number = first; asks = asks.0.0 },
    (
      record { number = second; asks = asks.0.1 },
      (
        record { number = second; asks = asks.0.1 },
        gathers_in_range variable p q first second products asks.1,
      ),
    ),
  )

  triples_in_range : (tag attributes content : ℕ) → tag < length nodes
      → attributes < length nodes → content < length nodes
      → (triples : List (Question × Question × Question)) → AllOf AskAll triples
      → AllOf InRange (triple_steps tag attributes content triples)
  triples_in_range tag attributes content one other last [] asks = tt
  triples_in_range tag attributes content one other last (triple ∷ triples) asks = (
    record { number = one; asks = asks.0.0 },
    (
      record { number = other; asks = asks.0.1 },
      (
        record { number = last; asks = asks.0.2 },
        triples_in_range tag attributes content one other last triples asks.1,
      ),
    ),
  )

  module _ (first_node : ℕ) (question : Question) where
    pub steps_of_pairs : (p q : ℕ) → p < length nodes → q < length nodes
        → (products : List (Question × Question))
        → AreProducts (in_node graph) IsElement question products
        → CoverValues graph question products → AllOf AskBoth products
        → AreNodeSteps graph nodes first_node question (Pair p q) (pair_steps p q products)
    steps_of_pairs p q first second products are cover asks = record {
      elements = (products, are, refl);
      values = λ more interfaces sound arrows. (products, cover more interfaces sound arrows, refl);
      in_range = pairs_in_range p q first second products asks;
    }

    pub steps_of_gathers : (variable p q : ℕ) → p < length nodes → q < length nodes
        → (products : List (Question × Question))
        → AreProducts (in_node graph) IsElement question products
        → CoverValues graph question products → AllOf AskBoth products
        → AreNodeSteps graph nodes first_node question (Gather variable p q)
        (gather_steps variable p q products)
    steps_of_gathers variable p q first second products are cover asks = record {
      elements = (products, are, refl);
      values = λ more interfaces sound arrows. (products, cover more interfaces sound arrows, refl);
      in_range = gathers_in_range variable p q first second products asks;
    }

    pub steps_of_triples : (tag attributes content : ℕ) → tag < length nodes
        → attributes < length nodes → content < length nodes
        → (triples : List (Question × Question × Question))
        → AreTriples (in_node graph) IsElement question triples
        → CoverTripleValues graph question triples → AllOf AskAll triples
        → AreNodeSteps graph nodes first_node question (Xml tag attributes content)
        (triple_steps tag attributes content triples)
    steps_of_triples tag attributes content one other last triples are cover asks = record {
      elements = (triples, are, refl);
      values = λ more interfaces sound arrows. (triples, cover more interfaces sound arrows, refl);
      in_range = triples_in_range tag attributes content one other last triples asks;
    }
