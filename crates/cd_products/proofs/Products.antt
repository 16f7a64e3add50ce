-- The pieces of the clauses of a question are its products, and its triples.
use Rattle.std.proofs.Common.{◌≡◌, inl, inr, Bool, true, List, [], ◌∷◌}
use Rattle.cd_sets.specs.declared.node_id.NodeId.{NodeId}
use Rattle.cd_sets.specs.declared.question.Question.{Question}
use Rattle.cd_model.specs.AllOf.{AllOf, AnyOf}
use Rattle.cd_model.specs.Thing.{Thing, Pair, Xml}
use Rattle.cd_model.specs.Types.{Answers}
use Rattle.cd_products.specs.QuestionBoxes.{QuestionClause, question_pieces, pairs_of, triples_of}
use Rattle.cd_products.specs.QuestionBoxes.{InQuestions, AreDecided, IsInhabited, DropsEmpty}
use Rattle.cd_products.specs.QuestionBoxes.{KeepsInhabited, ArePairClauses, CoverXml, MakeXml}
use Rattle.cd_products.specs.Products.{InProduct, InTriple, Cover, AreProducts, CoverTriples}
use Rattle.cd_products.specs.Products.{AreTriples}
use Rattle.cd_products.proofs.QuestionPieces.{cover, only, are_inhabited}

module _ (answers : Thing → Answers NodeId) (Sort : Thing → Type 0) where
  abbrev InIt : List Thing → List Question → Type 0
  InIt = InQuestions answers

  abbrev Has : Question → Type 0
  Has = IsInhabited answers Sort

  -- boxes of two cells as pairs
  to_pairs : (d e : Thing) (boxes : List (List Question)) → AnyOf (InIt (d ∷ e ∷ [])) boxes
      → AnyOf (InProduct answers d e) (pairs_of boxes)
  to_pairs d e [] one = one
  to_pairs d e ([] ∷ boxes) (inl here) = absurd here
  to_pairs d e ([] ∷ boxes) (inr later) = to_pairs d e boxes later
  to_pairs d e ((a ∷ []) ∷ boxes) (inl here) = absurd here.1
  to_pairs d e ((a ∷ []) ∷ boxes) (inr later) = to_pairs d e boxes later
  to_pairs d e ((a ∷ b ∷ []) ∷ boxes) (inl here) = inl (here.0, here.1.0)
  to_pairs d e ((a ∷ b ∷ []) ∷ boxes) (inr later) = inr (to_pairs d e boxes later)
  to_pairs d e ((a ∷ b ∷ c ∷ more) ∷ boxes) (inl here) = absurd here.1.1
  to_pairs d e ((a ∷ b ∷ c ∷ more) ∷ boxes) (inr later) = to_pairs d e boxes later

  from_pairs : (d e : Thing) (boxes : List (List Question))
      → AnyOf (InProduct answers d e) (pairs_of boxes) → AnyOf (InIt (d ∷ e ∷ [])) boxes
  from_pairs d e [] one = one
  from_pairs d e ([] ∷ boxes) one = inr (from_pairs d e boxes one)
  from_pairs d e ((a ∷ []) ∷ boxes) one = inr (from_pairs d e boxes one)
  from_pairs d e ((a ∷ b ∷ []) ∷ boxes) (inl here) = inl (here.0, (here.1, tt))
  from_pairs d e ((a ∷ b ∷ []) ∷ boxes) (inr later) = inr (from_pairs d e boxes later)
  from_pairs d e ((a ∷ b ∷ c ∷ more) ∷ boxes) one = inr (from_pairs d e boxes one)

  -- and of three as triples
  to_triples : (d e f : Thing) (boxes : List (List Question))
      → AnyOf (InIt (d ∷ e ∷ f ∷ [])) boxes
      → AnyOf (InTriple answers d e f) (triples_of boxes)
  to_triples d e f [] one = one
  to_triples d e f ([] ∷ boxes) (inl here) = absurd here
  to_triples d e f ([] ∷ boxes) (inr later) = to_triples d e f boxes later
  to_triples d e f ((a ∷ []) ∷ boxes) (inl here) = absurd here.1
  to_triples d e f ((a ∷ []) ∷ boxes) (inr later) = to_triples d e f boxes later
  to_triples d e f ((a ∷ b ∷ []) ∷ boxes) (inl here) = absurd here.1.1
  to_triples d e f ((a ∷ b ∷ []) ∷ boxes) (inr later) = to_triples d e f boxes later
  to_triples d e f ((a ∷ b ∷ c ∷ []) ∷ boxes) (inl here) = inl (here.0, here.1.0, here.1.1.0)
  to_triples d e f ((a ∷ b ∷ c ∷ []) ∷ boxes) (inr later) = inr (to_triples d e f boxes later)
  to_triples d e f ((a ∷ b ∷ c ∷ g ∷ more) ∷ boxes) (inl here) = absurd here.1.1.1
  to_triples d e f ((a ∷ b ∷ c ∷ g ∷ more) ∷ boxes) (inr later) = to_triples d e f boxes later

  from_triples : (d e f : Thing) (boxes : List (List Question))
      → AnyOf (InTriple answers d e f) (triples_of boxes)
      → AnyOf (InIt (d ∷ e ∷ f ∷ [])) boxes
  from_triples d e f [] one = one
  from_triples d e f ([] ∷ boxes) one = inr (from_triples d e f boxes one)
  from_triples d e f ((a ∷ []) ∷ boxes) one = inr (from_triples d e f boxes one)
  from_triples d e f ((a ∷ b ∷ []) ∷ boxes) one = inr (from_triples d e f boxes one)
  from_triples d e f ((a ∷ b ∷ c ∷ []) ∷ boxes) (inl here) = inl (here.0, (here.1, (here.2, tt)))
  from_triples d e f ((a ∷ b ∷ c ∷ []) ∷ boxes) (inr later) = inr (from_triples d e f boxes later)
  from_triples d e f ((a ∷ b ∷ c ∷ g ∷ more) ∷ boxes) one = inr (from_triples d e f boxes one)

  module _ (inhabited : List Question → Bool) where
    abbrev made : List QuestionClause → List (List Question)
    made = question_pieces inhabited

    -- in each box that is kept each question is inhabited
    module _ (keeps : KeepsInhabited answers Sort inhabited) where
      pairs_inhabited : (boxes : List (List Question)) → AllOf (λ box. inhabited box ≡ true) boxes
          → AllOf (λ product. Has product.0 × Has product.1) (pairs_of boxes)
      pairs_inhabited [] all = tt
      pairs_inhabited ([] ∷ boxes) all = pairs_inhabited boxes all.1
      pairs_inhabited ((a ∷ []) ∷ boxes) all = pairs_inhabited boxes all.1
      pairs_inhabited ((a ∷ b ∷ []) ∷ boxes) all =
          let two = keeps (a ∷ b ∷ []) all.0 in ((two.0, two.1.0), pairs_inhabited boxes all.1)
      pairs_inhabited ((a ∷ b ∷ c ∷ more) ∷ boxes) all = pairs_inhabited boxes all.1

      triples_inhabited : (boxes : List (List Question)) → AllOf (λ box. inhabited box ≡ true) boxes
          → AllOf (λ triple. Has triple.0 × Has triple.1 × Has triple.2) (triples_of boxes)
      triples_inhabited [] all = tt
      triples_inhabited ([] ∷ boxes) all = triples_inhabited boxes all.1
      triples_inhabited ((a ∷ []) ∷ boxes) all = triples_inhabited boxes all.1
      triples_inhabited ((a ∷ b ∷ []) ∷ boxes) all = triples_inhabited boxes all.1
      triples_inhabited ((a ∷ b ∷ c ∷ []) ∷ boxes) all =
          let three = keeps (a ∷ b ∷ c ∷ []) all.0 in
          ((three.0, three.1.0, three.1.1.0), triples_inhabited boxes all.1)
      triples_inhabited ((a ∷ b ∷ c ∷ g ∷ more) ∷ boxes) all = triples_inhabited boxes all.1

    module _ (pair_parts : (first second : Thing) → Sort (Pair first second)
        → Sort first × Sort second)
        (xml_parts : (tag attributes content : Thing) → Sort (Xml tag attributes content)
        → Sort tag × Sort attributes × Sort content)
        (decided : AreDecided answers Sort) (drops : DropsEmpty answers Sort inhabited)
        (question : Question) (clauses : List QuestionClause) where
      pub products_cover : ArePairClauses answers Sort question clauses
          → Cover answers Sort question (pairs_of (made clauses))
      products_cover are first second sort comes =
          let parts = pair_parts first second sort in
          to_pairs first second (made clauses)
          (cover answers Sort inhabited decided drops (first ∷ second ∷ [])
          (parts.0, (parts.1, tt)) clauses ((are first second sort).0 comes))

      pub triples_cover : CoverXml answers Sort question clauses
          → CoverTriples answers Sort question (triples_of (made clauses))
      triples_cover covers tag attributes content sort comes =
          let parts = xml_parts tag attributes content sort in
          to_triples tag attributes content (made clauses)
          (cover answers Sort inhabited decided drops (tag ∷ attributes ∷ content ∷ [])
          (parts.0, (parts.1, (parts.2, tt))) clauses (covers tag attributes content sort comes))

      pub products_are : KeepsInhabited answers Sort inhabited
          → ArePairClauses answers Sort question clauses
          → AreProducts answers Sort question (pairs_of (made clauses))
      products_are keeps are = record {
        covers = products_cover are;
        only = λ first second sort one. (are first second sort).1
            (only answers Sort inhabited (first ∷ second ∷ []) clauses
            (from_pairs first second (made clauses) one));
        inhabited = pairs_inhabited keeps (made clauses)
            (are_inhabited answers Sort inhabited clauses);
      }

      pub triples_are : KeepsInhabited answers Sort inhabited
          → CoverXml answers Sort question clauses
          → MakeXml answers Sort question clauses
          → AreTriples answers Sort question (triples_of (made clauses))
      triples_are keeps covers makes = record {
        covers = triples_cover covers;
        makes = λ tag attributes content one other last among.
            makes tag attributes content one other last
            (only answers Sort inhabited (tag ∷ attributes ∷ content ∷ []) clauses
            (from_triples tag attributes content (made clauses) among));
        inhabited = triples_inhabited keeps (made clauses)
            (are_inhabited answers Sort inhabited clauses);
      }
