-- The steps of a place are those of its node wherever things answer alike: at the question of the
-- place, at those of the places that the steps lead to, and at the nodes that accept.
use Rattle.std.proofs.Common.{◌↔◌, ℕ, Bool, true, false, List, [], ◌∷◌, ◌++◌, inl, inr}
use Rattle.std.proofs.Common.{Option, Some, None, subst}
use Rattle.std.specs.List.{slice_get}
use Rattle.cd_sets.specs.declared.node_id.NodeId.{NodeId}
use Rattle.cd_sets.specs.declared.question.Question.{Question}
use Rattle.cd_syntax.specs.Name.{Name}
use Rattle.cd_model.specs.AllOf.{AllOf, AnyOf}
use Rattle.cd_model.specs.Formula.{asked}
use Rattle.cd_model.specs.Thing as thing
use Rattle.cd_model.specs.Thing.{Thing}
use Rattle.cd_model.specs.Types.{Answers}
use Rattle.cd_model.proofs.BothWays.{itself, both_agree, three_agree, one_agrees}
use Rattle.cd_matching.specs.Kernel.{KernelNode, KernelField, Present, Optional, Test, Bind, Put}
use Rattle.cd_matching.specs.Kernel.{Pair, Xml, Record, Both, First, Gather}
use Rattle.cd_model.proofs.Ones.{each_of_two}
use Rattle.cd_products.specs.QuestionBoxes.{IsInhabited}
use Rattle.cd_products.specs.Products.{InProduct, InTriple, AreProducts, AreTriples}
use Rattle.cd_filter.specs.Capturing.{IsNarrowed, AreSteps, IsSettled, IsInhabitedPlace}
use Rattle.cd_filter.specs.Rows.{InRow, Picks, AreRows}
use Rattle.cd_filter.specs.Table.{Place, Step, pair_steps, gather_steps}
use Rattle.cd_filter.specs.Table.{triple_steps, cell_steps, row_steps}
use Rattle.cd_explored.specs.NextPlaces.{NextHas}

-- a fact of all of two lists is one of each of them
all_split : {X : Type 0} (fact : X → Type 0) (xs ys : List X) → AllOf fact (xs ++ ys)
    → AllOf fact xs × AllOf fact ys
all_split fact [] ys all = (tt, all)
all_split fact (x ∷ xs) ys all =
    let rest = all_split fact xs ys all.1 in ((all.0, rest.0), rest.1)

module _ (one other : Thing → Answers NodeId) (Sort : Thing → Type 0) where
  abbrev pub AreAlike : Question → Type 0
  AreAlike question = (d : Thing) → asked (one d) question true ↔ asked (other d) question true

  abbrev pub NextAlike : Step → Type 0
  NextAlike = NextHas (λ place. AreAlike place.question)

  pub inhabited_alike : (question : Question) → AreAlike question → IsInhabited one Sort question
      → IsInhabited other Sort question
  inhabited_alike question alike (d, sound, inside) = (d, sound, (alike d).0 inside)

  inhabited_back : (question : Question) → AreAlike question → IsInhabited other Sort question
      → IsInhabited one Sort question
  inhabited_back question alike (d, sound, inside) = (d, sound, (alike d).1 inside)

  -- products
  abbrev Product : Type 0
  Product = Question × Question

  abbrev ProductAlike : Product → Type 0
  ProductAlike product = AreAlike product.0 × AreAlike product.1

  in_products : (d e : Thing) (products : List Product) → AllOf ProductAlike products
      → AnyOf (InProduct one d e) products ↔ AnyOf (InProduct other d e) products
  in_products d e [] alike = itself
  in_products d e (product ∷ products) alike =
      one_agrees (both_agree (alike.0.0 d) (alike.0.1 e)) (in_products d e products alike.1)

  products_alike : (question : Question) (products : List Product) → AreAlike question
      → AllOf ProductAlike products → AreProducts one Sort question products
      → AreProducts other Sort question products
  products_alike question products alike all are = record {
    covers = λ d e sound inside. (in_products d e products all).0
        (are.covers d e sound ((alike (thing.Pair d e)).1 inside));
    only = λ d e sound inside. (alike (thing.Pair d e)).0
        (are.only d e sound ((in_products d e products all).1 inside));
    inhabited = each_of_two ProductAlike
        (λ product. IsInhabited one Sort product.0 × IsInhabited one Sort product.1)
        (λ product. IsInhabited other Sort product.0 × IsInhabited other Sort product.1)
        (λ product same has. (
          inhabited_alike product.0 same.0 has.0,
          inhabited_alike product.1 same.1 has.1,
        )) products all are.inhabited;
  }

  of_pair_steps : (p q : ℕ) (products : List Product)
      → AllOf NextAlike (pair_steps p q products) → AllOf ProductAlike products
  of_pair_steps p q [] all = tt
  of_pair_steps p q (product ∷ products) all =
      ((all.0, all.1.0), of_pair_steps p q products all.1.1)

  of_gather_steps : (by p q : ℕ) (products : List Product)
      → AllOf NextAlike (gather_steps by p q products) → AllOf ProductAlike products
  of_gather_steps by p q [] all = tt
  of_gather_steps by p q (product ∷ products) all =
      ((all.0, all.1.0), of_gather_steps by p q products all.1.1.1)

  -- triples
  abbrev Triple : Type 0
  Triple = Question × Question × Question

  abbrev TripleAlike : Triple → Type 0
  TripleAlike triple = AreAlike triple.0 × AreAlike triple.1 × AreAlike triple.2

  in_triples : (d e f : Thing) (triples : List Triple) → AllOf TripleAlike triples
      → AnyOf (InTriple one d e f) triples ↔ AnyOf (InTriple other d e f) triples
  in_triples d e f [] alike = itself
  in_triples d e f (triple ∷ triples) alike =
      one_agrees (three_agree (alike.0.0 d) (alike.0.1 e) (alike.0.2 f))
      (in_triples d e f triples alike.1)

  triples_alike : (question : Question) (triples : List Triple) → AreAlike question
      → AllOf TripleAlike triples → AreTriples one Sort question triples
      → AreTriples other Sort question triples
  triples_alike question triples alike all are = record {
    covers = λ d e f sound inside. (in_triples d e f triples all).0
        (are.covers d e f sound ((alike (thing.Xml d e f)).1 inside));
    makes = λ d e f sound_d sound_e sound_f inside.
        let made = are.makes d e f sound_d sound_e sound_f ((in_triples d e f triples all).1 inside)
        in (made.0, (alike (thing.Xml d e f)).0 made.1);
    inhabited = each_of_two TripleAlike
        (λ triple. IsInhabited one Sort triple.0 × IsInhabited one Sort triple.1
        × IsInhabited one Sort triple.2)
        (λ triple. IsInhabited other Sort triple.0 × IsInhabited other Sort triple.1
        × IsInhabited other Sort triple.2)
        (λ triple same has. (
          inhabited_alike triple.0 same.0 has.0,
          inhabited_alike triple.1 same.1 has.1,
          inhabited_alike triple.2 same.2 has.2,
        )) triples all are.inhabited;
  }

  of_triple_steps : (p q r : ℕ) (triples : List Triple)
      → AllOf NextAlike (triple_steps p q r triples) → AllOf TripleAlike triples
  of_triple_steps p q r [] all = tt
  of_triple_steps p q r (triple ∷ triples) all =
      ((all.0, all.1.0, all.1.1.0), of_triple_steps p q r triples all.1.1.1)

  -- rows
  abbrev Named : Type 0
  Named = List (Name × KernelField NodeId)

  abbrev RowAlike : Named → List Question → Type 0
  RowAlike named row = AllOf NextAlike (cell_steps named row)

  in_row : (fields : thing.Fields) (named : Named) (row : List Question) → RowAlike named row
      → InRow one fields named row ↔ InRow other fields named row
  in_row fields [] row alike = itself
  in_row fields ((label, Present number) ∷ named) [] alike = itself
  in_row fields ((label, Present number) ∷ named) (cell ∷ row) alike =
      let rest = in_row fields named row alike.1 in (
        λ h. ((h.0.0, h.0.1, (alike.0 h.0.0).0 h.0.2), rest.0 h.1),
        λ h. ((h.0.0, h.0.1, (alike.0 h.0.0).1 h.0.2), rest.1 h.1),
      )
  in_row fields ((label, Optional type) ∷ named) row alike = in_row fields named row alike

  in_rows : (fields : thing.Fields) (named : Named) (rows : List (List Question))
      → AllOf (RowAlike named) rows
      → AnyOf (InRow one fields named) rows ↔ AnyOf (InRow other fields named) rows
  in_rows fields named [] alike = itself
  in_rows fields named (row ∷ rows) alike =
      one_agrees (in_row fields named row alike.0) (in_rows fields named rows alike.1)

  picks_alike : (question : Question) → AreAlike question → (named : Named) (row : List Question)
      → RowAlike named row → Picks one Sort question named row → Picks other Sort question named row
  picks_alike question same [] row alike picks = tt
  picks_alike question same ((label, Present number) ∷ named) [] alike picks = tt
  picks_alike question same ((label, Present number) ∷ named) (cell ∷ row) alike picks = (
    λ d sound inside. let found = picks.0 d sound ((alike.0 d).1 inside) in
        (found.0, found.1, (same (thing.Record found.0)).0 found.2, found.3),
    picks_alike question same named row alike.1 picks.1,
  )
  picks_alike question same ((label, Optional type) ∷ named) row alike picks =
      picks_alike question same named row alike picks

  rows_alike : (question : Question) (named : Named) (rows : List (List Question))
      → AreAlike question → AllOf (RowAlike named) rows → AreRows one Sort question named rows
      → AreRows other Sort question named rows
  rows_alike question named rows same alike are = record {
    covers = λ fields sound inside present. (in_rows fields named rows alike).0
        (are.covers fields sound ((same (thing.Record fields)).1 inside) present);
    picks = each_of_two (RowAlike named) (Picks one Sort question named)
        (Picks other Sort question named) (picks_alike question same named) rows alike are.picks;
  }

  of_row_steps : (named : Named) (rows : List (List Question))
      → AllOf NextAlike (row_steps named rows) → AllOf (RowAlike named) rows
  of_row_steps named [] all = tt
  of_row_steps named (row ∷ rows) all =
      let parts = all_split NextAlike (cell_steps named row) (row_steps named rows) all in
      (parts.0, of_row_steps named rows parts.1)

  -- what is narrowed
  narrowed_alike : (answer : Bool) (id : NodeId) (question narrowed : Question)
      → ((d : Thing) → one d id answer ↔ other d id answer) → AreAlike question
      → AreAlike narrowed → IsNarrowed one Sort answer id question narrowed
      → IsNarrowed other Sort answer id question narrowed
  narrowed_alike answer id question narrowed node same alike is d sound = (
    λ h. let parts = (is d sound).0 ((alike d).1 h) in ((same d).0 parts.0, (node d).0 parts.1),
    λ h. (alike d).0 ((is d sound).1 ((same d).1 h.0, (node d).1 h.1)),
  )

  -- steps
  module _ (accepts : ℕ → NodeId)
      (accepting : (number : ℕ) (answer : Bool) (d : Thing) → one d (accepts number) answer
      ↔ other d (accepts number) answer) where
    steps_alike : (question : Question) → AreAlike question
        → (node : Option (KernelNode NodeId)) (steps : List Step) → AllOf NextAlike steps
        → AreSteps one Sort true accepts question node steps
        → AreSteps other Sort true accepts question node steps
    steps_alike question same None steps alike are = are
    steps_alike question same (Some (Test type)) steps alike are = are
    steps_alike question same (Some (Bind variable)) steps alike are = are
    steps_alike question same (Some (Put variable constant)) steps alike are = are
    steps_alike question same (Some (Both p q)) steps alike are = are
    steps_alike question same (Some (First p q)) steps alike are =
        let next = subst (AllOf NextAlike) are.4 alike in (
          are.0,
          are.1,
          narrowed_alike true (accepts p) question are.0 (accepting p true) same next.0 are.2,
          narrowed_alike false (accepts p) question are.1 (accepting p false) same next.1.0 are.3,
          are.4,
        )
    steps_alike question same (Some (Pair p q)) steps alike are = (
      are.0,
      products_alike question are.0 same
          (of_pair_steps p q are.0 (subst (AllOf NextAlike) are.2 alike)) are.1,
      are.2,
    )
    steps_alike question same (Some (Gather by p q)) steps alike are = (
      are.0,
      products_alike question are.0 same
          (of_gather_steps by p q are.0 (subst (AllOf NextAlike) are.2 alike)) are.1,
      are.2,
    )
    steps_alike question same (Some (Xml p q r)) steps alike are = (
      are.0,
      triples_alike question are.0 same
          (of_triple_steps p q r are.0 (subst (AllOf NextAlike) are.2 alike)) are.1,
      are.2,
    )
    steps_alike question same (Some (Record named more)) steps alike are = (
      are.0,
      rows_alike question named are.0 same
          (of_row_steps named are.0 (subst (AllOf NextAlike) are.2 alike)) are.1,
      are.2,
    )

    pub settled_alike : (nodes : List (KernelNode NodeId)) (entry : Place × List Step)
        → AreAlike entry.0.question → AllOf NextAlike entry.1
        → IsSettled one Sort nodes true accepts entry → IsSettled other Sort nodes true accepts entry
    settled_alike nodes entry same alike (inl are) = inl (steps_alike entry.0.question same
        (slice_get nodes entry.0.number) entry.1 alike are)
    settled_alike nodes entry same alike (inr none) =
        inr (λ has. none.0 (inhabited_back entry.0.question same has), none.1)

  pub inhabited_place_alike : (entry : Place × List Step) → AreAlike entry.0.question
      → IsInhabitedPlace one Sort entry → IsInhabitedPlace other Sort entry
  inhabited_place_alike entry same (inl has) = inl (inhabited_alike entry.0.question same has)
  inhabited_place_alike entry same (inr none) = inr none
