-- Where all elements of a place are taken, all elements of the places that its steps lead to are:
-- for all right tests at once.
use Rattle.std.proofs.Common.{◌≡◌, ℕ, Bool, true, false, List, [], ◌∷◌, inl, inr}
use Rattle.std.proofs.Common.{length, Option, Some, None, refl, sym, subst, arith}
use Rattle.std.specs.List.{slice_get}
use Rattle.cd_sets.specs.declared.node_id.NodeId.{NodeId}
use Rattle.cd_sets.specs.declared.question.Question.{Question}
use Rattle.cd_syntax.specs.Name.{Name}
use Rattle.cd_model.specs.AllOf.{AllOf}
use Rattle.cd_model.specs.Formula.{Graph, in_node}
use Rattle.cd_model.specs.Thing.{Thing, IsElement}
use Rattle.cd_matching.specs.Kernel.{Kernel, KernelNode, KernelField, Both, First, Pair, Gather, Xml}
use Rattle.cd_matching.specs.Kernel.{Record}
use Rattle.cd_products.specs.Products.{AreProducts, AreTriples}
use Rattle.cd_products.proofs.Decided.{elements_apart}
use Rattle.cd_filter.specs.Accepting.{place_of, IsAcceptedFrom, AreRight}
use Rattle.cd_filter.specs.Capturing.{IsAccepted, IsNarrowed, IsSettled}
use Rattle.cd_filter.specs.Rows.{Picks}
use Rattle.cd_filter.specs.Table.{Place, Step, Takes, Puts, Leads, Gathers, at, cell_steps}
use Rattle.cd_filter.proofs.Accepts.{elements_accepting}
use Rattle.cd_explored.specs.Explored.{IsAcceptedPlace}
use Rattle.cd_explored.specs.NextPlaces.{NextHas}
use Rattle.cd_explored.proofs.TakenNext as taken
use Rattle.cd_explored.proofs.TakenNext.{AcceptsFirst}

module _ (graph : Graph) (kernel : Kernel NodeId) (first : ℕ)
    (is : IsAcceptedFrom graph kernel first) where
  abbrev Right : Type 0
  Right = (test : NodeId → Thing → Bool)
      × AreRight (in_node graph) IsElement (length graph) test

  abbrev AcceptedBy : Right → Place → Type 0
  AcceptedBy one = IsAccepted (in_node graph) IsElement one.0 kernel.nodes

  abbrev Accepted : Place → Type 0
  Accepted = IsAcceptedPlace graph kernel

  makes_pair : (d e : Thing) → IsElement d → IsElement e → IsElement d × IsElement e
  makes_pair d e one other = (one, other)

  -- by all tests
  products_by : (p q : ℕ) (products : List (Question × Question))
      → ((one : Right) → AllOf
      (λ product. AcceptedBy one (at p product.0) × AcceptedBy one (at q product.1)) products)
      → AllOf (λ product. Accepted (at p product.0) × Accepted (at q product.1)) products
  products_by p q [] all = tt
  products_by p q (product ∷ products) all = (
    (λ test right. (all (test, right)).0.0, λ test right. (all (test, right)).0.1),
    products_by p q products (λ one. (all one).1),
  )

  triples_by : (p q r : ℕ) (triples : List (Question × Question × Question))
      → ((one : Right) → AllOf (λ triple. AcceptedBy one (at p triple.0)
      × AcceptedBy one (at q triple.1) × AcceptedBy one (at r triple.2)) triples)
      → AllOf (λ triple. Accepted (at p triple.0) × Accepted (at q triple.1)
      × Accepted (at r triple.2)) triples
  triples_by p q r [] all = tt
  triples_by p q r (triple ∷ triples) all = (
    (
      λ test right. (all (test, right)).0.0,
      λ test right. (all (test, right)).0.1,
      λ test right. (all (test, right)).0.2,
    ),
    triples_by p q r triples (λ one. (all one).1),
  )

  step_by : (step : Step) → ((one : Right) → NextHas (AcceptedBy one) step)
      → NextHas Accepted step
  step_by (Takes variable) all = tt
  step_by (Puts variable constant) all = tt
  step_by (Leads but next) all = λ test right. all (test, right)
  step_by (Gathers variable item next) all = λ test right. all (test, right)

  steps_by : (steps : List Step) → ((one : Right) → AllOf (NextHas (AcceptedBy one)) steps)
      → AllOf (NextHas Accepted) steps
  steps_by [] all = tt
  steps_by (step ∷ steps) all =
      (step_by step (λ one. (all one).0), steps_by steps (λ one. (all one).1))

  rows_by : (named : List (Name × KernelField NodeId)) (rows : List (List Question))
      → ((one : Right) → AllOf
      (λ row. AllOf (NextHas (AcceptedBy one)) (cell_steps named row)) rows)
      → AllOf (λ row. AllOf (NextHas Accepted) (cell_steps named row)) rows
  rows_by named [] all = tt
  rows_by named (row ∷ rows) all =
      (steps_by (cell_steps named row) (λ one. (all one).0), rows_by named rows (λ one. (all one).1))

  -- at each kind of node
  module _ (place : Place) (accepted : Accepted place) where
    pub both_accepted : (p q : ℕ) → slice_get kernel.nodes place.number ≡ Some (Both p q)
        → Accepted (at p place.question) × Accepted (at q place.question)
    both_accepted p q there = (
      λ test right. (next test right).0,
      λ test right. (next test right).1,
    )
      where
        next : (test : NodeId → Thing → Bool) → (right : AreRight (in_node graph) IsElement (length graph) test)
            → AcceptedBy (test, right) (at p place.question)
            × AcceptedBy (test, right) (at q place.question)
        next test right = taken.both_next (in_node graph) IsElement makes_pair (elements_apart graph)
            test kernel.nodes is.sound.ends place p q there (accepted test right)

    accepts_first : (p q : ℕ) → slice_get kernel.nodes place.number ≡ Some (First p q)
        → (one : Right) → AcceptsFirst (in_node graph) IsElement makes_pair (elements_apart graph)
        one.0 kernel.nodes is.sound.ends (place_of kernel.nodes first) place
        (accepted one.0 one.1) (Some (First p q))
    accepts_first p q there one d sound =
        elements_accepting graph kernel first one.0 is
        (λ id below. one.1 id (omega (arith, below, is.within))) d p sound

    pub first_accepted : (p q : ℕ) → slice_get kernel.nodes place.number ≡ Some (First p q)
        → (taken_first others : Question)
        → IsNarrowed (in_node graph) IsElement true (place_of kernel.nodes first p) place.question
        taken_first
        → IsNarrowed (in_node graph) IsElement false (place_of kernel.nodes first p) place.question
        others
        → Accepted (at p taken_first) × Accepted (at q others)
    first_accepted p q there taken_first others within without = (
      λ test right. (next (test, right)).0,
      λ test right. (next (test, right)).1,
    )
      where
        next : (one : Right) → AcceptedBy one (at p taken_first) × AcceptedBy one (at q others)
        next one = taken.first_next (in_node graph) IsElement makes_pair (elements_apart graph)
            one.0 kernel.nodes is.sound.ends place p q (place_of kernel.nodes first p) there
            (accepts_first p q there one) taken_first others within without
            (accepted one.0 one.1)

    pub pair_accepted : (p q : ℕ) → slice_get kernel.nodes place.number ≡ Some (Pair p q)
        → (products : List (Question × Question))
        → AreProducts (in_node graph) IsElement place.question products
        → AllOf (λ product. Accepted (at p product.0) × Accepted (at q product.1)) products
    pair_accepted p q there products are = products_by p q products
        (λ one. taken.pair_next (in_node graph) IsElement makes_pair (elements_apart graph) one.0
        kernel.nodes is.sound.ends place p q there (accepted one.0 one.1) products are)

    pub gather_accepted : (by p q : ℕ) → slice_get kernel.nodes place.number ≡ Some (Gather by p q)
        → (products : List (Question × Question))
        → AreProducts (in_node graph) IsElement place.question products
        → AllOf (λ product. Accepted (at p product.0) × Accepted (at q product.1)) products
    gather_accepted by p q there products are = products_by p q products
        (λ one. taken.gather_next (in_node graph) IsElement makes_pair (elements_apart graph) one.0
        kernel.nodes is.sound.ends place by p q there (accepted one.0 one.1) products are)

    pub xml_accepted : (p q r : ℕ) → slice_get kernel.nodes place.number ≡ Some (Xml p q r)
        → (triples : List (Question × Question × Question))
        → AreTriples (in_node graph) IsElement place.question triples
        → AllOf (λ triple. Accepted (at p triple.0) × Accepted (at q triple.1)
        × Accepted (at r triple.2)) triples
    xml_accepted p q r there triples are = triples_by p q r triples
        (λ one. taken.xml_next (in_node graph) IsElement makes_pair (elements_apart graph) one.0
        kernel.nodes is.sound.ends place p q r there (accepted one.0 one.1) triples are)

    pub record_accepted : (named : List (Name × KernelField NodeId)) (more : Bool)
        → slice_get kernel.nodes place.number ≡ Some (Record named more)
        → (rows : List (List Question))
        → AllOf (Picks (in_node graph) IsElement place.question named) rows
        → AllOf (λ row. AllOf (NextHas Accepted) (cell_steps named row)) rows
    record_accepted named more there rows picks = rows_by named rows
        (λ one. taken.record_next (in_node graph) IsElement makes_pair (elements_apart graph) one.0
        kernel.nodes is.sound.ends place named more there (accepted one.0 one.1) rows picks)

    -- and at any
    accepts_any : (one : Right) (node : Option (KernelNode NodeId))
        → slice_get kernel.nodes place.number ≡ node
        → AcceptsFirst (in_node graph) IsElement makes_pair (elements_apart graph) one.0
        kernel.nodes is.sound.ends (place_of kernel.nodes first) place (accepted one.0 one.1) node
    accepts_any one (Some (First p q)) there = accepts_first p q there one
    accepts_any one None there = tt
    accepts_any one (Some _) there = tt

  pub accepted_next : (entry : Place × List Step) → Accepted entry.0
      → IsSettled (in_node graph) IsElement kernel.nodes true (place_of kernel.nodes first) entry
      → AllOf (NextHas Accepted) entry.1
  accepted_next entry accepted (inl are) = steps_by entry.1
      (λ one. taken.all_next (in_node graph) IsElement makes_pair (elements_apart graph) one.0
      kernel.nodes is.sound.ends (place_of kernel.nodes first) entry.0 (accepted one.0 one.1)
      (slice_get kernel.nodes entry.0.number) refl
      (accepts_any entry.0 accepted one (slice_get kernel.nodes entry.0.number) refl) entry.1 are)
  accepted_next entry accepted (inr none) =
      subst (AllOf (NextHas Accepted)) (sym none.1) tt
