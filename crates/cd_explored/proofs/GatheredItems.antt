-- The questions of items that steps gather ask nodes of the graph, as those of the places do.
use Rattle.std.proofs.Common.{ℕ, true, List, [], ◌∷◌, length, Option, Some, None}
use Rattle.std.proofs.Common.{inl, inr, sym, subst}
use Rattle.std.specs.List.{slice_get}
use Rattle.cd_sets.specs.declared.node_id.NodeId.{NodeId}
use Rattle.cd_sets.specs.declared.question.Question.{Question}
use Rattle.cd_syntax.specs.Name.{Name}
use Rattle.cd_model.specs.AllOf.{AllOf}
use Rattle.cd_model.specs.Formula.{Graph, in_node}
use Rattle.cd_model.specs.Thing.{Thing, IsElement}
use Rattle.cd_model.specs.Types.{Answers}
use Rattle.cd_matching.specs.Kernel.{Kernel, KernelNode, KernelField, Present, Optional, Test, Bind}
use Rattle.cd_matching.specs.Kernel.{Put, Pair, Xml, Record, Both, First, Gather}
use Rattle.cd_rules.specs.Family.{AsksNodes}
use Rattle.cd_model.proofs.Ones.{each_weaker, each_of_two, each_of_lists}
use Rattle.cd_filter.specs.Capturing.{AreSteps, IsSettled}
use Rattle.cd_filter.specs.Table.{Place, Step, Gathers, Table, HasStep}
use Rattle.cd_filter.specs.Table.{pair_steps, gather_steps, triple_steps, cell_steps, row_steps}
use Rattle.cd_filter.proofs.Capturing.{all_among}
use Rattle.cd_filter.proofs.Steps.{entry_of}
use Rattle.cd_explored.specs.Explored.{IsPlace, IsSettledPlace, IsExplored}
use Rattle.cd_explored.specs.NextPlaces.{NextHas}
use Rattle.cd_explored.proofs.NextPlaces.{next_have}

module _ (fact : Question → Type 0) where
  abbrev pub ItemHas : Step → Type 0
  ItemHas (Gathers variable item next) = fact item
  ItemHas _ = Unit {0}

  abbrev NextAsks : Step → Type 0
  NextAsks = NextHas (λ place. fact place.question)

  pair_items : (p q : ℕ) (products : List (Question × Question))
      → AllOf ItemHas (pair_steps p q products)
  pair_items p q [] = tt
  pair_items p q (product ∷ products) = (tt, (tt, pair_items p q products))

  gather_items : (by p q : ℕ) (products : List (Question × Question))
      → AllOf NextAsks (gather_steps by p q products)
      → AllOf ItemHas (gather_steps by p q products)
  gather_items by p q [] next = tt
  gather_items by p q (product ∷ products) next =
      (tt, (tt, (next.0, gather_items by p q products next.1.1.1)))

  triple_items : (p q r : ℕ) (triples : List (Question × Question × Question))
      → AllOf ItemHas (triple_steps p q r triples)
  triple_items p q r [] = tt
  triple_items p q r (triple ∷ triples) = (tt, (tt, (tt, triple_items p q r triples)))

  cell_items : (named : List (Name × KernelField NodeId)) (row : List Question)
      → AllOf ItemHas (cell_steps named row)
  cell_items [] row = tt
  cell_items ((label, Present number) ∷ named) [] = tt
  cell_items ((label, Present number) ∷ named) (cell ∷ row) = (tt, cell_items named row)
  cell_items ((label, Optional type) ∷ named) row = cell_items named row

  row_items : (named : List (Name × KernelField NodeId)) (rows : List (List Question))
      → AllOf ItemHas (row_steps named rows)
  row_items named [] = tt
  row_items named (row ∷ rows) = each_of_lists ItemHas (cell_steps named row) (row_steps named rows)
      (cell_items named row) (row_items named rows)

  module _ (answers : Thing → Answers NodeId) (Sort : Thing → Type 0) (accepts : ℕ → NodeId)
    where
      step_items : (question : Question) (node : Option (KernelNode NodeId)) (steps : List Step)
          → AreSteps answers Sort true accepts question node steps → AllOf NextAsks steps
          → AllOf ItemHas steps
      step_items question None steps are next = absurd are
      step_items question (Some (Test type)) steps are next = subst (AllOf ItemHas) (sym are) tt
      step_items question (Some (Bind variable)) steps are next =
          subst (AllOf ItemHas) (sym are) (tt, tt)
      step_items question (Some (Put variable constant)) steps are next =
          subst (AllOf ItemHas) (sym are) (tt, tt)
      step_items question (Some (Both p q)) steps are next =
          subst (AllOf ItemHas) (sym are) (tt, (tt, tt))
      step_items question (Some (First p q)) steps are next =
          subst (AllOf ItemHas) (sym are.4) (tt, (tt, tt))
      step_items question (Some (Pair p q)) steps are next =
          subst (AllOf ItemHas) (sym are.2) (pair_items p q are.0)
      step_items question (Some (Gather by p q)) steps are next =
          subst (AllOf ItemHas) (sym are.2)
          (gather_items by p q are.0 (subst (AllOf NextAsks) are.2 next))
      step_items question (Some (Xml p q r)) steps are next =
          subst (AllOf ItemHas) (sym are.2) (triple_items p q r are.0)
      step_items question (Some (Record named more)) steps are next =
          subst (AllOf ItemHas) (sym are.2) (row_items named are.0)

      pub settled_items : (nodes : List (KernelNode NodeId)) (entry : Place × List Step)
          → IsSettled answers Sort nodes true accepts entry → AllOf NextAsks entry.1
          → AllOf ItemHas entry.1
      settled_items nodes entry (inl are) next =
          step_items entry.0.question (slice_get nodes entry.0.number) entry.1 are next
      settled_items nodes entry (inr none) next = subst (AllOf ItemHas) (sym none.1) tt

module _ (graph : Graph) (kernel : Kernel NodeId) (accepts : ℕ → NodeId) (root : Place)
    (table : Table) (explored : IsExplored graph kernel accepts root table) where
  abbrev Asks : Question → Type 0
  Asks = AsksNodes (length graph)

  abbrev ItemsAsk : Place × List Step → Type 0
  ItemsAsk entry = AllOf (ItemHas Asks) entry.1

  entries_ask : AllOf ItemsAsk table
  entries_ask = each_of_two (IsSettledPlace graph kernel accepts)
      (λ entry. AllOf (NextHas (λ place. Asks place.question)) entry.1) ItemsAsk
      (λ entry settled asks. settled_items Asks (in_node graph) IsElement accepts kernel.nodes
      entry settled.elements asks)
      table explored.settled
      (next_have (λ place. Asks place.question) table
      (each_weaker (λ entry. IsPlace graph kernel entry.0) (λ entry. Asks entry.0.question)
      (λ entry it. it.asks) table explored.places)
      explored.leads explored.gathers)

  pub items_ask : (place next : Place) (variable : ℕ) (item : Question)
      → HasStep table place (Gathers variable item next) → AsksNodes (length graph) item
  items_ask place next variable item has =
      let found = entry_of ItemsAsk table entries_ask place (Gathers variable item next) has in
      all_among (ItemHas Asks) found.0 (Gathers variable item next) found.1 found.2
