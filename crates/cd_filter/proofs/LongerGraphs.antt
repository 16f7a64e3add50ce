-- A graph with the batch of a kernel after it holds what the kernel takes.
use Rattle.std.proofs.Common.{◌≡◌, ◌<◌, ◌≤◌, ◌+◌, ◌++◌, ℕ, List, length, sym, subst, arith}
use Rattle.std.proofs.lemmas.List.{length-append}
use Rattle.cd_sets.specs.declared.node_id.NodeId.{NodeId}
use Rattle.cd_model.specs.AllOf.{AllOf}
use Rattle.cd_model.specs.BuiltIns.{built_ins}
use Rattle.cd_model.specs.Formula.{Graph, Formula, IsFormula, IsGraph, in_node}
use Rattle.cd_model.specs.Interfaces.{Interfaces, value_in_node}
use Rattle.cd_model.specs.Thing.{IsElement, IsValue}
use Rattle.cd_matching.specs.Kernel.{Kernel, IsSound}
use Rattle.cd_filter.specs.Accepting.{place, HoldsTaken, IsAcceptedFrom}
use Rattle.cd_filter.specs.Inner.Forming.{IsBatch}
use Rattle.cd_filter.proofs.Accepts.{elements_accepted, values_accepted}
use Rattle.cd_filter.proofs.BatchSound.{batch_sound, accepted_from}

at_least : (graph others : Graph) → graph ≡ built_ins ++ others → 14 ≤ length graph
at_least graph others begins = subst (λ g. 14 ≤ length g) (sym begins)
    (omega (arith, length-append built_ins others))

module _ (graph : Graph) (kernel : Kernel NodeId)
    (is : IsSound (λ id. id.0 < length graph) kernel) (others : Graph)
    (begins : graph ≡ built_ins ++ others) (batch : List Formula)
    (right : IsBatch graph kernel.nodes (length graph) batch) where
  formulas_sound : IsGraph graph → AllOf (IsFormula (length graph + length batch)) batch
  formulas_sound sound =
      batch_sound graph kernel is sound (at_least graph others begins) batch right

  accepted : IsAcceptedFrom (graph ++ batch) kernel (length graph)
  accepted = accepted_from graph kernel is batch others begins right

-- as code finds it
module _ (graph : Graph) (kernel : Kernel NodeId)
    (is : IsSound (λ id. id.0 < length graph) kernel) (others : Graph)
    (begins : graph ≡ built_ins ++ others) (seen : Graph) (same : seen ≡ graph) (first : ℕ)
    (count : first ≡ length seen) (batch formulas : List Formula)
    (right : IsBatch seen kernel.nodes first batch) (of : formulas ≡ batch) where
  first_is : first ≡ length graph
  first_is = subst (λ g. first ≡ length g) same count

  right_batch : IsBatch graph kernel.nodes (length graph) formulas
  right_batch = subst (IsBatch graph kernel.nodes (length graph)) (sym of)
      (subst (λ n. IsBatch graph kernel.nodes n batch) first_is
      (subst (λ g. IsBatch g kernel.nodes first batch) same right))

  pub are_formulas : IsGraph graph → AllOf (IsFormula (length graph + length formulas)) formulas
  are_formulas = formulas_sound graph kernel is others begins formulas right_batch

  module _ (longer : Graph) (added : longer ≡ graph ++ formulas) where
    pub accepts_from : IsAcceptedFrom longer kernel first
    accepts_from = subst (IsAcceptedFrom longer kernel) (sym first_is)
        (subst (λ g. IsAcceptedFrom g kernel (length graph)) (sym added)
        (accepted graph kernel is others begins formulas right_batch))

    module _ (root : NodeId) (root_is : root ≡ place first kernel.root) where
      pub holds_elements : HoldsTaken (in_node longer) IsElement first kernel root
      holds_elements = subst (HoldsTaken (in_node longer) IsElement first kernel) (sym root_is)
          (elements_accepted longer kernel first accepts_from)

      pub holds_values : (interfaces : Interfaces)
          → HoldsTaken (value_in_node longer interfaces) IsValue first kernel root
      holds_values interfaces = subst
          (HoldsTaken (value_in_node longer interfaces) IsValue first kernel) (sym root_is)
          (values_accepted longer interfaces kernel first accepts_from)
