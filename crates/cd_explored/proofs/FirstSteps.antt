-- The steps of a node that takes what the first of two nodes takes, or else the second.
use Rattle.std.proofs.Common.{◌≡◌, ◌<◌, ◌≤◌, ◌+◌, ℕ, zero, true, false, List, [], ◌∷◌}
use Rattle.std.proofs.Common.{length, None, refl, sym, subst, ap, arith}
use Rattle.std.proofs.lemmas.Option.{slice_get-get_or}
use Rattle.cd_sets.specs.declared.node_id.NodeId.{NodeId}
use Rattle.cd_sets.specs.declared.question.Question.{Question}
use Rattle.cd_model.specs.Formula.{Graph}
use Rattle.cd_matching.specs.Kernel.{KernelNode, Bind, First}
use Rattle.cd_filter.specs.Accepting.{place, place_if, place_of}
use Rattle.cd_filter.specs.Table.{Leads, at}
use Rattle.cd_explored.specs.Inner.NodeSteps.{AreNodeSteps, AreNarrowed}

-- the node that accepts what a node of the kernel takes
pub accepting_place : (nodes : List (KernelNode NodeId)) (first number : ℕ)
    → number < length nodes → place first number ≡ place_of nodes first number
accepting_place nodes first number below = sym (ap (place_if first number)
    (slice_get-get_or nodes number (Bind zero) below))

pub accepting_below : (graph : Graph) (nodes : List (KernelNode NodeId)) (first number : ℕ)
    → number < length nodes → first + length nodes ≤ length graph
    → (place_of nodes first number).0 < length graph
accepting_below graph nodes first number below within =
    subst (λ (id : NodeId). id.0 < length graph) (accepting_place nodes first number below)
    (omega arith)

-- by what is in the node that accepts what the first one takes, and what is outside it
pub steps_of_first : (graph : Graph) (nodes : List (KernelNode NodeId)) (first p q : ℕ)
    (question taken others : Question) → p < length nodes → q < length nodes
    → AreNarrowed graph true (place_of nodes first p) question taken
    → AreNarrowed graph false (place_of nodes first p) question others
    → AreNodeSteps graph nodes first question (First p q)
    (Leads None (at p taken) ∷ Leads None (at q others) ∷ [])
steps_of_first graph nodes first p q question taken others one other inside outside = record {
  elements = (taken, others, inside.elements, outside.elements, refl);
  values = λ more interfaces sound arrows. (
    taken,
    others,
    inside.values more interfaces sound arrows,
    outside.values more interfaces sound arrows,
    refl,
  );
  in_range = (
    record { number = one; asks = inside.asks },
    (record { number = other; asks = outside.asks }, tt),
  );
}

pub steps_of_chosen : (graph : Graph) (nodes : List (KernelNode NodeId)) (first p q : ℕ)
    (question taken others : Question) (id : NodeId) → p < length nodes → q < length nodes
    → id ≡ place_of nodes first p → AreNarrowed graph true id question taken
    → AreNarrowed graph false id question others
    → AreNodeSteps graph nodes first question (First p q)
    (Leads None (at p taken) ∷ Leads None (at q others) ∷ [])
steps_of_chosen graph nodes first p q question taken others id one other is inside outside =
    steps_of_first graph nodes first p q question taken others one other
    (subst (λ (id : NodeId). AreNarrowed graph true id question taken) is inside)
    (subst (λ (id : NodeId). AreNarrowed graph false id question others) is outside)
