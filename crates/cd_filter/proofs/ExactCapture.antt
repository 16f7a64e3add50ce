-- The node of a variable holds exactly what the variable captures: of elements; and of values at
-- least that.
use Rattle.std.proofs.Common.{◌≡◌, ◌↔◌, inl, inr, ℕ, ◌<◌, Bool, true, false, List, [], ◌∷◌, length}
use Rattle.std.proofs.Common.{Option, Some, None, is_some, subst}
use Rattle.std.specs.List.{slice_get}
use Rattle.cd_sets.specs.declared.node_id.NodeId.{NodeId}
use Rattle.cd_sets.specs.declared.question.Question.{Question}
use Rattle.cd_model.specs.Formula.{Graph, in_node, asked}
use Rattle.cd_model.specs.Interfaces.{Interfaces, value_in_node}
use Rattle.cd_model.specs.Thing.{Thing, IsElement}
use Rattle.cd_model.specs.Types.{Answers}
use Rattle.cd_model.proofs.Sorts as sorts
use Rattle.cd_model.proofs.Sorts.{Sort}
use Rattle.cd_model.proofs.Ones.{each_weaker}
use Rattle.cd_matching.specs.Captures.{Captures}
use Rattle.cd_matching.specs.Kernel.{KernelNode, Kernel, Test, Bind, Put, Pair, Xml, Record, Both}
use Rattle.cd_matching.specs.Kernel.{First, Gather, taken}
use Rattle.cd_products.proofs.Decided.{elements_apart}
use Rattle.cd_products.proofs.OneMore.{each_with, each_without}
use Rattle.cd_filter.specs.Accepting.{AreRight}
use Rattle.cd_filter.specs.Capturing.{AreSteps, IsSettled, IsWhole}
use Rattle.cd_filter.specs.Caught.{Caught}
use Rattle.cd_filter.specs.CapturedNodes.{IsSolved, IsSolvedForElements, IsSolvedForValues}
use Rattle.cd_filter.specs.CapturedNodes.{IsExactCapture, IsWideCapture}
use Rattle.cd_filter.specs.Table.{Place, Step, Table, first_place}
use Rattle.cd_filter.proofs.CapturedSound.{values_captured}
use Rattle.cd_filter.proofs.Capturing.{caught_is_captured}
use Rattle.cd_filter.proofs.Catching.{captured_is_caught}
use Rattle.cd_filter.proofs.Holding.{nodes_hold}

-- what is exact covers
module _ (answers : Thing → Answers NodeId) (Sort : Thing → Type 0)
    (nodes : List (KernelNode NodeId)) (accepts : ℕ → NodeId) where
  steps_cover : (question : Question) (node : Option (KernelNode NodeId)) (steps : List Step)
      → AreSteps answers Sort true accepts question node steps
      → AreSteps answers Sort false accepts question node steps
  steps_cover question None steps are = are
  steps_cover question (Some (Test type)) steps are = are
  steps_cover question (Some (Bind variable)) steps are = are
  steps_cover question (Some (Put variable constant)) steps are = are
  steps_cover question (Some (Both p q)) steps are = are
  steps_cover question (Some (First p q)) steps are = are
  steps_cover question (Some (Pair p q)) steps are = (are.0, are.1.covers, are.2)
  steps_cover question (Some (Gather variable p q)) steps are = (are.0, are.1.covers, are.2)
  steps_cover question (Some (Xml p q r)) steps are = (are.0, are.1.covers, are.2)
  steps_cover question (Some (Record named more)) steps are = (are.0, are.1.covers, are.2)

  settled_covers : (entry : Place × List Step)
      → IsSettled answers Sort nodes true accepts entry
      → IsSettled answers Sort nodes false accepts entry
  settled_covers entry (inl are) =
      inl (steps_cover entry.0.question (slice_get nodes entry.0.number) entry.1 are)
  settled_covers entry (inr none) = inr none

  pub whole_covers : (table : Table) → IsWhole answers Sort nodes true accepts table
      → IsWhole answers Sort nodes false accepts table
  whole_covers table whole = record {
    settled = each_weaker (IsSettled answers Sort nodes true accepts)
        (IsSettled answers Sort nodes false accepts) settled_covers table whole.settled;
    ends = whole.ends;
    leads = whole.leads;
    gathers = whole.gathers;
  }

-- what comes to the first place is matched, and taken
module _ (answers : Thing → Answers NodeId) (sort : Sort) (test : NodeId → Thing → Bool)
    (exact : Bool) (matched : NodeId) (kernel : Kernel NodeId) (accepts : ℕ → NodeId)
    (IsType : NodeId → Type 0) (table : Table) (variable : ℕ) (id : Place → NodeId)
    (solved : IsSolved answers sort.Of test exact matched kernel accepts IsType
    table variable id) where
  abbrev root_place : Place
  root_place = first_place kernel matched accepts

  abbrev takes : Thing → Option (Captures ℕ)
  takes d = taken NodeId test kernel.nodes d kernel.root

  comes_first : (d : Thing) (captures : Captures ℕ) → sort.Of d → answers d matched true
      → takes d ≡ Some captures → asked (answers d) root_place.question true
  comes_first d captures sound inside takes_d = (
    each_with (λ id. answers d id true) (accepts kernel.root) (matched ∷ [])
        (subst (λ (o : Option (Captures ℕ)). answers d (accepts kernel.root) (is_some o)) takes_d
        (solved.kernel_is.accepting d kernel.root sound)) (inside, tt),
    tt,
  )

  pub holds_caught : (what : Thing) → sort.Of what
      → answers what (id root_place) true
      ↔ Caught answers sort.Of table variable root_place what
  holds_caught = nodes_hold answers sort table variable root_place id solved.are_nodes

  -- each thing that the variable captures is in its node, where the table covers
  pub is_held : IsWhole answers sort.Of kernel.nodes false accepts table → (d : Thing)
      (captures : Captures ℕ) (what : Thing) → sort.Of d → answers d matched true
      → takes d ≡ Some captures → captures variable ≡ Some what → sort.Of what
      → answers what (id root_place) true
  is_held whole d captures what sound inside takes_d has sound_what =
      (holds_caught what sound_what).1
      (captured_is_caught answers sort test kernel.nodes accepts solved.kernel_is.accepting table
      variable root_place what whole solved.rooted
      (d, captures, sound, comes_first d captures sound inside takes_d, takes_d, has))

pub exactly : (graph : Graph) (matched : NodeId) (kernel : Kernel NodeId) (accepts : ℕ → NodeId)
    (table : Table) (variable : ℕ) (id : Place → NodeId)
    → ((test : NodeId → Thing → Bool) → AreRight (in_node graph) IsElement (length graph) test
    → IsSolvedForElements graph matched kernel accepts table variable id test)
    → IsExactCapture graph matched kernel variable (id (first_place kernel matched accepts))
exactly graph matched kernel accepts table variable id solved test what right sound =
    let it = solved test right in (
      λ h. back (caught_is_captured (in_node graph) IsElement (λ d e one other. (one, other))
          (elements_apart graph) test kernel.nodes accepts (length kernel.variables)
          (λ type. type.0 < length graph) it.0.kernel_is table variable
          (first_place kernel matched accepts) what it.0.whole it.1 it.2
          ((holds_caught (in_node graph) sorts.elements test true matched kernel accepts
          (λ type. type.0 < length graph) table variable id it.0 what sound).0 h)),
      λ given. is_held (in_node graph) sorts.elements test true matched kernel accepts
          (λ type. type.0 < length graph) table variable id it.0
          (whole_covers (in_node graph) IsElement kernel.nodes accepts table it.0.whole)
          given.0 given.1 what given.2 given.3 given.4 given.5 sound,
    )
  where
    back : (d : Thing) × (captures : Captures ℕ) × IsElement d
        × asked (in_node graph d) (first_place kernel matched accepts).question true
        × (taken NodeId test kernel.nodes d kernel.root ≡ Some captures)
        × (captures variable ≡ Some what)
        → (d : Thing) × (captures : Captures ℕ) × IsElement d × in_node graph d matched true
        × (taken NodeId test kernel.nodes d kernel.root ≡ Some captures)
        × (captures variable ≡ Some what)
    back (d, captures, sound_d, comes, takes_d, has) =
        let parts = each_without (λ id. in_node graph d id true) (accepts kernel.root)
        (matched ∷ []) comes.0 in (d, captures, sound_d, parts.1.0, takes_d, has)

pub widely : (graph : Graph) (interfaces : Interfaces) (matched : NodeId) (kernel : Kernel NodeId)
    (accepts : ℕ → NodeId) (table : Table) (variable : ℕ) (id : Place → NodeId)
    (test : NodeId → Thing → Bool)
    → IsSolvedForValues graph interfaces matched kernel accepts table variable id test
    → IsWideCapture graph interfaces matched kernel variable
    (id (first_place kernel matched accepts)) test
widely graph interfaces matched kernel accepts table variable id test solved d what captures sound
    inside takes_d has =
    is_held (value_in_node graph interfaces) sorts.values test false matched kernel accepts
    (λ type. type.0 < length graph) table variable id solved solved.whole d captures what sound
    inside takes_d has
    (values_captured NodeId test kernel.nodes (length kernel.variables)
    (λ type. type.0 < length graph) solved.kernel_is.sound variable d sound kernel.root captures
    what takes_d has)
