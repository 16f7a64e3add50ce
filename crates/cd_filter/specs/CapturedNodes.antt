-- Nodes of a graph that hold what variables capture: one for the root, and one for each place whose
-- things a variable gathers.
use Rattle.std.specs.Prelude.{◌≡◌, ◌<◌, ◌↔◌, ℕ, Bool, true, false, length, Option, Some}
use Rattle.cd_sets.specs.declared.node_id.NodeId.{NodeId}
use Rattle.cd_sets.specs.declared.question.Question.{Question}
use Rattle.cd_model.specs.AllOf.{AllOf}
use Rattle.cd_model.specs.Formula.{Graph, asked, in_node}
use Rattle.cd_model.specs.Interfaces.{Interfaces, value_in_node}
use Rattle.cd_model.specs.Thing.{Thing, Pair, IsElement, IsValue}
use Rattle.cd_model.specs.Types.{Answers}
use Rattle.cd_matching.specs.Captures.{Captures}
use Rattle.cd_matching.specs.Kernel.{Kernel, taken}
use Rattle.cd_matching.specs.Sequences.{thing_of}
use Rattle.cd_filter.specs.Accepting.{AreRight}
use Rattle.cd_filter.specs.Capturing.{IsWhole, AreAccepted, IsInhabitedPlace, AreSoundAndAccepted}
use Rattle.cd_filter.specs.Table.{Place, Step, Takes, Puts, Leads, Gathers, Table, HasPlace}
use Rattle.cd_filter.specs.Table.{HasStep}
use Rattle.cd_filter.specs.Table.{first_place}

-- the second place is reached from the first, by steps that do not leave out the variable
pub data Reaches (table : Table) (variable : ℕ) : Place → Place → Type 0 where
  itself : (place : Place) → Reaches table variable place place
  further : (place next last : Place) (but : Option ℕ) → HasStep table place (Leads but next)
      → (but ≡ Some variable → ⊥) → Reaches table variable next last
      → Reaches table variable place last

module _ (answers : Thing → Answers NodeId) (Sort : Thing → Type 0) where
  -- what a step at the place gives, where each place that is gathered has a node
  abbrev pub GivesAt : (variable : ℕ) → (id : Place → NodeId) → Place → Thing → Step → Type 0
  GivesAt variable id place what (Takes other) =
      (other ≡ variable) × asked (answers what) place.question true
  GivesAt variable id place what (Puts other constant) =
      (other ≡ variable) × (what ≡ thing_of constant)
  GivesAt variable id place what (Leads but next) = ⊥
  GivesAt variable id place what (Gathers other item next) = (other ≡ variable)
      × ((first rest : Thing) × Sort first × Sort rest × (what ≡ Pair first rest)
      × asked (answers first) item true × answers rest (id next) true)

  -- the node of a place holds what is given at each place that is reached
  abbrev pub IsNodeOf : Table → (variable : ℕ) → (id : Place → NodeId) → Place → Type 0
  IsNodeOf table variable id place = (what : Thing) → Sort what
      → answers what (id place) true
      ↔ ((last : Place) × (step : Step) × Reaches table variable place last
      × HasStep table last step × GivesAt variable id last what step)

  pub record AreNodes (table : Table) (variable : ℕ) (root : Place) (id : Place → NodeId)
      : Type 0 where
    pub of_root : IsNodeOf table variable id root
    pub gathered : (place next : Place) (item : Question)
        → HasStep table place (Gathers variable item next) → IsNodeOf table variable id next

  -- what code has made at the end for a variable
  pub record IsSolved (test : NodeId → Thing → Bool) (exact : Bool) (matched : NodeId)
      (kernel : Kernel NodeId) (accepts : ℕ → NodeId) (IsType : NodeId → Type 0) (table : Table)
      (variable : ℕ) (id : Place → NodeId) : Type 0 where
    pub kernel_is : AreSoundAndAccepted answers Sort test kernel.nodes accepts
        (length kernel.variables) IsType
    pub whole : IsWhole answers Sort kernel.nodes exact accepts table
    pub rooted : HasPlace table (first_place kernel matched accepts)
    pub are_nodes : AreNodes table variable (first_place kernel matched accepts) id

-- of elements exactly
abbrev pub IsSolvedForElements : Graph → NodeId → Kernel NodeId → (ℕ → NodeId) → Table → ℕ
    → (Place → NodeId) → (NodeId → Thing → Bool) → Type 0
IsSolvedForElements graph matched kernel accepts table variable id test =
    IsSolved (in_node graph) IsElement test true matched kernel accepts
    (λ type. type.0 < length graph) table variable id
    × AreAccepted (in_node graph) IsElement test kernel.nodes table
    × AllOf (IsInhabitedPlace (in_node graph) IsElement) table

abbrev pub IsSolvedForValues : Graph → Interfaces → NodeId → Kernel NodeId → (ℕ → NodeId)
    → Table → ℕ → (Place → NodeId) → (NodeId → Thing → Bool) → Type 0
IsSolvedForValues graph interfaces matched kernel accepts table variable id test =
    IsSolved (value_in_node graph interfaces) IsValue test false matched kernel accepts
    (λ type. type.0 < length graph) table variable id

-- the node of a variable holds exactly the elements that the variable captures from an element of
-- what is matched
abbrev pub IsExactCapture : Graph → (matched : NodeId) → Kernel NodeId → (variable : ℕ) → NodeId
    → Type 0
IsExactCapture graph matched kernel variable id = (test : NodeId → Thing → Bool) (what : Thing)
    → AreRight (in_node graph) IsElement (length graph) test → IsElement what
    → in_node graph what id true
    ↔ ((e : Thing) × (captures : Captures ℕ) × IsElement e × in_node graph e matched true
    × (taken NodeId test kernel.nodes e kernel.root ≡ Some captures)
    × (captures variable ≡ Some what))

-- and each value that the variable captures
abbrev pub IsWideCapture : Graph → Interfaces → (matched : NodeId) → Kernel NodeId
    → (variable : ℕ) → NodeId → (NodeId → Thing → Bool) → Type 0
IsWideCapture graph interfaces matched kernel variable id test = (v what : Thing)
    (captures : Captures ℕ) → IsValue v → value_in_node graph interfaces v matched true
    → taken NodeId test kernel.nodes v kernel.root ≡ Some captures
    → captures variable ≡ Some what → value_in_node graph interfaces what id true
