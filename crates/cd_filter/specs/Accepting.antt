-- Formulas that hold what the nodes of a kernel take: one for each node, from a number on.
use Rattle.std.specs.Prelude.{◌≡◌, ◌<◌, ◌≤◌, ◌++◌, length, ◌+◌, ℕ, Bool, true, false, ◌||◌, List}
use Rattle.std.specs.Prelude.{[], ◌∷◌, Option, Some, None, is_some}
use Rattle.std.specs.List.{slice_get, list_any}
use Rattle.cd_sets.specs.declared.node_id.NodeId.{NodeId}
use Rattle.cd_syntax.specs.Name.{Name}
use Rattle.cd_model.specs.AllOf.{AllOf}
use Rattle.cd_model.specs.BuiltIns.{node, EMPTY, ANY}
use Rattle.cd_model.specs.Formula as formula
use Rattle.cd_model.specs.Formula.{Graph, Formula, Field, formulas_of, formula_at}
use Rattle.cd_model.specs.Thing.{Thing}
use Rattle.cd_matching.specs.Kernel.{Kernel, leads_to, parts_of, IsSound}
use Rattle.cd_matching.specs.Kernel.{KernelNode, KernelField, Present, Optional, Test, Bind, Put}
use Rattle.cd_matching.specs.Kernel.{Pair, Xml, Record, Both, First, Gather, taken, kernel_takes}
use Rattle.cd_matching.specs.Takes.{Answering, IsRight}
use Rattle.cd_filter.specs.Simpler.{IsSimpler}

-- the graph's node for a node of the kernel
abbrev pub place : (first number : ℕ) → NodeId
place first number = node (first + number)

abbrev pub place_if : (first number : ℕ) → Option (KernelNode NodeId) → NodeId
place_if first number None = EMPTY
place_if first number (Some node) = place first number

-- and for any number, where one that names no node of the kernel has EMPTY
abbrev pub place_of : List (KernelNode NodeId) → (first number : ℕ) → NodeId
place_of nodes first number = place_if first number (slice_get nodes number)

abbrev pub field_of : (first : ℕ) → KernelField NodeId → Field
field_of first (Present number) = record { optional = false; type = place first number }
field_of first (Optional id) = record { optional = true; type = id }

abbrev pub fields_of : (first : ℕ) → List (Name × KernelField NodeId) → List (Name × Field)
fields_of first [] = []
fields_of first (field ∷ named) = (field.0, field_of first field.1) ∷ fields_of first named

abbrev pub rest_of : Bool → NodeId
rest_of true = ANY
rest_of false = EMPTY

-- what is taken at each number is taken at First by one of its two nodes
abbrev pub AgreesAtFirst : {T : Type 0} → List (KernelNode T) → (ℕ → Bool) → Type 0
AgreesAtFirst nodes takes = (number p q : ℕ) → slice_get nodes number ≡ Some (First p q)
    → takes number ≡ (takes p || takes q)

-- so a node takes what one of these takes
abbrev pub AreMembers : {T : Type 0} → List (KernelNode T) → ℕ → List ℕ → Type 0
AreMembers nodes number members = (takes : ℕ → Bool) → AgreesAtFirst nodes takes
    → takes number ≡ list_any takes members

-- a node that does not lead to others by itself
abbrev pub IsOwn : {T : Type 0} → KernelNode T → Type 0
IsOwn (Both p q) = ⊥
IsOwn (First p q) = ⊥
IsOwn node = Unit {0}

module _ (graph : Graph) (first : ℕ) where
  -- the formula of such a node
  abbrev pub own_formula : KernelNode NodeId → Formula
  own_formula (Test id) = formula_at graph id
  own_formula (Bind variable) = formula.Everything
  own_formula (Put variable constant) = formula.Everything
  own_formula (Pair p q) = formula.Pair (place first p) (place first q)
  own_formula (Gather variable p q) = formula.Pair (place first p) (place first q)
  own_formula (Xml tag attributes content) =
      formula.Xml (place first tag) (place first attributes) (place first content)
  own_formula (Record named more) = formula.Record (fields_of first named) (rest_of more)
  own_formula _ = formula.Nothing

module _ (graph : Graph) (nodes : List (KernelNode NodeId)) (first : ℕ) where
  -- The formula is one for the node with this number: a chain of First has one union of any nodes
  -- that together take the same, so that a long one needs no deep formula. A simpler form of one is
  -- one too
  mutual
    pub data Accepts : ℕ → Formula → Type 0 where
      by_itself : (number : ℕ) (node : KernelNode NodeId) → slice_get nodes number ≡ Some node
          → IsOwn node → Accepts number (own_formula graph first node)
      by_both : (number p q : ℕ) (f g : Formula) → slice_get nodes number ≡ Some (Both p q)
          → Accepts p f → Accepts q g
          → Accepts number (formula.And (formulas_of (f ∷ g ∷ [])))
      by_members : (number : ℕ) (members : List ℕ) (formulas : List Formula)
          → AreMembers nodes number members → AllAccept members formulas
          → Accepts number (formula.Or (formulas_of formulas))
      by_simpler : (number : ℕ) (f g : Formula) → Accepts number f → IsSimpler f g
          → Accepts number g

    pub data AllAccept : List ℕ → List Formula → Type 0 where
      no_more : AllAccept [] []
      one_more : (number : ℕ) (f : Formula) (members : List ℕ) (formulas : List Formula)
          → Accepts number f → AllAccept members formulas
          → AllAccept (number ∷ members) (f ∷ formulas)

-- the numbers that nodes name are those of nodes
abbrev pub AreInRange : {T : Type 0} → List (KernelNode T) → Type 0
AreInRange nodes = AllOf
    (λ node. AllOf (λ number. number < length nodes) (leads_to node ++ parts_of node)) nodes

-- Nodes of a graph accept the nodes of a kernel: each has a formula for its node. The types of the
-- kernel are nodes before them
pub record IsAcceptedFrom (graph : Graph) (kernel : Kernel NodeId) (first : ℕ) : Type 0 where
  pub sound : IsSound (λ id. id.0 < first) kernel
  pub within : first + length kernel.nodes ≤ length graph
  pub everything : formula_at graph ANY ≡ formula.Everything
  pub nothing : formula_at graph EMPTY ≡ formula.Nothing
  pub formulas : (number : ℕ) → number < length kernel.nodes
      → Accepts graph kernel.nodes first number (formula_at graph (place first number))

module _ (answers : Answering NodeId) (Sort : Thing → Type 0) where
  -- the tests of so many nodes are right
  abbrev pub AreRight : (nodes : ℕ) → (NodeId → Thing → Bool) → Type 0
  AreRight nodes test = (id : NodeId) → id.0 < nodes → IsRight answers Sort id (test id)

  -- a node holds exactly what a kernel takes
  abbrev pub HoldsTaken : (nodes : ℕ) → Kernel NodeId → NodeId → Type 0
  HoldsTaken nodes kernel id = (test : NodeId → Thing → Bool) (d : Thing) → AreRight nodes test
      → Sort d → answers d id (is_some (kernel_takes NodeId test kernel d))

  -- nodes that hold exactly what the nodes of a kernel take
  abbrev pub AreAccepting : (NodeId → Thing → Bool) → List (KernelNode NodeId) → (ℕ → NodeId)
      → Type 0
  AreAccepting test nodes accepts = (d : Thing) (number : ℕ) → Sort d
      → answers d (accepts number) (is_some (taken NodeId test nodes d number))
