-- What a kernel is made of: when a node is made of a pattern.
use Rattle.std.specs.Prelude.{◌≡◌, ◌+◌, ◌<◌, ℕ, Bool, true, false, not, ◌&&◌, List, [], ◌∷◌, ◌++◌}
use Rattle.std.specs.Prelude.{length, Some, None}
use Rattle.std.specs.List.{slice_get}
use Rattle.cd_sets.specs.declared.node_id.NodeId.{NodeId}
use Rattle.cd_syntax.specs.Name.{Name}
use Rattle.cd_model.specs.AllOf.{AllOf}
use Rattle.cd_model.specs.BuiltIns.{NIL, ANY, EMPTY}
use Rattle.cd_model.specs.Thing.{Thing}
use Rattle.cd_model.specs.Formula.{AreRisingLabels}
use Rattle.cd_matching.specs.Kernel.{Kernel, KernelNode, KernelField, Present, Optional, Test, Bind}
use Rattle.cd_matching.specs.Kernel.{Put, Pair, Xml, Record, Both, First, Ends}
use Rattle.cd_matching.specs.Kernel.{kernel_takes}
use Rattle.cd_matching.specs.Naming.{GathersDisjoint, FieldsDisjoint}
use Rattle.cd_matching.specs.Pattern as pattern
use Rattle.cd_matching.specs.Pattern.{Pattern, Patterns, NoPattern, APattern, Fields, NoField}
use Rattle.cd_matching.specs.Pattern.{Regular, Regulars, NoRegular, ARegular}
use Rattle.cd_matching.specs.Sequences.{items, is_no_item}
use Rattle.cd_matching.specs.Take.{take}
use Rattle.cd_matching.specs.Variables.{is_gathered}
use Rattle.cd_moves.specs.Automaton.{items_in}
use Rattle.cd_kernel.specs.Chains.{IsChain}
use Rattle.cd_kernel.specs.Copies.{Types, IsAt, IsNumber, Copy, in_a_group, one_is_plain}
use Rattle.cd_kernel.specs.Copies.{AreDisjoint, IsCopy, AreJoined}

-- the same in another order
abbrev pub IsReordered : {A : Type 0} → List A → List A → Type 0
IsReordered [] ys = ys ≡ []
IsReordered (x ∷ xs) ys = (before after : List _) × (ys ≡ before ++ x ∷ after)
    × IsReordered xs (before ++ after)

-- the plain variables that the items of a copy bind, where these variables are kept
abbrev pub inner : {T : Type 0} → (keeps : Name → Bool) → Regular T → Copy → Name → Bool
inner keeps r copy name = copy.plain && (keeps name && not (is_gathered r name))

module _ {T : Type 0} (types : Types T) (variables : List Name) (nodes : List (KernelNode T)) where
  -- a variable that is not kept takes anything and captures nothing
  abbrev pub IsPut : (is_kept : Bool) → Name → (ℕ → KernelNode T) → ℕ → Type 0
  IsPut true name node number = (variable : ℕ) × IsNumber variables name variable
      × IsAt nodes number (node variable)
  IsPut false name node number = IsAt nodes number (Test types.any)

  -- a chain, or a test of a type where no node is in it
  abbrev pub IsChainOr : (joint : ℕ → ℕ → KernelNode T) → (none : T) → List ℕ → ℕ → Type 0
  IsChainOr joint none [] number = IsAt nodes number (Test none)
  IsChainOr joint none (first ∷ rest) number = IsChain nodes joint (first ∷ rest) number

  -- each variable that the expression gathers and that is kept is in a group
  pub record AreCopies (keeps : Name → Bool) (r : Regular T) (copies : List Copy) (number : ℕ)
      : Type 0 where
    pub joined : AreJoined types variables nodes copies number
    pub each : AllOf (IsCopy types variables nodes r) copies
    pub groups : (name : Name) → in_a_group copies name ≡ (keeps name && is_gathered r name)
    pub plain : one_is_plain copies ≡ true
    pub disjoint : AreDisjoint copies
    pub apart : GathersDisjoint [] r

  -- A node is made of a pattern where `keeps` says which of its variables are kept
  abbrev mutual
    pub IsKernelOf : (keeps : Name → Bool) → Pattern T → ℕ → Type 0
    IsKernelOf keeps (pattern.OfType type) number = IsAt nodes number (Test type)
    IsKernelOf keeps (pattern.Bind name) number = IsPut (keeps name) name Bind number
    IsKernelOf keeps (pattern.Default name constant) number =
        IsPut (keeps name) name (λ variable. Put variable constant) number
    IsKernelOf keeps (pattern.Pair p q) number = (first second : ℕ)
        × IsAt nodes number (Pair first second) × IsKernelOf keeps p first
        × IsKernelOf keeps q second
    IsKernelOf keeps (pattern.Xml p q r) number = (tag attributes content : ℕ)
        × IsAt nodes number (Xml tag attributes content) × IsKernelOf keeps p tag
        × IsKernelOf keeps q attributes × IsKernelOf keeps r content
    IsKernelOf keeps (pattern.Record fields more) number =
        (written rising : List (Name × KernelField T)) × IsAt nodes number (Record rising more)
        × IsReordered written rising × AreRisingLabels None rising × FieldsDisjoint fields
        × AreFieldsOf keeps fields written
    IsKernelOf keeps (pattern.Both all) number = (numbers : List ℕ)
        × AreKernelsOf keeps all numbers × IsChainOr Both types.any numbers number
    IsKernelOf keeps (pattern.First all) number = (numbers : List ℕ)
        × AreKernelsOf keeps all numbers × IsChainOr First types.empty numbers number
    IsKernelOf keeps (pattern.Sequence r) number = (copies : List Copy)
        × AreCopies keeps r copies number
        × AllOf (λ copy. AreItemsOf (inner keeps r copy) copy.items r 0) copies

    -- each pattern with the number of its node
    pub AreKernelsOf : (keeps : Name → Bool) → Patterns T → List ℕ → Type 0
    AreKernelsOf keeps NoPattern [] = Unit {0}
    AreKernelsOf keeps NoPattern (number ∷ numbers) = ⊥
    AreKernelsOf keeps (APattern p rest) [] = ⊥
    AreKernelsOf keeps (APattern p rest) (number ∷ numbers) = IsKernelOf keeps p number
        × AreKernelsOf keeps rest numbers

    -- the kernel's fields in the pattern's order
    pub AreFieldsOf : (keeps : Name → Bool) → Fields T → List (Name × KernelField T) → Type 0
    AreFieldsOf keeps NoField written = written ≡ []
    AreFieldsOf keeps (pattern.Present label p rest) written = (number : ℕ)
        × (others : List (Name × KernelField T))
        × (written ≡ (label, Present number) ∷ others) × IsKernelOf keeps p number
        × AreFieldsOf keeps rest others
    AreFieldsOf keeps (pattern.Optional label type rest) written =
        (others : List (Name × KernelField T))
        × (written ≡ (label, Optional type) ∷ others) × AreFieldsOf keeps rest others

    -- the nodes of the items of an expression, which are numbered after `before`
    pub AreItemsOf : (keeps : Name → Bool) → List ℕ → Regular T → (before : ℕ) → Type 0
    AreItemsOf keeps numbers pattern.Nothing before = Unit {0}
    AreItemsOf keeps numbers (pattern.Item p) before = (number : ℕ)
        × (slice_get numbers before ≡ Some number) × IsKernelOf keeps p number
    AreItemsOf keeps numbers (pattern.Seq all) before = AreItemsOfAll keeps numbers all before
    AreItemsOf keeps numbers (pattern.Alt all) before = AreItemsOfAll keeps numbers all before
    AreItemsOf keeps numbers (pattern.Repeat r post) before = AreItemsOf keeps numbers r before
    AreItemsOf keeps numbers (pattern.Capture name r) before = AreItemsOf keeps numbers r before

    pub AreItemsOfAll : (keeps : Name → Bool) → List ℕ → Regulars T → (before : ℕ) → Type 0
    AreItemsOfAll keeps numbers NoRegular before = Unit {0}
    AreItemsOfAll keeps numbers (ARegular first rest) before =
        AreItemsOf keeps numbers first before
        × AreItemsOfAll keeps numbers rest (before + items_in first)

abbrev pub the_types : Types NodeId
the_types = record { nil = NIL; any = ANY; empty = EMPTY }

-- the root is made of the pattern, whose variables are all kept
pub record IsMade (p : Pattern NodeId) (kernel : Kernel NodeId) : Type 0 where
  pub made : IsKernelOf the_types kernel.variables kernel.nodes (λ name. true) p kernel.root
  pub ends : (number : ℕ) → number < length kernel.nodes
      → Ends kernel.nodes (length kernel.nodes) number

-- both take the same things, with the same captures, by each test that is right at three types
abbrev pub TakesAlike : Pattern NodeId → Kernel NodeId → Type 0
TakesAlike p kernel = (test : NodeId → Thing → Bool)
    → ((d : Thing) → test NIL d ≡ is_no_item (items d)) → ((d : Thing) → test ANY d ≡ true)
    → ((d : Thing) → test EMPTY d ≡ false)
    → (d : Thing) → kernel_takes NodeId test kernel d ≡ take NodeId test p d
