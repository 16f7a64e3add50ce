-- Kernels: patterns as lists of nodes that name each other by number, which may go round in
-- circles. Variables are known by numbers too.
use Rattle.std.specs.Prelude.{◌≡◌, ◌<◌, ◌↔◌, ℕ, zero, suc, Bool, true, false, ◌||◌, ◌&&◌, List, []}
use Rattle.std.specs.Prelude.{◌∷◌, ◌++◌, length, Option, Some, None, option_map, bytes_eq, eqb}
use Rattle.std.specs.Prelude.{if◌then◌else◌}
use Rattle.std.specs.List.{slice_get}
use Rattle.cd_syntax.specs.Name.{Name}
use Rattle.cd_syntax.specs.declared.constant.Constant.{Constant}
use Rattle.cd_model.specs.AllOf.{AllOf, AnyOf}
use Rattle.cd_model.specs.Thing as thing
use Rattle.cd_model.specs.Thing.{Thing, IsElement}
use Rattle.cd_model.specs.Formula.{AreRisingLabels}
use Rattle.cd_matching.specs.Captures.{Captures, nothing, or_else, joined, both, if_so}
use Rattle.cd_matching.specs.Sequences.{thing_of}

pub data KernelField (T : Type 0) : Type 0 where
  Present : (node : ℕ) → KernelField T
  Optional : (type : T) → KernelField T

pub data KernelNode (T : Type 0) : Type 0 where
  Test : T → KernelNode T
  Bind : (variable : ℕ) → KernelNode T
  Put : (variable : ℕ) → Constant → KernelNode T
  Pair : (first second : ℕ) → KernelNode T
  Xml : (tag attributes content : ℕ) → KernelNode T
  Record : List (Name × KernelField T) → (more : Bool) → KernelNode T
  Both : (first second : ℕ) → KernelNode T
  First : (first second : ℕ) → KernelNode T
  -- the pairs whose parts are taken, where the first part is put before what the variable has from
  -- the second
  Gather : (variable first second : ℕ) → KernelNode T

pub record Kernel (T : Type 0) : Type 0 where
  pub nodes : List (KernelNode T)
  pub root : ℕ
  pub variables : List Name

-- the nodes that a node leads to where the thing stays the same, and where it is taken apart
abbrev pub leads_to : {T : Type 0} → KernelNode T → List ℕ
leads_to (Both first second) = first ∷ second ∷ []
leads_to (First first second) = first ∷ second ∷ []
leads_to node = []

abbrev pub field_nodes : {T : Type 0} → List (Name × KernelField T) → List ℕ
field_nodes [] = []
field_nodes ((label, Present node) ∷ fields) = node ∷ field_nodes fields
field_nodes ((label, Optional type) ∷ fields) = field_nodes fields

abbrev pub optional_types : {T : Type 0} → List (Name × KernelField T) → List T
optional_types [] = []
optional_types ((label, Present node) ∷ fields) = optional_types fields
optional_types ((label, Optional type) ∷ fields) = type ∷ optional_types fields

abbrev pub parts_of : {T : Type 0} → KernelNode T → List ℕ
parts_of (Pair first second) = first ∷ second ∷ []
parts_of (Xml tag attributes content) = tag ∷ attributes ∷ content ∷ []
parts_of (Record fields more) = field_nodes fields
parts_of (Gather variable first second) = first ∷ second ∷ []
parts_of node = []

abbrev pub variables_of : {T : Type 0} → KernelNode T → List ℕ
variables_of (Bind variable) = variable ∷ []
variables_of (Put variable constant) = variable ∷ []
variables_of (Gather variable first second) = variable ∷ []
variables_of node = []

-- each way from a node through Both and First alone ends within so many steps, at nodes of the list
abbrev pub EachEnds : {T : Type 0} → (ℕ → Type 0) → Option (KernelNode T) → Type 0
EachEnds IsShort None = ⊥
EachEnds IsShort (Some node) = AllOf IsShort (leads_to node)

abbrev pub Ends : {T : Type 0} → List (KernelNode T) → ℕ → ℕ → Type 0
Ends nodes zero number = ⊥
Ends nodes (suc steps) number = EachEnds (Ends nodes steps) (slice_get nodes number)

-- a node binds a variable where a Bind, Put or Gather of it is reached from the node
pub data Binds {T : Type 0} (nodes : List (KernelNode T)) (variable : ℕ) : ℕ → Type 0 where
  itself : (number : ℕ) (node : KernelNode T) → slice_get nodes number ≡ Some node
      → AnyOf (λ other. other ≡ variable) (variables_of node) → Binds nodes variable number
  further : (number next : ℕ) (node : KernelNode T) → slice_get nodes number ≡ Some node
      → AnyOf (λ other. other ≡ next) (leads_to node ++ parts_of node)
      → Binds nodes variable next → Binds nodes variable number

-- no variable is bound by two of these nodes
abbrev pub BindDisjoint : {T : Type 0} → List (KernelNode T) → List ℕ → Type 0
BindDisjoint nodes [] = Unit {0}
BindDisjoint nodes (number ∷ rest) =
    ((variable : ℕ) → Binds nodes variable number
    → AllOf (λ other. Binds nodes variable other → ⊥) rest) × BindDisjoint nodes rest

-- what is asked of a node of a kernel with so many variables, whose types are such
abbrev pub IsSoundNode : {T : Type 0} → List (KernelNode T) → (variables : ℕ) → (T → Type 0)
    → KernelNode T → Type 0
IsSoundNode nodes variables IsType (Test type) = IsType type
IsSoundNode nodes variables IsType (Bind variable) = variable < variables
IsSoundNode nodes variables IsType (Put variable constant) = (variable < variables)
    × IsElement (thing_of constant)
IsSoundNode nodes variables IsType (Pair first second) = BindDisjoint nodes (first ∷ second ∷ [])
IsSoundNode nodes variables IsType (Xml tag attributes content) =
    BindDisjoint nodes (tag ∷ attributes ∷ content ∷ [])
IsSoundNode nodes variables IsType (Record fields more) = AreRisingLabels None fields
    × BindDisjoint nodes (field_nodes fields) × AllOf IsType (optional_types fields)
IsSoundNode nodes variables IsType (Both first second) = BindDisjoint nodes (first ∷ second ∷ [])
IsSoundNode nodes variables IsType (First first second) = (variable : ℕ)
    → Binds nodes variable first ↔ Binds nodes variable second
IsSoundNode nodes variables IsType (Gather variable first second) = (variable < variables)
    × BindDisjoint nodes (first ∷ second ∷ []) × (Binds nodes variable first → ⊥)
    × Binds nodes variable second

-- Each circle of nodes goes through Pair, Xml, Record or Gather: a way through Both and First alone
-- ends within as many steps as there are nodes
pub record IsSound {T : Type 0} (IsType : T → Type 0) (kernel : Kernel T) : Type 0 where
  pub root : kernel.root < length kernel.nodes
  pub parts : AllOf
      (λ node. AllOf (λ number. number < length kernel.nodes) (leads_to node ++ parts_of node))
      kernel.nodes
  pub nodes : AllOf (IsSoundNode kernel.nodes (length kernel.variables) IsType) kernel.nodes
  pub ends : (number : ℕ) → number < length kernel.nodes
      → Ends kernel.nodes (length kernel.nodes) number
  pub binds : (variable : ℕ) → variable < length kernel.variables
      → Binds kernel.nodes variable kernel.root

abbrev pub just : ℕ → Thing → Captures ℕ
just variable d number = if eqb variable number then Some d else None

-- what is answered of one thing at each node
abbrev pub Taken : Type 0
Taken = ℕ → Option (Captures ℕ)

abbrev pub before : (variable : ℕ) → Thing → Captures ℕ → Captures ℕ
before variable d captures number =
    if eqb variable number then option_map (thing.Pair d) (captures number) else captures number

abbrev pub gathered : (variable : ℕ) → Thing → Option (Captures ℕ) → Option (Captures ℕ)
    → Option (Captures ℕ)
gathered variable d (Some first) (Some second) = Some (joined first (before variable d second))
gathered variable d _ _ = None

-- what a record has at a label, and what is answered of that
abbrev pub Labelled : Type 0
Labelled = Name → Option (Thing × Taken)

-- what a node answers that takes a thing apart
abbrev pub Apart : Type 0 → Type 0
Apart T = KernelNode T → Option (Captures ℕ)

abbrev pub no_parts : {T : Type 0} → Apart T
no_parts node = None

abbrev pub on_pair : {T : Type 0} → (first : Thing) → (one other : Taken) → Apart T
on_pair first one other (Pair p q) = both (one p) (other q)
on_pair first one other (Gather variable p q) = gathered variable first (one p) (other q)
on_pair first one other node = None

abbrev pub on_xml : {T : Type 0} → (tag attributes content : Taken) → Apart T
on_xml tag attributes content (Xml p q r) = both (tag p) (both (attributes q) (content r))
on_xml tag attributes content node = None

abbrev pub is_named : {T : Type 0} → List (Name × KernelField T) → Name → Bool
is_named [] label = false
is_named (field ∷ fields) label = bytes_eq field.0 label || is_named fields label

abbrev pub all_named : {T : Type 0} → List (Name × KernelField T) → thing.Fields → Bool
all_named named thing.NoField = true
all_named named (thing.Field label d rest) = is_named named label && all_named named rest

module _ (T : Type 0) (test : T → Thing → Bool) (nodes : List (KernelNode T)) where
  abbrev pub on_field : Option (Thing × Taken) → KernelField T → Option (Captures ℕ)
  on_field None (Present node) = None
  on_field (Some d) (Present node) = d.1 node
  on_field None (Optional type) = Some nothing
  on_field (Some d) (Optional type) = if_so (test type d.0)

  abbrev pub on_fields : Labelled → List (Name × KernelField T) → Option (Captures ℕ)
  on_fields at [] = Some nothing
  on_fields at (field ∷ fields) = both (on_field (at field.0) field.1) (on_fields at fields)

  abbrev pub on_record : thing.Fields → Labelled → Apart T
  on_record fields at (Record named more) =
      if more || all_named named fields then on_fields at named else None
  on_record fields at node = None

  -- one node, by what is answered at the nodes that it leads to
  abbrev pub by_node : Thing → Apart T → Taken → Option (KernelNode T) → Option (Captures ℕ)
  by_node d apart others None = None
  by_node d apart others (Some (Test type)) = if_so (test type d)
  by_node d apart others (Some (Bind variable)) = Some (just variable d)
  by_node d apart others (Some (Put variable constant)) = Some (just variable (thing_of constant))
  by_node d apart others (Some (Both first second)) = both (others first) (others second)
  by_node d apart others (Some (First first second)) = or_else (others first) (others second)
  by_node d apart others (Some node) = apart node

  -- so many nodes in a row that leave the thing whole
  abbrev pub in_a_row : Thing → Apart T → ℕ → Taken
  in_a_row d apart zero number = None
  in_a_row d apart (suc steps) number =
      by_node d apart (in_a_row d apart steps) (slice_get nodes number)

  abbrev pub at_nodes : Thing → Apart T → Taken
  at_nodes d apart = in_a_row d apart (length nodes)

  -- what a node takes, and what each variable captures
  abbrev mutual
    pub taken : Thing → Taken
    taken (thing.Pair first second) =
        at_nodes (thing.Pair first second) (on_pair first (taken first) (taken second))
    taken (thing.Xml tag attributes content) =
        at_nodes (thing.Xml tag attributes content)
        (on_xml (taken tag) (taken attributes) (taken content))
    taken (thing.Record fields) =
        at_nodes (thing.Record fields) (on_record fields (taken_at fields))
    taken d = at_nodes d no_parts

    pub taken_at : thing.Fields → Labelled
    taken_at thing.NoField label = None
    taken_at (thing.Field name d rest) label =
        if bytes_eq name label then Some (d, taken d) else taken_at rest label

  -- the node that takes a thing apart, by the parts
  abbrev pub apart_of : Thing → Apart T
  apart_of (thing.Pair first second) = on_pair first (taken first) (taken second)
  apart_of (thing.Xml tag attributes content) =
      on_xml (taken tag) (taken attributes) (taken content)
  apart_of (thing.Record fields) = on_record fields (taken_at fields)
  apart_of d = no_parts

-- captures by the names of the variables
abbrev pub number_of : List Name → Name → Option ℕ
number_of [] name = None
number_of (variable ∷ variables) name =
    if bytes_eq variable name then Some zero else option_map suc (number_of variables name)

abbrev pub at_number : Captures ℕ → Option ℕ → Option Thing
at_number captures None = None
at_number captures (Some number) = captures number

abbrev pub by_name : List Name → Captures ℕ → Captures Name
by_name variables captures name = at_number captures (number_of variables name)

-- what the root takes
abbrev pub kernel_takes : (T : Type 0) → (T → Thing → Bool) → Kernel T → Thing
    → Option (Captures Name)
kernel_takes T test kernel d =
    option_map (by_name kernel.variables) (taken T test kernel.nodes d kernel.root)
