-- A machine that takes a thing apart by the nodes of a kernel, depth first.
--
-- What is captured stands in one list, which is cut where a choice fails. A pair that a node failed
-- to take, after its first part was taken, is known from then on.
use Rattle.std.specs.Prelude.{◌≡◌, ◌+◌, ◌⊎◌, ℕ, Bool, true, false, ◌||◌, List, [], ◌∷◌, ◌++◌}
use Rattle.std.specs.Prelude.{Option, Some, None, length, take, drop}
use Rattle.std.specs.List.{slice_get}
use Rattle.cd_sets.specs.declared.node_id.NodeId.{NodeId}
use Rattle.cd_syntax.specs.declared.constant.Constant.{Constant}
use Rattle.cd_syntax.specs.Name.{Name}
use Rattle.cd_model.specs.AllOf.{AnyOf}
use Rattle.cd_model.specs.Thing as thing
use Rattle.cd_model.specs.Thing.{Thing}
use Rattle.cd_matching.specs.Captures.{Captures, nothing, joined}
use Rattle.cd_matching.specs.Kernel as kernel
use Rattle.cd_matching.specs.Kernel.{KernelNode, KernelField, Present, Optional, Test, Bind, Put}
use Rattle.cd_matching.specs.Kernel.{just, before, all_named}
use Rattle.cd_matching.specs.Sequences.{thing_of}
use Rattle.cd_matching.specs.Take.{at_label}
use Rattle.cd_taking.specs.declared.node_parts.PairNode.{PairNode}
use Rattle.cd_taking.specs.Inner.Adds.{Adds}

-- a pair, an XML thing and a record by their parts
abbrev pub as_pair : Thing → Option (Thing × Thing)
as_pair (thing.Pair first second) = Some (first, second)
as_pair _ = None

abbrev pub as_xml : Thing → Option (Thing × Thing × Thing)
as_xml (thing.Xml tag attributes content) = Some (tag, attributes, content)
as_xml _ = None

abbrev pub as_record : Thing → Option thing.Fields
as_record (thing.Record fields) = Some fields
as_record _ = None

abbrev pub Node : Type 0
Node = KernelNode NodeId

abbrev pub Named : Type 0
Named = List (Name × KernelField NodeId)

-- the nodes of both parts of a pair, and the variable that gathers
abbrev pub pair_node : Option Node → Option PairNode
pair_node (Some (kernel.Pair first second)) =
    Some (record { variable = None; first = first; second = second })
pair_node (Some (kernel.Gather variable first second)) =
    Some (record { variable = Some variable; first = first; second = second })
pair_node _ = None

-- the nodes of the parts of XML things, and the fields of records with whether there may be others
abbrev pub xml_node : Option Node → Option (ℕ × ℕ × ℕ)
xml_node (Some (kernel.Xml tag attributes content)) = Some (tag, attributes, content)
xml_node _ = None

abbrev pub record_node : Option Node → Option (Named × Bool)
record_node (Some (kernel.Record named more)) = Some (named, more)
record_node _ = None

-- What has to be done about one field of a node: there is no such field, or it has to be there and
-- is not, or may be absent and is; or else a test of its thing, or a look at it
pub data FieldWork : Type 0 where
  Ends : FieldWork
  Lacks : FieldWork
  Passes : FieldWork
  Asks : NodeId → Thing → FieldWork
  Looks : Thing → ℕ → FieldWork

abbrev pub field_work : KernelField NodeId → Option Thing → FieldWork
field_work (Present node) None = Lacks
field_work (Present node) (Some d) = Looks d node
field_work (Optional type) None = Passes
field_work (Optional type) (Some d) = Asks type d

abbrev pub next_field : thing.Fields → Option (Name × KernelField NodeId) → FieldWork
next_field fields None = Ends
next_field fields (Some field) = field_work field.1 (at_label fields field.0)

abbrev pub work_at : Option thing.Fields → Option (Named × Bool) → ℕ → FieldWork
work_at (Some fields) (Some node) index = next_field fields (slice_get node.0 index)
work_at _ _ index = Lacks

-- What is done with the answer of what is looked at
pub data Frame : Type 0 where
  -- the first of two choices: if it fails the captures are cut to so many, and the second is tried
  Or : (d : Thing) (second mark : ℕ) → Frame
  -- the first of two nodes that both have to take the thing
  And : (d : Thing) (second : ℕ) → Frame
  -- the first part of a pair, and the second one, which began after so many captures
  First : (pair : Thing) (node : ℕ) → Frame
  Second : (pair : Thing) (node mark : ℕ) → Frame
  -- the tag and the attributes of an XML thing
  Tag : (xml : Thing) (node : ℕ) → Frame
  Attributes : (xml : Thing) (node : ℕ) → Frame
  -- a field of a record, after which those from here on are left
  Field : (fields : Thing) (node from : ℕ) → Frame

-- What is done next
pub data Part : Type 0 where
  Look : (d : Thing) (node : ℕ) → Part
  Fields : (fields : Thing) (node from : ℕ) → Part
  Yes : Part
  No : Part

-- what a variable captures
abbrev pub Caught : Type 0
Caught = ℕ × Thing

-- a pair that a node does not take
abbrev pub Failure : Type 0
Failure = Thing × ℕ

pub record State : Type 0 where
  pub frames : List Frame
  pub trail : List Caught
  pub failed : List Failure
  pub part : Part

abbrev pub at : List Frame → List Caught → List Failure → Part → State
at frames trail failed part =
    record { frames = frames; trail = trail; failed = failed; part = part }

-- what the variables have by such a list, where the first of a variable counts
abbrev pub caught : List Caught → Captures ℕ
caught [] = nothing
caught (one ∷ rest) = joined (just one.0 one.1) (caught rest)

-- what is captured of a second part, with the first part before what the variable has
abbrev pub gather : Option ℕ → Thing → Captures ℕ → Captures ℕ
gather None first captures = captures
gather (Some variable) first captures = before variable first captures

abbrev pub after_second : Option (Thing × Thing) → Option PairNode → Captures ℕ → Captures ℕ
after_second (Some pair) (Some node) captures = gather node.variable pair.0 captures
after_second _ _ captures = captures

abbrev pub answered : Bool → Part
answered true = Yes
answered false = No

-- a frame with which a failure is a failure
abbrev pub PassesNo : Frame → Type 0
PassesNo (Or d second mark) = ⊥
PassesNo (Second pair node mark) = ⊥
PassesNo frame = Unit {0}

-- The steps, where `Asked` says which answers of a type about a thing are right
module _ (Asked : NodeId → Thing → Bool → Type 0) (nodes : List Node) where
  abbrev pub node_at : ℕ → Option Node
  node_at number = slice_get nodes number

  pub data Step : State → State → Type 0 where
    -- a thing is looked at
    missing : (fs : List Frame) (t : List Caught) (x : List Failure) (d : Thing) (n : ℕ)
        → node_at n ≡ None → Step (at fs t x (Look d n)) (at fs t x No)
    asks : (fs : List Frame) (t : List Caught) (x : List Failure) (d : Thing) (n : ℕ)
        (type : NodeId) (answer : Bool) → node_at n ≡ Some (Test type) → Asked type d answer
        → Step (at fs t x (Look d n)) (at fs t x (answered answer))
    binds : (fs : List Frame) (t : List Caught) (x : List Failure) (d : Thing) (n variable : ℕ)
        → node_at n ≡ Some (Bind variable)
        → Step (at fs t x (Look d n)) (at fs (t ++ (variable, d) ∷ []) x Yes)
    puts : (fs : List Frame) (t : List Caught) (x : List Failure) (d e : Thing) (n variable : ℕ)
        (constant : Constant) → node_at n ≡ Some (Put variable constant) → e ≡ thing_of constant
        → Step (at fs t x (Look d n)) (at fs (t ++ (variable, e) ∷ []) x Yes)
    joins : (fs : List Frame) (t : List Caught) (x : List Failure) (d : Thing) (n p q : ℕ)
        → node_at n ≡ Some (kernel.Both p q)
        → Step (at fs t x (Look d n)) (at (And d q ∷ fs) t x (Look d p))
    chooses : (fs : List Frame) (t : List Caught) (x : List Failure) (d : Thing) (n p q : ℕ)
        → node_at n ≡ Some (kernel.First p q)
        → Step (at fs t x (Look d n)) (at (Or d q (length t) ∷ fs) t x (Look d p))
    -- that is a pair, for a node of pairs, or none
    known : (fs : List Frame) (t : List Caught) (x : List Failure) (d : Thing) (n : ℕ)
        → AnyOf (λ one. one ≡ (d, n)) x → Step (at fs t x (Look d n)) (at fs t x No)
    no_pair : (fs : List Frame) (t : List Caught) (x : List Failure) (d : Thing) (n : ℕ)
        (node : PairNode) → pair_node (node_at n) ≡ Some node → as_pair d ≡ None
        → Step (at fs t x (Look d n)) (at fs t x No)
    opens : (fs : List Frame) (t : List Caught) (x : List Failure) (d : Thing) (n : ℕ)
        (node : PairNode) (pair : Thing × Thing) → pair_node (node_at n) ≡ Some node
        → as_pair d ≡ Some pair
        → Step (at fs t x (Look d n)) (at (First d n ∷ fs) t x (Look pair.0 node.first))
    -- an XML thing
    no_xml : (fs : List Frame) (t : List Caught) (x : List Failure) (d : Thing) (n : ℕ)
        (node : ℕ × ℕ × ℕ) → xml_node (node_at n) ≡ Some node → as_xml d ≡ None
        → Step (at fs t x (Look d n)) (at fs t x No)
    opens_xml : (fs : List Frame) (t : List Caught) (x : List Failure) (d : Thing) (n : ℕ)
        (node : ℕ × ℕ × ℕ) (xml : Thing × Thing × Thing) → xml_node (node_at n) ≡ Some node
        → as_xml d ≡ Some xml
        → Step (at fs t x (Look d n)) (at (Tag d n ∷ fs) t x (Look xml.0 node.0))
    -- a record, which may have other fields than those of the node or has none
    no_record : (fs : List Frame) (t : List Caught) (x : List Failure) (d : Thing) (n : ℕ)
        (node : Named × Bool) → record_node (node_at n) ≡ Some node → as_record d ≡ None
        → Step (at fs t x (Look d n)) (at fs t x No)
    other_fields : (fs : List Frame) (t : List Caught) (x : List Failure) (d : Thing) (n : ℕ)
        (node : Named × Bool) (fields : thing.Fields) → record_node (node_at n) ≡ Some node
        → as_record d ≡ Some fields → node.1 || all_named node.0 fields ≡ false
        → Step (at fs t x (Look d n)) (at fs t x No)
    opens_record : (fs : List Frame) (t : List Caught) (x : List Failure) (d : Thing) (n : ℕ)
        (node : Named × Bool) (fields : thing.Fields) → record_node (node_at n) ≡ Some node
        → as_record d ≡ Some fields → node.1 || all_named node.0 fields ≡ true
        → Step (at fs t x (Look d n)) (at fs t x (Fields d n 0))
    -- the next field of a record
    lacks : (fs : List Frame) (t : List Caught) (x : List Failure) (d : Thing) (n index : ℕ)
        → work_at (as_record d) (record_node (node_at n)) index ≡ Lacks
        → Step (at fs t x (Fields d n index)) (at fs t x No)
    ends : (fs : List Frame) (t : List Caught) (x : List Failure) (d : Thing) (n index : ℕ)
        → work_at (as_record d) (record_node (node_at n)) index ≡ Ends
        → Step (at fs t x (Fields d n index)) (at fs t x Yes)
    passes : (fs : List Frame) (t : List Caught) (x : List Failure) (d : Thing) (n index : ℕ)
        → work_at (as_record d) (record_node (node_at n)) index ≡ Passes
        → Step (at fs t x (Fields d n index)) (at fs t x (Fields d n (index + 1)))
    field_is_in : (fs : List Frame) (t : List Caught) (x : List Failure) (d e : Thing)
        (n index : ℕ) (type : NodeId)
        → work_at (as_record d) (record_node (node_at n)) index ≡ Asks type e → Asked type e true
        → Step (at fs t x (Fields d n index)) (at fs t x (Fields d n (index + 1)))
    field_is_out : (fs : List Frame) (t : List Caught) (x : List Failure) (d e : Thing)
        (n index : ℕ) (type : NodeId)
        → work_at (as_record d) (record_node (node_at n)) index ≡ Asks type e → Asked type e false
        → Step (at fs t x (Fields d n index)) (at fs t x No)
    opens_field : (fs : List Frame) (t : List Caught) (x : List Failure) (d e : Thing)
        (n index number : ℕ)
        → work_at (as_record d) (record_node (node_at n)) index ≡ Looks e number
        → Step (at fs t x (Fields d n index))
        (at (Field d n (index + 1) ∷ fs) t x (Look e number))
    -- what was looked at is taken
    chosen : (fs : List Frame) (t : List Caught) (x : List Failure) (d : Thing) (q mark : ℕ)
        → Step (at (Or d q mark ∷ fs) t x Yes) (at fs t x Yes)
    goes_on : (fs : List Frame) (t : List Caught) (x : List Failure) (d : Thing) (q : ℕ)
        → Step (at (And d q ∷ fs) t x Yes) (at fs t x (Look d q))
    no_second : (fs : List Frame) (t : List Caught) (x : List Failure) (d : Thing) (n : ℕ)
        → (pair_node (node_at n) ≡ None) ⊎ (as_pair d ≡ None)
        → Step (at (First d n ∷ fs) t x Yes) (at fs t x No)
    opens_second : (fs : List Frame) (t : List Caught) (x : List Failure) (d : Thing) (n : ℕ)
        (node : PairNode) (pair : Thing × Thing) → pair_node (node_at n) ≡ Some node
        → as_pair d ≡ Some pair
        → Step (at (First d n ∷ fs) t x Yes)
        (at (Second d n (length t) ∷ fs) t x (Look pair.1 node.second))
    gathers : (fs : List Frame) (t u : List Caught) (x : List Failure) (d : Thing) (n mark : ℕ)
        → caught u ≡ after_second (as_pair d) (pair_node (node_at n)) (caught (drop mark t))
        → Step (at (Second d n mark ∷ fs) t x Yes) (at fs (take mark t ++ u) x Yes)
    no_attributes : (fs : List Frame) (t : List Caught) (x : List Failure) (d : Thing) (n : ℕ)
        → (xml_node (node_at n) ≡ None) ⊎ (as_xml d ≡ None)
        → Step (at (Tag d n ∷ fs) t x Yes) (at fs t x No)
    opens_attributes : (fs : List Frame) (t : List Caught) (x : List Failure) (d : Thing) (n : ℕ)
        (node : ℕ × ℕ × ℕ) (xml : Thing × Thing × Thing) → xml_node (node_at n) ≡ Some node
        → as_xml d ≡ Some xml
        → Step (at (Tag d n ∷ fs) t x Yes) (at (Attributes d n ∷ fs) t x (Look xml.1 node.1))
    no_content : (fs : List Frame) (t : List Caught) (x : List Failure) (d : Thing) (n : ℕ)
        → (xml_node (node_at n) ≡ None) ⊎ (as_xml d ≡ None)
        → Step (at (Attributes d n ∷ fs) t x Yes) (at fs t x No)
    opens_content : (fs : List Frame) (t : List Caught) (x : List Failure) (d : Thing) (n : ℕ)
        (node : ℕ × ℕ × ℕ) (xml : Thing × Thing × Thing) → xml_node (node_at n) ≡ Some node
        → as_xml d ≡ Some xml
        → Step (at (Attributes d n ∷ fs) t x Yes) (at fs t x (Look xml.2 node.2))
    next : (fs : List Frame) (t : List Caught) (x : List Failure) (d : Thing) (n index : ℕ)
        → Step (at (Field d n index ∷ fs) t x Yes) (at fs t x (Fields d n index))
    -- what was looked at is not taken
    tries : (fs : List Frame) (t : List Caught) (x : List Failure) (d : Thing) (q mark : ℕ)
        → Step (at (Or d q mark ∷ fs) t x No) (at fs (take mark t) x (Look d q))
    fails : (fs : List Frame) (t : List Caught) (x y : List Failure) (d : Thing) (n mark : ℕ)
        → Adds (d, n) x y → Step (at (Second d n mark ∷ fs) t x No) (at fs t y No)
    gives_up : (fs : List Frame) (t : List Caught) (x : List Failure) (f : Frame) → PassesNo f
        → Step (at (f ∷ fs) t x No) (at fs t x No)
