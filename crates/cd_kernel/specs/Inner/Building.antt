-- What the code makes of patterns. Nodes are put after those that are there, and a node has the
-- number of its place.
use Rattle.std.specs.Prelude.{ℕ, zero, suc, ◌+◌, ◌-◌, ◌/◌, Bool, true, false, List, [], ◌∷◌, ◌++◌}
use Rattle.std.specs.Prelude.{map, length, take, drop, reverse, Option, Some, None}
use Rattle.std.specs.List.{slice_get}
use Rattle.std.specs.Option.{unwrap_or}
use Rattle.cd_sets.specs.declared.node_id.NodeId.{NodeId}
use Rattle.cd_syntax.specs.Name.{Name}
use Rattle.cd_syntax.specs.declared.constant.Constant.TheVariants as constant
use Rattle.cd_model.specs.BuiltIns.{NIL, ANY, EMPTY}
use Rattle.cd_model.specs.SortedFields.{inserted}
use Rattle.cd_matching.specs.Kernel.{Kernel, KernelNode, KernelField, Present, Optional, Test, Bind}
use Rattle.cd_matching.specs.Kernel.{Put}
use Rattle.cd_matching.specs.Kernel.{Pair, Xml, Record, Both, First, Gather}
use Rattle.cd_matching.specs.Pattern as pattern
use Rattle.cd_matching.specs.Pattern.{Pattern, Patterns, NoPattern, APattern, Fields, NoField}
use Rattle.cd_matching.specs.Pattern.{Regular, Regulars, NoRegular, ARegular}
use Rattle.cd_moves.specs.Automaton.{Move, End, To}
use Rattle.cd_kernel.specs.Inner.Gathering.{numbered, groups_of, gathering, with_variables}
use Rattle.cd_moves.specs.Inner.Rows.{first_moves_row, rows_back}

abbrev pub Nodes : Type 0
Nodes = List (KernelNode NodeId)

-- the number of the node that is made, and all nodes then
abbrev pub Built : Type 0
Built = ℕ × Nodes

abbrev pub put : KernelNode NodeId → Nodes → Built
put node nodes = (length nodes, nodes ++ node ∷ [])

-- a node over parts that are made before it
abbrev pub put_over : (ℕ → KernelNode NodeId) → Built → Built
put_over node one = put (node one.0) one.1

abbrev pub two_of : (ℕ → ℕ → KernelNode NodeId) → Built → (Nodes → Built) → Built
two_of node one other = put_over (node one.0) (other one.1)

abbrev pub three_of : (ℕ → ℕ → ℕ → KernelNode NodeId) → Built → (Nodes → Built)
    → (Nodes → Built) → Built
three_of node one other last = two_of (node one.0) (other one.1) last

-- a variable that is not kept takes anything and captures nothing
abbrev pub put_if : Bool → KernelNode NodeId → Nodes → Built
put_if true node nodes = put node nodes
put_if false node nodes = put (Test ANY) nodes

-- the last node of a state's moves, if there is one, and all nodes
abbrev pub Chain : Type 0
Chain = Option ℕ × Nodes

abbrev pub begun : Built → Chain
begun one = (Some one.0, one.1)

-- The chain of some nodes, in at most so many steps down: a chain of one node is that node, a chain
-- of more joins the chains of both halves, and a chain of none is a test of `none`
abbrev pub chain_within : (steps : ℕ) → (ℕ → ℕ → KernelNode NodeId) → (none : NodeId) → List ℕ
    → Nodes → Built
chain_within steps node none [] nodes = put (Test none) nodes
chain_within steps node none (number ∷ []) nodes = (number, nodes)
chain_within zero node none (number ∷ next ∷ numbers) nodes = (number, nodes)
chain_within (suc steps) node none (number ∷ next ∷ numbers) nodes =
    two_of node
    (chain_within steps node none
    (take (length (number ∷ next ∷ numbers) / 2) (number ∷ next ∷ numbers)) nodes)
    (chain_within steps node none
    (drop (length (number ∷ next ∷ numbers) / 2) (number ∷ next ∷ numbers)))

-- each half has fewer nodes, so as many steps as nodes are enough
abbrev pub chained : (ℕ → ℕ → KernelNode NodeId) → (none : NodeId) → List ℕ → Nodes → Built
chained node none numbers nodes = chain_within (length numbers) node none numbers nodes

-- several parts in turn, after those that were made
abbrev pub Several : Type 0
Several = List ℕ × Nodes

abbrev pub with_one : List ℕ → Built → (List ℕ → Nodes → Several) → Several
with_one numbers one rest = rest (numbers ++ one.0 ∷ []) one.1

abbrev pub and_then : Several → (List ℕ → Nodes → Several) → Several
and_then made rest = rest made.0 made.1

abbrev pub joined : (ℕ → ℕ → KernelNode NodeId) → (none : NodeId) → Several → Built
joined node none made = chained node none made.0 made.1

-- fields in the order of their labels
abbrev pub KernelFields : Type 0
KernelFields = List (Name × KernelField NodeId)

abbrev pub sorted_over : KernelFields → KernelFields → KernelFields
sorted_over [] sorted = sorted
sorted_over (field ∷ rest) sorted = inserted field (sorted_over rest sorted)

abbrev pub with_field : Name → KernelFields → Built → (KernelFields → Nodes → KernelFields × Nodes)
    → KernelFields × Nodes
with_field label made one rest = rest (made ++ (label, Present one.0) ∷ []) one.1

abbrev pub put_record : (more : Bool) → KernelFields × Nodes → Built
put_record more made = put (Record (sorted_over made.0 []) more) made.1

-- what the states of a copy of an automaton need: the variables of its group, the one that gathers
-- each item, the node of each item, and that of the state after it
pub record Steps : Type 0 where
  pub group : List ℕ
  pub gatherers : List (Option ℕ)
  pub items : List ℕ
  pub states : List ℕ

-- a variable that is the empty sequence, and what another node takes
abbrev pub put_before : ℕ → Built → Built
put_before variable one =
    put_over (λ first. Both first one.0) (put (Put variable constant.Nil) one.1)

-- the things of a type, where each of these variables is the empty sequence
abbrev pub put_empty : NodeId → List ℕ → Nodes → Built
put_empty type [] nodes = put (Test type) nodes
put_empty type (variable ∷ variables) nodes = put_before variable (put_empty type variables nodes)

abbrev pub step : Option ℕ → ℕ → ℕ → KernelNode NodeId
step None item next = Pair item next
step (Some variable) item next = Gather variable item next

abbrev pub put_move : Steps → Move → Nodes → Built
put_move steps End nodes = put_empty NIL steps.group nodes
put_move steps (To place) nodes =
    put (step (unwrap_or (slice_get steps.gatherers place) None)
    (unwrap_or (slice_get steps.items place) 0) (unwrap_or (slice_get steps.states place) 0)) nodes

-- a state, by its moves: a move is put before the others
abbrev pub with_move_before : Steps → Move → Chain → Chain
with_move_before steps move (None, nodes) = begun (put_move steps move nodes)
with_move_before steps move (Some rest, nodes) =
    begun (put_over (λ first. First first rest) (put_move steps move nodes))

abbrev pub moves_chain : Steps → List Move → Nodes → Chain
moves_chain steps [] nodes = (None, nodes)
moves_chain steps (move ∷ moves) nodes =
    with_move_before steps move (moves_chain steps moves nodes)

abbrev pub or_failing : Steps → Chain → Built
or_failing steps (None, nodes) = two_of Both (put (Test EMPTY) nodes) (put_empty ANY steps.group)
or_failing steps (Some number, nodes) = (number, nodes)

abbrev pub put_row : Steps → List Move → Nodes → Built
put_row steps row nodes = or_failing steps (moves_chain steps row nodes)

abbrev pub put_rows : Steps → List (List Move) → Nodes → Nodes
put_rows steps [] nodes = nodes
put_rows steps (row ∷ rows) nodes = put_rows steps rows (put_row steps row nodes).1

-- how many nodes stand before the last one of a move and of a state, in a group of so many
abbrev pub before_move : (group : ℕ) → Move → ℕ
before_move group End = group + group
before_move group (To place) = 0

abbrev pub of_moves : (group : ℕ) → List Move → ℕ
of_moves group [] = 0
of_moves group (move ∷ moves) = suc (suc (before_move group move)) + of_moves group moves

abbrev pub before_row : (group : ℕ) → List Move → ℕ
before_row group [] = suc (suc (group + group))
before_row group (move ∷ moves) = of_moves group (move ∷ moves) - 2

-- the nodes of the states of these rows, where the first has this number or a later one
abbrev pub places_of : (group at : ℕ) → List (List Move) → List ℕ
places_of group at [] = []
places_of group at (row ∷ rows) =
    (at + before_row group row) ∷ places_of group (suc (at + before_row group row)) rows

abbrev pub rows_made : Regular NodeId → List (List Move)
rows_made r = reverse (rows_back r 0 (End ∷ []))

module _ (variables : List Name) where
  abbrev pub steps_of : List Name → Regular NodeId → Several → Steps
  steps_of group r items = record {
    group = map (numbered variables) group;
    gatherers = gathering variables group None r;
    items = items.0;
    states = places_of (length group) (length items.1) (rows_made r);
  }

  -- a copy of the automaton of an expression, for a group, after its items
  abbrev pub put_copy : Regular NodeId → List Name → Several → Built
  put_copy r group items =
      put_row (steps_of group r items) (first_moves_row r 0)
      (put_rows (steps_of group r items) (rows_made r) items.1)

  -- the copies for some groups, whose items are made in the first one by one function, and in the
  -- others by another
  abbrev pub put_copies : Regular NodeId → (first others : Nodes → Several) → List (List Name)
      → List ℕ → Nodes → Several
  put_copies r first others [] starts nodes = (starts, nodes)
  put_copies r first others (group ∷ groups) starts nodes =
      with_one starts (put_copy r group (first nodes)) (put_copies r others others groups)

  abbrev pub put_sequence : Bool → Regular NodeId → (first others : Nodes → Several) → Nodes
      → Built
  put_sequence kept r first others nodes =
      joined Both ANY (put_copies r first others (groups_of kept r) [] nodes)

  -- the node of a pattern, whose variables are kept or not
  abbrev mutual
    pub built : (kept : Bool) → Pattern NodeId → Nodes → Built
    built kept (pattern.OfType type) nodes = put (Test type) nodes
    built kept (pattern.Bind name) nodes = put_if kept (Bind (numbered variables name)) nodes
    built kept (pattern.Default name constant) nodes =
        put_if kept (Put (numbered variables name) constant) nodes
    built kept (pattern.Pair p q) nodes = two_of Pair (built kept p nodes) (built kept q)
    built kept (pattern.Xml p q r) nodes =
        three_of Xml (built kept p nodes) (built kept q) (built kept r)
    built kept (pattern.Record fields more) nodes =
        put_record more (built_fields kept fields [] nodes)
    built kept (pattern.Both all) nodes = joined Both ANY (built_all kept all [] nodes)
    built kept (pattern.First all) nodes = joined First EMPTY (built_all kept all [] nodes)
    built kept (pattern.Sequence r) nodes =
        put_sequence kept r (built_items kept r []) (built_items false r []) nodes

    pub built_all : (kept : Bool) → Patterns NodeId → List ℕ → Nodes → Several
    built_all kept NoPattern numbers nodes = (numbers, nodes)
    built_all kept (APattern p rest) numbers nodes =
        with_one numbers (built kept p nodes) (built_all kept rest)

    pub built_fields : (kept : Bool) → Fields NodeId → KernelFields → Nodes
        → KernelFields × Nodes
    built_fields kept NoField made nodes = (made, nodes)
    built_fields kept (pattern.Present label p rest) made nodes =
        with_field label made (built kept p nodes) (built_fields kept rest)
    built_fields kept (pattern.Optional label type rest) made nodes =
        built_fields kept rest (made ++ (label, Optional type) ∷ []) nodes

    pub built_items : (kept : Bool) → Regular NodeId → List ℕ → Nodes → Several
    built_items kept pattern.Nothing numbers nodes = (numbers, nodes)
    built_items kept (pattern.Item p) numbers nodes =
        with_one numbers (built kept p nodes) (λ more after. (more, after))
    built_items kept (pattern.Seq all) numbers nodes = built_items_all kept all numbers nodes
    built_items kept (pattern.Alt all) numbers nodes = built_items_all kept all numbers nodes
    built_items kept (pattern.Repeat r post) numbers nodes = built_items kept r numbers nodes
    built_items kept (pattern.Capture name r) numbers nodes = built_items kept r numbers nodes

    pub built_items_all : (kept : Bool) → Regulars NodeId → List ℕ → Nodes → Several
    built_items_all kept NoRegular numbers nodes = (numbers, nodes)
    built_items_all kept (ARegular first rest) numbers nodes =
        and_then (built_items kept first numbers nodes) (built_items_all kept rest)

-- the kernel of a pattern
abbrev pub kernel_with : List Name → Built → Kernel NodeId
kernel_with variables made = record { nodes = made.1; root = made.0; variables = variables }

abbrev pub kernel_of : Pattern NodeId → Kernel NodeId
kernel_of p = kernel_with (with_variables p []) (built (with_variables p []) true p [])
