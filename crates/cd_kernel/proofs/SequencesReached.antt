-- Each node that is put for a sequence is reached, where its root and its states are.
use Rattle.std.proofs.Common.{◌≡◌, ℕ, Bool, true, false, List, [], ◌∷◌, ◌++◌, map, length, Some, refl}
use Rattle.std.proofs.Common.{sym, subst}
use Rattle.std.specs.List.{slice_get}
use Rattle.cd_sets.specs.declared.node_id.NodeId.{NodeId}
use Rattle.cd_syntax.specs.Name.{Name}
use Rattle.cd_model.specs.AllOf.{AllOf, AnyOf}
use Rattle.cd_model.specs.BuiltIns.{ANY}
use Rattle.cd_matching.specs.Kernel.{KernelNode, Both, leads_to, parts_of}
use Rattle.cd_matching.specs.Pattern.{Regular}
use Rattle.cd_moves.specs.Automaton.{items_of}
use Rattle.cd_kernel.specs.Copies.{Copy, AreJoined}
use Rattle.cd_kernel.specs.Making.{the_types}
use Rattle.cd_kernel.specs.Inner.Building.{Several, Nodes, rows_made, steps_of, put_copy}
use Rattle.cd_kernel.specs.Inner.Building.{put_rows, put_copies, put_sequence}
use Rattle.cd_kernel.specs.Inner.Gathering.{groups_of}
use Rattle.cd_moves.specs.Inner.Rows.{first_moves_row}
use Rattle.cd_kernel.proofs.CopiesBuilt.{copy_put, copy_is_made, states_count}
use Rattle.cd_kernel.proofs.CopiesBuilt.{starts_are_states}
use Rattle.cd_kernel.proofs.GrowingNodes.{Keeps}
use Rattle.cd_kernel.proofs.NodesReached.{AllReached, chained_reached, row_reached, rows_reached}
use Rattle.cd_kernel.proofs.NodesReached.{members_reached}
use Rattle.cd_kernel.proofs.PatternsMade.{both_joins, copies_are_made, chained_is_made}
use Rattle.cd_kernel.proofs.RowsBuilt.{row_is_made}
use Rattle.cd_kernel.proofs.SequencesBuilt.{Making, MakingGrows, copies, copies_grow}

module _ (variables : List Name) (r : Regular NodeId) where
  -- each copy has a state after each item
  pub states_are_all : (plain : Bool) (first others : Making) (groups : List (List Name))
      (nodes : Nodes) → AllOf (λ copy. length copy.states ≡ length (items_of [] r))
      (copies variables r plain first others groups nodes)
  states_are_all plain first others [] nodes = tt
  states_are_all plain first others (group ∷ groups) nodes = (
    states_count variables r group (first nodes),
    states_are_all false others others groups (put_copy variables r group (first nodes)).1,
  )

  module _ (final : Nodes) (Reached : ℕ → Type 0)
      (on : (number next : ℕ) (node : KernelNode NodeId) → Reached number
      → slice_get final number ≡ Some node
      → AnyOf (λ other. other ≡ next) (leads_to node ++ parts_of node) → Reached next) where
    abbrev All : Nodes → Type 0
    All = AllReached final Reached on

    -- the first states of copies that are joined
    starts_reached : (all : List Copy) (number : ℕ) → AreJoined the_types variables final all number
        → Reached number → AllOf (λ copy. Reached copy.start) all
    starts_reached all number joined reached =
        each_start all (members_reached final Reached on Both both_joins
        (map (λ copy. copy.start) all) number joined reached)
      where
        each_start : (some : List Copy) → AllOf Reached (map (λ copy. copy.start) some)
            → AllOf (λ copy. Reached copy.start) some
        each_start [] each = tt
        each_start (copy ∷ some) each = (each.0, each_start some each.1)

    copy_reached : (group : List Name) (items : Several)
        → Keeps (put_copy variables r group items).1 final
        → Reached (put_copy variables r group items).0
        → AllOf Reached (steps_of variables group r items).states → All items.1
        → All (put_copy variables r group items).1
    copy_reached group items keeps start states before =
        let steps = steps_of variables group r items in
        let between = put_rows steps (rows_made r) items.1 in
        row_reached final Reached on steps (first_moves_row r 0) between keeps start
        (rows_reached final Reached on steps (rows_made r) items.1
        (λ n x h. keeps n x ((row_is_made steps (first_moves_row r 0) between).grows.keeps n x h))
        (subst (AllOf Reached) (sym (starts_are_states variables r group items)) states) before)

    -- the nodes of the items of a copy
    abbrev pub ItemsReached : (plain : Bool) → Making → Type 0
    ItemsReached plain making = (copy : Copy) → copy.plain ≡ plain → (nodes : Nodes)
        → Keeps (making nodes).1 final → All nodes → All (making nodes).1

    copies_reached : (plain : Bool) (first others : Making) → MakingGrows others
        → ItemsReached plain first → ItemsReached false others → (groups : List (List Name))
        (starts : List ℕ) (nodes : Nodes)
        → AllOf (λ copy. Reached copy.start) (copies variables r plain first others groups nodes)
        → AllOf (λ copy. AllOf Reached copy.states)
        (copies variables r plain first others groups nodes)
        → Keeps (put_copies variables r first others groups starts nodes).1 final → All nodes
        → All (put_copies variables r first others groups starts nodes).1
    copies_reached plain first others other items items_too [] starts nodes at_starts states keeps before
        = before
    copies_reached plain first others other items items_too (group ∷ groups) starts nodes at_starts states
        keeps before =
        let copy = put_copy variables r group (first nodes) in
        let stay = λ (n : ℕ) (x : KernelNode NodeId) (h : slice_get copy.1 n ≡ Some x). keeps n x
        ((copies_grow variables r others others other other groups (starts ++ copy.0 ∷ [])
        copy.1).keeps n x h) in
        copies_reached false others others other items_too items_too groups (starts ++ copy.0 ∷ [])
        copy.1 at_starts.1 states.1 keeps
        (copy_reached group (first nodes) stay at_starts.0 states.0
        (items (copy_put variables r group (first nodes) plain) refl nodes
        (λ n x h. stay n x ((copy_is_made variables r group (first nodes)).grows.keeps n x h))
        before))

    pub sequence_reached : (kept : Bool) (first others : Making) (nodes : Nodes)
        → MakingGrows first → MakingGrows others → ItemsReached true first
        → ItemsReached false others
        → AreJoined the_types variables final
        (copies variables r true first others (groups_of kept r) nodes)
        (put_sequence variables kept r first others nodes).0
        → AllOf (λ copy. AllOf Reached copy.states)
        (copies variables r true first others (groups_of kept r) nodes)
        → Keeps (put_sequence variables kept r first others nodes).1 final
        → Reached (put_sequence variables kept r first others nodes).0 → All nodes
        → All (put_sequence variables kept r first others nodes).1
    sequence_reached kept first others nodes one other items items_too joined states keeps root
        before =
        let made = put_copies variables r first others (groups_of kept r) [] nodes in
        let several = copies_are_made variables r first others one other (groups_of kept r) [] nodes
        tt in
        chained_reached final Reached on Both both_joins ANY made.0 made.1 keeps root
        (copies_reached true first others other items items_too (groups_of kept r) [] nodes
        (starts_reached (copies variables r true first others (groups_of kept r) nodes)
        (put_sequence variables kept r first others nodes).0 joined root) states
        (λ n x h. keeps n x
        ((chained_is_made Both both_joins ANY made.0 made.1 several.there).grows.keeps n x h))
        before)
