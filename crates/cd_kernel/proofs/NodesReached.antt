-- Each node that is put for a chain or for the moves of a state is reached from the last one.
use Rattle.std.proofs.Common.{◌≡◌, ◌<◌, ◌≤◌, ◌/◌, ℕ, zero, suc, List, [], ◌∷◌, ◌++◌, inl, inr}
use Rattle.std.proofs.Common.{length, take, drop, Some, None, refl, sym, subst, arith}
use Rattle.std.specs.List.{slice_get}
use Rattle.std.specs.Option.{unwrap_or}
use Rattle.std.proofs.lemmas.Bool.{cases_lt}
use Rattle.std.proofs.lemmas.Option.{none-some, same_Some}
use Rattle.cd_sets.specs.declared.node_id.NodeId.{NodeId}
use Rattle.cd_syntax.specs.declared.constant.Constant.TheVariants as constant
use Rattle.cd_model.specs.AllOf.{AllOf, AnyOf}
use Rattle.cd_model.specs.BuiltIns.{NIL, ANY, EMPTY}
use Rattle.cd_model.proofs.Ones.{each_of_lists}
use Rattle.cd_matching.specs.Kernel.{KernelNode, Test, Put, Both, First, leads_to, parts_of}
use Rattle.cd_moves.specs.Automaton.{Move, End, To}
use Rattle.cd_kernel.specs.Chains.{IsChain, one_node, two_chains}
use Rattle.cd_kernel.specs.Inner.Building.{Nodes, Chain, put, chain_within, chained}
use Rattle.cd_kernel.specs.Inner.Building.{Steps, put_empty, step, put_move, with_move_before}
use Rattle.cd_kernel.specs.Inner.Building.{moves_chain, or_failing, put_row, put_rows}
use Rattle.cd_kernel.proofs.ChainsBuilt.{chain_keeps}
use Rattle.cd_kernel.proofs.GrowingNodes.{Keeps, length_last, keeps_more, is_put}
use Rattle.cd_kernel.proofs.PatternsMade.{Joins, both_joins, first_joins}
use Rattle.cd_kernel.proofs.RowsBuilt.{empty_is_made, move_is_made, rows_grow}
use Rattle.cd_kernel.proofs.RowsBuilt.{starts_of}

module _ (final : Nodes) (Reached : ℕ → Type 0)
    (on : (number next : ℕ) (node : KernelNode NodeId) → Reached number
    → slice_get final number ≡ Some node
    → AnyOf (λ other. other ≡ next) (leads_to node ++ parts_of node) → Reached next) where
  -- all of these nodes are reached
  abbrev pub AllReached : Nodes → Type 0
  AllReached nodes = (number : ℕ) → number < length nodes → Reached number

  pub put_reached : (node : KernelNode NodeId) (nodes : Nodes) → Reached (length nodes)
      → AllReached nodes → AllReached (put node nodes).1
  put_reached node nodes last before number within = elim (cases_lt number (length nodes)) [
    | inl below ↦ before number below
    | inr above ↦
        let more = length_last nodes node in
        let same = the_last number (length nodes) above
        (subst (λ (count : ℕ). number < count) more within) in
        subst Reached (sym same) last
  ]
    where
      the_last : (a b : ℕ) → b ≤ a → a < suc b → a ≡ b
      the_last a b above within = omega (arith, above, within)

  -- a node that leads to two others
  module _ (node : ℕ → ℕ → KernelNode NodeId) (joins : Joins node) where
    pub first_reached : (number first second : ℕ) → Reached number
        → slice_get final number ≡ Some (node first second) → Reached first
    first_reached number first second reached there =
        on number first (node first second) reached there
        (subst (λ (led : List ℕ). AnyOf (λ other. other ≡ first) (led ++ parts_of (node first second)))
        (sym (joins first second)) (inl refl))

    pub second_reached : (number first second : ℕ) → Reached number
        → slice_get final number ≡ Some (node first second) → Reached second
    second_reached number first second reached there =
        on number second (node first second) reached there
        (subst (λ (led : List ℕ). AnyOf (λ other. other ≡ second) (led ++ parts_of (node first second)))
        (sym (joins first second)) (inr (inl refl)))

    module _ (none : NodeId) where
      chain_reached : (steps : ℕ) (numbers : List ℕ) (nodes : Nodes)
          → Keeps (chain_within steps node none numbers nodes).1 final
          → Reached (chain_within steps node none numbers nodes).0 → AllReached nodes
          → AllReached (chain_within steps node none numbers nodes).1
      chain_reached steps [] nodes keeps root before = put_reached (Test none) nodes root before
      chain_reached steps (number ∷ []) nodes keeps root before = before
      chain_reached zero (number ∷ next ∷ numbers) nodes keeps root before = before
      chain_reached (suc steps) (number ∷ next ∷ numbers) nodes keeps root before =
          let all = number ∷ next ∷ numbers in
          let front = take (length all / 2) all in
          let back = drop (length all / 2) all in
          let first = chain_within steps node none front nodes in
          let second = chain_within steps node none back first.1 in
          let there = is_put (node first.0 second.0) second.1 final keeps in
          let stay = λ (n : ℕ) (x : KernelNode NodeId) (h : slice_get second.1 n ≡ Some x).
          keeps n x (keeps_more second.1 (node first.0 second.0 ∷ []) n x h) in
          put_reached (node first.0 second.0) second.1 root
          (chain_reached steps back first.1 stay
          (second_reached (length second.1) first.0 second.0 root there)
          (chain_reached steps front nodes
          (λ n x h. stay n x (chain_keeps node none steps back first.1 n x h))
          (first_reached (length second.1) first.0 second.0 root there) before))

      pub chained_reached : (numbers : List ℕ) (nodes : Nodes)
          → Keeps (chained node none numbers nodes).1 final
          → Reached (chained node none numbers nodes).0 → AllReached nodes
          → AllReached (chained node none numbers nodes).1
      chained_reached numbers = chain_reached (length numbers) numbers

    -- so are the nodes that are joined
    pub members_reached : (numbers : List ℕ) (number : ℕ) → IsChain final node numbers number
        → Reached number → AllOf Reached numbers
    members_reached _ _ (one_node number) reached = (reached, tt)
    members_reached _ _ (two_chains front back first second number there one other) reached =
        each_of_lists Reached front back
        (members_reached front first one (first_reached number first second reached there))
        (members_reached back second other (second_reached number first second reached there))

  empty_reached : (type : NodeId) (group : List ℕ) (nodes : Nodes)
      → Keeps (put_empty type group nodes).1 final → Reached (put_empty type group nodes).0
      → AllReached nodes → AllReached (put_empty type group nodes).1
  empty_reached type [] nodes keeps root before = put_reached (Test type) nodes root before
  empty_reached type (variable ∷ group) nodes keeps root before =
      let rest = put_empty type group nodes in
      let first = put (Put variable constant.Nil) rest.1 in
      let there = is_put (Both first.0 rest.0) first.1 final keeps in
      put_reached (Both first.0 rest.0) first.1 root
      (put_reached (Put variable constant.Nil) rest.1
      (first_reached Both both_joins (length first.1) first.0 rest.0 root there)
      (empty_reached type group nodes
      (λ n x h. keeps n x (keeps_more first.1 (Both first.0 rest.0 ∷ []) n x
      (keeps_more rest.1 (Put variable constant.Nil ∷ []) n x h)))
      (second_reached Both both_joins (length first.1) first.0 rest.0 root there) before))

  module _ (steps : Steps) where
    move_reached : (move : Move) (nodes : Nodes) → Keeps (put_move steps move nodes).1 final
        → Reached (put_move steps move nodes).0 → AllReached nodes
        → AllReached (put_move steps move nodes).1
    move_reached End nodes keeps root before =
        empty_reached NIL steps.group nodes keeps root before
    move_reached (To place) nodes keeps root before = put_reached
        (step (unwrap_or (slice_get steps.gatherers place) None)
        (unwrap_or (slice_get steps.items place) 0)
        (unwrap_or (slice_get steps.states place) 0)) nodes root before

    abbrev FirstReached : Chain → Type 0
    FirstReached chain = (number : ℕ) → chain.0 ≡ Some number → Reached number

    before_reached : (move : Move) (chain : Chain)
        → Keeps (with_move_before steps move chain).1 final
        → FirstReached (with_move_before steps move chain)
        → (Keeps chain.1 final → FirstReached chain → AllReached chain.1)
        → AllReached (with_move_before steps move chain).1
    before_reached move (None, nodes) keeps head rest =
        move_reached move nodes keeps (head (put_move steps move nodes).0 refl)
        (rest (λ n x h. keeps n x ((move_is_made steps move nodes).grows.keeps n x h))
        (λ n h. absurd (none-some n h)))
    before_reached move (Some other, nodes) keeps head rest =
        let one = put_move steps move nodes in
        let last = head (length one.1) refl in
        let there = is_put (First one.0 other) one.1 final keeps in
        let stay = λ (n : ℕ) (x : KernelNode NodeId) (h : slice_get one.1 n ≡ Some x).
        keeps n x (keeps_more one.1 (First one.0 other ∷ []) n x h) in
        put_reached (First one.0 other) one.1 last
        (move_reached move nodes stay
        (first_reached First first_joins (length one.1) one.0 other last there)
        (rest (λ n x h. stay n x ((move_is_made steps move nodes).grows.keeps n x h))
        (λ n h. subst Reached (same_Some other n h)
        (second_reached First first_joins (length one.1) one.0 other last there))))

    moves_reached : (moves : List Move) (nodes : Nodes)
        → Keeps (moves_chain steps moves nodes).1 final
        → FirstReached (moves_chain steps moves nodes) → AllReached nodes
        → AllReached (moves_chain steps moves nodes).1
    moves_reached [] nodes keeps head before = before
    moves_reached (move ∷ moves) nodes keeps head before =
        before_reached move (moves_chain steps moves nodes) keeps head
        (λ stay first. moves_reached moves nodes stay first before)

    state_reached : (chain : Chain) → Keeps (or_failing steps chain).1 final
        → Reached (or_failing steps chain).0
        → (Keeps chain.1 final → FirstReached chain → AllReached chain.1)
        → AllReached (or_failing steps chain).1
    state_reached (Some number, nodes) keeps root rest =
        rest keeps (λ n h. subst Reached (same_Some number n h) root)
    state_reached (None, nodes) keeps root rest =
        let first = put (Test EMPTY) nodes in
        let second = put_empty ANY steps.group first.1 in
        let there = is_put (Both first.0 second.0) second.1 final keeps in
        let stay = λ (n : ℕ) (x : KernelNode NodeId) (h : slice_get second.1 n ≡ Some x).
        keeps n x (keeps_more second.1 (Both first.0 second.0 ∷ []) n x h) in
        put_reached (Both first.0 second.0) second.1 root
        (empty_reached ANY steps.group first.1 stay
        (second_reached Both both_joins (length second.1) first.0 second.0 root there)
        (put_reached (Test EMPTY) nodes
        (first_reached Both both_joins (length second.1) first.0 second.0 root there)
        (rest (λ n x h. stay n x ((empty_is_made ANY steps.group first.1).grows.keeps n x
        (keeps_more nodes (Test EMPTY ∷ []) n x h)))
        (λ n h. absurd (none-some n h)))))

    -- the nodes of a state, and those of several
    pub row_reached : (row : List Move) (nodes : Nodes) → Keeps (put_row steps row nodes).1 final
        → Reached (put_row steps row nodes).0 → AllReached nodes
        → AllReached (put_row steps row nodes).1
    row_reached row nodes keeps root before =
        state_reached (moves_chain steps row nodes) keeps root
        (λ stay head. moves_reached row nodes stay head before)

    pub rows_reached : (rows : List (List Move)) (nodes : Nodes)
        → Keeps (put_rows steps rows nodes) final → AllOf Reached (starts_of steps rows nodes)
        → AllReached nodes → AllReached (put_rows steps rows nodes)
    rows_reached [] nodes keeps starts before = before
    rows_reached (row ∷ rows) nodes keeps starts before =
        let one = put_row steps row nodes in
        rows_reached rows one.1 keeps starts.1
        (row_reached row nodes
        (λ n x h. keeps n x ((rows_grow steps rows one.1).keeps n x h)) starts.0 before)
