-- What is put for the moves of a state is a state.
use Rattle.std.proofs.Common.{◌≡◌, ◌+◌, ◌<◌, ℕ, zero, suc, Bool, true, false, List, [], ◌∷◌, map}
use Rattle.std.proofs.Common.{◌||◌, if◌then◌else◌, bytes_eq, true≢false}
use Rattle.std.proofs.Common.{length, Option, Some, None, option_map, refl, sym, ap, ap₂, subst}
use Rattle.std.proofs.Common.{◌∙◌, arith}
use Rattle.std.specs.List.{slice_get}
use Rattle.std.proofs.lemmas.Option.{none-some, same_Some}
use Rattle.std.specs.Option.{unwrap_or}
use Rattle.cd_sets.specs.declared.node_id.NodeId.{NodeId}
use Rattle.cd_syntax.specs.Name.{Name}
use Rattle.cd_syntax.specs.declared.constant.Constant.TheVariants as constant
use Rattle.cd_model.specs.AllOf.{AllOf}
use Rattle.cd_model.specs.BuiltIns.{NIL, ANY, EMPTY}
use Rattle.cd_matching.specs.Kernel.{KernelNode, Test, Put, Both, First, leads_to}
use Rattle.cd_moves.specs.Automaton.{Move, End, To, ItemOf}
use Rattle.cd_kernel.specs.Copies.{IsNumber, is_among, gatherer, Copy, ArePut, IsStep, IsMove}
use Rattle.cd_kernel.specs.Copies.{IsState}
use Rattle.cd_kernel.specs.Making.{the_types}
use Rattle.cd_kernel.specs.Inner.Building.{Nodes, Built, Chain, begun, put, put_over, Steps}
use Rattle.cd_kernel.specs.Inner.Building.{put_before, put_empty, step, put_move, moves_chain}
use Rattle.cd_kernel.specs.Inner.Building.{with_move_before, or_failing, put_row, put_rows}
use Rattle.cd_kernel.specs.Inner.Building.{before_move, of_moves, before_row, places_of}
use Rattle.cd_kernel.specs.Inner.Gathering.{numbered}
use Rattle.cd_kernel.proofs.MovesWithin.{LeadsWithin}
use Rattle.cd_kernel.proofs.VariableNumbers.{names_same}
use Rattle.cd_kernel.proofs.GrowingNodes.{Keeps, Grows, Made, grows_not, grows_on, made_on}
use Rattle.cd_kernel.proofs.GrowingNodes.{put_is_made, is_put, keeps_more, length_last}

-- a node over one that is made
pub over_is_made : (node : ℕ → KernelNode NodeId) (old : Nodes) (one : Built) → Made old one
    → AllOf (λ next. next < length one.1) (leads_to (node one.0)) → Made old (put_over node one)
over_is_made node old one made below =
    made_on old one.1 (put_over node one) made.grows (put_is_made (node one.0) one.1 below)

before_is_made : (variable : ℕ) (old : Nodes) (one : Built) → Made old one
    → Made old (put_before variable one)
before_is_made variable old one made =
    let first = put_is_made (Put variable constant.Nil) one.1 tt in
    let there = first.there in
    let longer = first.grows.longer in
    let rest = made.there in
    over_is_made (λ number. Both number one.0) old (put (Put variable constant.Nil) one.1)
    (made_on old one.1 (put (Put variable constant.Nil) one.1) made.grows first)
    (there, (omega (arith, rest, longer), tt))

pub empty_is_made : (type : NodeId) (group : List ℕ) (nodes : Nodes)
    → Made nodes (put_empty type group nodes)
empty_is_made type [] nodes = put_is_made (Test type) nodes tt
empty_is_made type (variable ∷ group) nodes =
    before_is_made variable nodes (put_empty type group nodes) (empty_is_made type group nodes)

step_leads_nowhere : (o : Option ℕ) (item next : ℕ) (bound : ℕ)
    → AllOf (λ number. number < bound) (leads_to (step o item next))
step_leads_nowhere None item next bound = tt
step_leads_nowhere (Some variable) item next bound = tt

pub move_is_made : (steps : Steps) (move : Move) (nodes : Nodes)
    → Made nodes (put_move steps move nodes)
move_is_made steps End nodes = empty_is_made NIL steps.group nodes
move_is_made steps (To place) nodes = put_is_made
    (step (unwrap_or (slice_get steps.gatherers place) None)
    (unwrap_or (slice_get steps.items place) 0) (unwrap_or (slice_get steps.states place) 0)) nodes
    (step_leads_nowhere (unwrap_or (slice_get steps.gatherers place) None)
    (unwrap_or (slice_get steps.items place) 0) (unwrap_or (slice_get steps.states place) 0)
    (length nodes))

-- a chain that is made, among all nodes then
pub record ChainMade (old : Nodes) (chain : Chain) : Type 0 where
  pub grows : Grows old chain.1
  pub there : (number : ℕ) → chain.0 ≡ Some number → number < length chain.1

linked_is_made : (steps : Steps) (move : Move) (old : Nodes) (chain : Chain) → ChainMade old chain
    → ChainMade old (with_move_before steps move chain)
linked_is_made steps move old (None, nodes) rest =
    let one = made_on old nodes (put_move steps move nodes) rest.grows
    (move_is_made steps move nodes) in
    is_begun old (put_move steps move nodes) one
  where
    is_begun : (old : Nodes) (made : Built) → Made old made → ChainMade old (begun made)
    is_begun old made is = record {
      grows = is.grows;
      there = λ number h. subst (λ (n : ℕ). n < length made.1) (same_Some made.0 number h) is.there;
    }
linked_is_made steps move old (Some head, nodes) rest =
    let one = move_is_made steps move nodes in
    let there = one.there in
    let longer = one.grows.longer in
    let head_there = rest.there head refl in
    let made = over_is_made (λ first. First first head) old (put_move steps move nodes)
    (made_on old nodes (put_move steps move nodes) rest.grows one)
    (there, (omega (arith, longer, head_there), tt)) in
    record {
      grows = made.grows;
      there = λ number h. subst
          (λ (n : ℕ). n < length (put_over (λ first. First first head)
          (put_move steps move nodes)).1)
          (same_Some (put_over (λ first. First first head) (put_move steps move nodes)).0 number h)
          made.there;
    }

chain_is_made : (steps : Steps) (moves : List Move) (nodes : Nodes)
    → ChainMade nodes (moves_chain steps moves nodes)
chain_is_made steps [] nodes =
    record { grows = grows_not nodes; there = λ number h. absurd (none-some number h) }
chain_is_made steps (move ∷ moves) nodes =
    linked_is_made steps move nodes (moves_chain steps moves nodes)
    (chain_is_made steps moves nodes)

failing_is_made : (steps : Steps) (old : Nodes) (chain : Chain) → ChainMade old chain
    → Made old (or_failing steps chain)
failing_is_made steps old (Some number, nodes) made =
    record { grows = made.grows; there = made.there number refl }
failing_is_made steps old (None, nodes) made =
    let first = put_is_made (Test EMPTY) nodes tt in
    let second = empty_is_made ANY steps.group (put (Test EMPTY) nodes).1 in
    let there = first.there in
    let longer = second.grows.longer in
    over_is_made (Both (put (Test EMPTY) nodes).0) old
    (put_empty ANY steps.group (put (Test EMPTY) nodes).1)
    (made_on old (put (Test EMPTY) nodes).1 (put_empty ANY steps.group (put (Test EMPTY) nodes).1)
    (grows_on old nodes (put (Test EMPTY) nodes).1 made.grows first.grows) second)
    (omega (arith, there, longer), (second.there, tt))

pub row_is_made : (steps : Steps) (row : List Move) (nodes : Nodes)
    → Made nodes (put_row steps row nodes)
row_is_made steps row nodes =
    failing_is_made steps nodes (moves_chain steps row nodes) (chain_is_made steps row nodes)

pub rows_grow : (steps : Steps) (rows : List (List Move)) (nodes : Nodes)
    → Grows nodes (put_rows steps rows nodes)
rows_grow steps [] nodes = grows_not nodes
rows_grow steps (row ∷ rows) nodes = grows_on nodes (put_row steps row nodes).1
    (put_rows steps rows (put_row steps row nodes).1) (row_is_made steps row nodes).grows
    (rows_grow steps rows (put_row steps row nodes).1)

-- the nodes of the states of some rows
abbrev pub starts_of : Steps → List (List Move) → Nodes → List ℕ
starts_of steps [] nodes = []
starts_of steps (row ∷ rows) nodes =
    (put_row steps row nodes).0 ∷ starts_of steps rows (put_row steps row nodes).1

gatherer_is_among : (group around : List Name) (name : Name) → gatherer group around ≡ Some name
    → is_among group name ≡ true
gatherer_is_among group [] name h = absurd (none-some name h)
gatherer_is_among group (head ∷ around) name h = by_test (is_among group head) refl h
    (gatherer_is_among group around name)
  where
    by_test : (b : Bool) → is_among group head ≡ b
        → (if b then Some head else gatherer group around) ≡ Some name
        → (gatherer group around ≡ Some name → is_among group name ≡ true)
        → is_among group name ≡ true
    by_test true there h on =
        subst (λ (n : Name). is_among group n ≡ true) (same_Some head name h) there
    by_test false differs h on = on h

-- the variables of a group have numbers
abbrev pub HaveNumbers : List Name → List Name → Type 0
HaveNumbers variables = AllOf (λ name. IsNumber variables name (numbered variables name))

named_among : (variables names : List Name) (name : Name)
    → HaveNumbers variables names → is_among names name ≡ true
    → IsNumber variables name (numbered variables name)
named_among variables [] name named there = absurd (true≢false (sym there))
named_among variables (other ∷ names) name named there =
    by_test (bytes_eq name other) refl there (named_among variables names name named.1)
  where
    by_test : (b : Bool) → bytes_eq name other ≡ b → (b || is_among names name) ≡ true
        → (is_among names name ≡ true → IsNumber variables name (numbered variables name))
        → IsNumber variables name (numbered variables name)
    by_test true same there on = subst (λ (n : Name). IsNumber variables n (numbered variables n))
        (sym (names_same name other same)) named.0
    by_test false differs there on = on there

-- what the code knows of a copy is right: each item that is within has a node, a next state and the
-- variable of the group that gathers it
pub record AreSteps (variables : List Name) (items : List (ItemOf NodeId)) (copy : Copy)
    (steps : Steps) : Type 0 where
  pub group : steps.group ≡ map (numbered variables) copy.group
  pub named : HaveNumbers variables copy.group
  pub at : (place : ℕ) (of : ItemOf NodeId) → slice_get items place ≡ Some of
      → (item next : ℕ) × (slice_get copy.items place ≡ Some item)
      × (slice_get copy.states place ≡ Some next)
      × (slice_get steps.items place ≡ Some item) × (slice_get steps.states place ≡ Some next)
      × (slice_get steps.gatherers place
      ≡ Some (option_map (numbered variables) (gatherer copy.group of.1)))

module _ (variables : List Name) (final : Nodes) where
  empty_is_put : (type : NodeId) (names : List Name) (nodes : Nodes) → HaveNumbers variables names
      → Keeps (put_empty type (map (numbered variables) names) nodes).1 final
      → ArePut the_types variables final type names
      (put_empty type (map (numbered variables) names) nodes).0
  empty_is_put type [] nodes named keeps = is_put (Test type) nodes final keeps
  empty_is_put type (name ∷ names) nodes named keeps =
      let rest = put_empty type (map (numbered variables) names) nodes in
      let first = put (Put (numbered variables name) constant.Nil) rest.1 in (
        numbered variables name,
        first.0,
        rest.0,
        named.0,
        is_put (Both first.0 rest.0) first.1 final keeps,
        is_put (Put (numbered variables name) constant.Nil) rest.1 final
            (λ number x h. keeps number x
            (keeps_more first.1 (Both first.0 rest.0 ∷ []) number x h)),
        empty_is_put type names nodes named.1
            (λ number x h. keeps number x (keeps_more first.1 (Both first.0 rest.0 ∷ []) number x
            (keeps_more rest.1 (Put (numbered variables name) constant.Nil ∷ []) number x h))),
      )

  module _ (items : List (ItemOf NodeId)) (copy : Copy) (steps : Steps)
      (are : AreSteps variables items copy steps) where
    group_is_put : (type : NodeId) (nodes : Nodes)
        → Keeps (put_empty type steps.group nodes).1 final
        → ArePut the_types variables final type copy.group (put_empty type steps.group nodes).0
    group_is_put type nodes keeps =
        subst (λ (group : List ℕ). Keeps (put_empty type group nodes).1 final
        → ArePut the_types variables final type copy.group (put_empty type group nodes).0)
        (sym are.group) (empty_is_put type copy.group nodes are.named) keeps

    step_is_put : (o : Option Name) (number item next : ℕ)
        → ((name : Name) → o ≡ Some name → IsNumber variables name (numbered variables name))
        → slice_get final number ≡ Some (step (option_map (numbered variables) o) item next)
        → IsStep the_types variables final o number item next
    step_is_put None number item next named h = h
    step_is_put (Some name) number item next named h =
        (numbered variables name, named name refl, h)

    move_is_put : (move : Move) (nodes : Nodes) → LeadsWithin items move
        → Keeps (put_move steps move nodes).1 final
        → IsMove the_types variables final copy items move (put_move steps move nodes).0
    move_is_put End nodes within keeps = group_is_put NIL nodes keeps
    move_is_put (To place) nodes within keeps =
        let at = are.at place within.0 within.1 in (
          at.0,
          at.1,
          within.0,
          at.2,
          at.3,
          within.1,
          step_is_put (gatherer copy.group within.0.1) (length nodes) at.0 at.1
              (λ name h. named_among variables copy.group name are.named
              (gatherer_is_among copy.group within.0.1 name h))
              (is_put (step (unwrap_or (slice_get steps.gatherers place) None)
              (unwrap_or (slice_get steps.items place) 0)
              (unwrap_or (slice_get steps.states place) 0))
              nodes final keeps
              ∙ ap (λ (o : Option (Option ℕ)). Some (step (unwrap_or o None)
              (unwrap_or (slice_get steps.items place) 0)
              (unwrap_or (slice_get steps.states place) 0)))
              at.6
              ∙ ap (λ (o : Option ℕ). Some (step (option_map (numbered variables)
              (gatherer copy.group within.0.1)) (unwrap_or o 0)
              (unwrap_or (slice_get steps.states place) 0))) at.4
              ∙ ap (λ (o : Option ℕ). Some (step (option_map (numbered variables)
              (gatherer copy.group within.0.1)) at.0 (unwrap_or o 0))) at.5),
        )

    abbrev IsStateAt : List Move → ℕ → Type 0
    IsStateAt = IsState the_types variables final copy items

    -- the chain of a state's moves
    abbrev IsChain : List Move → Chain → Type 0
    IsChain moves chain =
        Keeps chain.1 final → (number : ℕ) × (chain.0 ≡ Some number) × IsStateAt moves number

    linked_is_state : (move next : Move) (moves : List Move) (chain : Chain)
        → LeadsWithin items move → IsChain (next ∷ moves) chain
        → IsChain (move ∷ next ∷ moves) (with_move_before steps move chain)
    linked_is_state move next moves (None, nodes) within rest keeps =
        let is = rest (λ number x h. keeps number x
        ((move_is_made steps move nodes).grows.keeps number x h)) in
        absurd (none-some is.0 is.1)
    linked_is_state move next moves (Some head, nodes) within rest keeps =
        let first = put_move steps move nodes in
        let before = λ (number : ℕ) (x : KernelNode NodeId) (h : slice_get first.1 number ≡ Some x).
        keeps number x (keeps_more first.1 (First first.0 head ∷ []) number x h) in
        let is = rest (λ number x h. before number x
        ((move_is_made steps move nodes).grows.keeps number x h)) in (
          length first.1,
          refl,
          (
            first.0,
            head,
            is_put (First first.0 head) first.1 final keeps,
            move_is_put move nodes within before,
            subst (IsStateAt (next ∷ moves)) (sym (same_Some head is.0 is.1)) is.2,
          ),
        )

    chain_is_state : (move : Move) (moves : List Move) (nodes : Nodes)
        → AllOf (LeadsWithin items) (move ∷ moves)
        → IsChain (move ∷ moves) (moves_chain steps (move ∷ moves) nodes)
    chain_is_state move [] nodes within keeps =
        ((put_move steps move nodes).0, refl, move_is_put move nodes within.0 keeps)
    chain_is_state move (next ∷ moves) nodes within keeps =
        linked_is_state move next moves (moves_chain steps (next ∷ moves) nodes) within.0
        (chain_is_state next moves nodes within.1) keeps

    whole_is_state : (row : List Move) (chain : Chain) → IsChain row chain
        → Keeps (or_failing steps chain).1 final → IsStateAt row (or_failing steps chain).0
    whole_is_state row (Some number, nodes) is keeps =
        let state = is keeps in
        subst (IsStateAt row) (sym (same_Some number state.0 state.1)) state.2
    whole_is_state row (None, nodes) is keeps =
        let made = failing_is_made steps nodes (None, nodes)
        (record { grows = grows_not nodes; there = λ number h. absurd (none-some number h) }) in
        let state = is (λ number x h. keeps number x (made.grows.keeps number x h)) in
        absurd (none-some state.0 state.1)

    pub row_is_state : (row : List Move) (nodes : Nodes) → AllOf (LeadsWithin items) row
        → Keeps (put_row steps row nodes).1 final → IsStateAt row (put_row steps row nodes).0
    row_is_state [] nodes within keeps =
        let first = put (Test EMPTY) nodes in
        let second = put_empty ANY steps.group first.1 in
        let before = λ (number : ℕ) (x : KernelNode NodeId)
        (h : slice_get second.1 number ≡ Some x).
        keeps number x (keeps_more second.1 (Both first.0 second.0 ∷ []) number x h) in (
          first.0,
          second.0,
          is_put (Both first.0 second.0) second.1 final keeps,
          is_put (Test EMPTY) nodes final (λ number x h. before number x
              ((empty_is_made ANY steps.group first.1).grows.keeps number x h)),
          group_is_put ANY first.1 before,
        )
    row_is_state (move ∷ moves) nodes within keeps =
        whole_is_state (move ∷ moves) (moves_chain steps (move ∷ moves) nodes)
        (chain_is_state move moves nodes within) keeps

    -- so are those of all rows
    pub rows_are_states : (rows : List (List Move)) (nodes : Nodes)
        → AllOf (AllOf (LeadsWithin items)) rows → Keeps (put_rows steps rows nodes) final
        → (place number : ℕ) → slice_get (starts_of steps rows nodes) place ≡ Some number
        → IsStateAt (unwrap_or (slice_get rows place) []) number
    rows_are_states [] nodes within keeps zero number h = absurd (none-some number h)
    rows_are_states [] nodes within keeps (suc place) number h = absurd (none-some number h)
    rows_are_states (row ∷ rows) nodes within keeps zero number h =
        subst (IsStateAt row) (same_Some (put_row steps row nodes).0 number h)
        (row_is_state row nodes within.0 (λ n x there. keeps n x
        ((rows_grow steps rows (put_row steps row nodes).1).keeps n x there)))
    rows_are_states (row ∷ rows) nodes within keeps (suc place) number h =
        rows_are_states rows (put_row steps row nodes).1 within.1 keeps place number h

-- the numbers that the code counts are those of the states
module _ (steps : Steps) where
  abbrev group : ℕ
  group = length steps.group

  abbrev IsAfter : (before count : ℕ) → Built → Type 0
  IsAfter before count made = (made.0 ≡ before + count) × (length made.1 ≡ suc (before + count))

  put_is_after : (node : KernelNode NodeId) (nodes : Nodes)
      → IsAfter (length nodes) 0 (put node nodes)
  put_is_after node nodes = let more = length_last nodes node in (omega arith, omega (arith, more))

  empty_is_after : (type : NodeId) (variables : List ℕ) (nodes : Nodes)
      → IsAfter (length nodes) (length variables + length variables)
      (put_empty type variables nodes)
  empty_is_after type [] nodes = put_is_after (Test type) nodes
  empty_is_after type (variable ∷ variables) nodes =
      let rest = empty_is_after type variables nodes in
      let made = put_empty type variables nodes in
      let first = length_last made.1 (Put variable constant.Nil) in
      let both = length_last (put (Put variable constant.Nil) made.1).1
      (Both (length made.1) made.0) in
      let longer = rest.1 in
      (omega (arith, first, longer), omega (arith, first, both, longer))

  move_is_after : (move : Move) (nodes : Nodes)
      → IsAfter (length nodes) (before_move group move) (put_move steps move nodes)
  move_is_after End nodes = empty_is_after NIL steps.group nodes
  move_is_after (To place) nodes = put_is_after
      (step (unwrap_or (slice_get steps.gatherers place) None)
      (unwrap_or (slice_get steps.items place) 0)
      (unwrap_or (slice_get steps.states place) 0)) nodes

  abbrev AreCounted : (before count : ℕ) → Chain → Type 0
  AreCounted before count (None, nodes) = (length nodes ≡ before) × (count ≡ 0)
  AreCounted before count (Some number, nodes) =
      (suc number ≡ length nodes) × (suc (length nodes) ≡ before + count)

  linked_counted : (move : Move) (before count : ℕ) (chain : Chain) → AreCounted before count chain
      → AreCounted before (suc (suc (before_move group move)) + count)
      (with_move_before steps move chain)
  linked_counted move before count (None, nodes) counted =
      let one = move_is_after move nodes in
      let number = one.0 in
      let longer = one.1 in
      let start = counted.0 in
      let none = counted.1 in
      (omega (arith, number, longer), omega (arith, longer, start, none))
  linked_counted move before count (Some head, nodes) counted =
      let one = move_is_after move nodes in
      let longer = one.1 in
      let start = counted.1 in
      let more = length_last (put_move steps move nodes).1
      (First (put_move steps move nodes).0 head) in
      (omega (arith, more), omega (arith, more, longer, start))

  chain_counted : (moves : List Move) (nodes : Nodes)
      → AreCounted (length nodes) (of_moves group moves) (moves_chain steps moves nodes)
  chain_counted [] nodes = (refl, refl)
  chain_counted (move ∷ moves) nodes = linked_counted move (length nodes) (of_moves group moves)
      (moves_chain steps moves nodes) (chain_counted moves nodes)

  whole_counted : (before count : ℕ) (chain : Chain) → AreCounted before (suc (suc count)) chain
      → IsAfter before count (or_failing steps chain)
  whole_counted before count (Some number, nodes) counted =
      let one = counted.0 in
      let other = counted.1 in
      (omega (arith, one, other), omega (arith, one, other))
  whole_counted before count (None, nodes) counted =
      let none = counted.1 in absurd (omega (arith, none))

  two_more : (a b : ℕ) → suc (suc a) + b ≡ suc (suc (a + b))
  two_more a b = omega arith

  row_is_after : (row : List Move) (nodes : Nodes)
      → IsAfter (length nodes) (before_row group row) (put_row steps row nodes)
  row_is_after [] nodes =
      let first = length_last nodes (Test EMPTY) in
      let second = empty_is_after ANY steps.group (put (Test EMPTY) nodes).1 in
      let made = put_empty ANY steps.group (put (Test EMPTY) nodes).1 in
      let both = length_last made.1 (Both (length nodes) made.0) in
      let longer = second.1 in
      (omega (arith, first, longer), omega (arith, first, longer, both))
  row_is_after (move ∷ moves) nodes =
      let is = whole_counted (length nodes) (before_move group move + of_moves group moves)
      (moves_chain steps (move ∷ moves) nodes)
      (subst (λ (count : ℕ). AreCounted (length nodes) count
      (moves_chain steps (move ∷ moves) nodes)) (two_more (before_move group move)
      (of_moves group moves)) (chain_counted (move ∷ moves) nodes)) in
      let number = is.0 in
      let longer = is.1 in
      (omega (arith, number), omega (arith, longer))

  pub starts_are_places : (rows : List (List Move)) (nodes : Nodes)
      → starts_of steps rows nodes ≡ places_of group (length nodes) rows
  starts_are_places [] nodes = refl
  starts_are_places (row ∷ rows) nodes =
      let is = row_is_after row nodes in
      ap₂ (λ (first : ℕ) (rest : List ℕ). first ∷ rest) is.0
      (starts_are_places rows (put_row steps row nodes).1
      ∙ ap (λ (at : ℕ). places_of group at rows) is.1)
