-- What is accepted through an expression is what fits it, and then what is accepted after it.
use Rattle.std.proofs.Common.{◌≡◌, ℕ, ◌+◌, Bool, List, [], ◌∷◌, ◌↔◌, subst}
use Rattle.cd_sets.specs.declared.node_id.NodeId.{NodeId}
use Rattle.cd_model.specs.BuiltIns.{node}
use Rattle.cd_model.specs.Language.{Language, both, none, nothing, item, followed, star, plus, optional}
use Rattle.cd_model.specs.Membership.{Answers}
use Rattle.cd_regex.specs.Regular.{Regular, Regulars, NoRegular, ARegular, Nothing, Item, Seq, Alt, Star, Plus, Opt}
use Rattle.cd_regex.specs.Regular.{items_in, fits, fits_in_turn, fits_one}
use Rattle.cd_regex.specs.Automaton.{Follow, nullable, all_nullable, one_nullable, edges_if, first_edges, first_edges_in_turn, first_edges_of_one}
use Rattle.cd_regex.specs.Automaton.{finish, before_all, after_turn, states, states_in_turn, states_of_one, start}
use Rattle.cd_regex.specs.declared.follow.Edge.{Edge}
use Rattle.cd_regex.proofs.Ways.{same, back, through, both_same, some_same, some_swapped, some_or_never, never_or_some, both_and_always, some_always}
use Rattle.cd_regex.proofs.Languages.{after, where_both, first_same, second_same, none_first, nothing_second, either_first, fact_first}
use Rattle.cd_regex.proofs.Languages.{followed_grouped, star_begins, star_same, plus_begins}
use Rattle.cd_regex.proofs.Accepting.{leads, accepts, leads_append, leads_if, turned, and_both, or_some, ArePlaced, placed_first, placed_second}
use Rattle.cd_regex.proofs.Accepting.{length-states}

-- whether the empty list fits
mutual
  pub empty_fits : (is : Regular) (answer : Bool) → (nullable is ≡ answer) ↔ fits is [] answer
  empty_fits Nothing answer = turned
  empty_fits (Item id) answer = turned
  empty_fits (Seq all) answer = empty_fits_in_turn all answer
  empty_fits (Alt all) answer = empty_fits_one all answer
  empty_fits (Star is) answer = turned
  empty_fits (Plus is) answer = through (empty_fits is answer) (back (both_and_always answer (fits is [] answer)))
  empty_fits (Opt is) answer = through turned (back (some_always answer (fits is [] answer)))

  pub empty_fits_in_turn : (all : Regulars) (answer : Bool) → (all_nullable all ≡ answer) ↔ fits_in_turn all [] answer
  empty_fits_in_turn NoRegular answer = turned
  empty_fits_in_turn (ARegular first rest) answer = through
      (and_both (nullable first) (all_nullable rest) answer)
      (both_same answer (empty_fits first answer) (empty_fits_in_turn rest answer))

  pub empty_fits_one : (all : Regulars) (answer : Bool) → (one_nullable all ≡ answer) ↔ fits_one all [] answer
  empty_fits_one NoRegular answer = turned
  empty_fits_one (ARegular first rest) answer = through
      (or_some (nullable first) (one_nullable rest) answer)
      (some_same answer (empty_fits first answer) (empty_fits_one rest answer))

-- one item, and then the rest
item_first : (answer : Bool) (such : Answers → Bool → Type 0) (second : Language Answers) (one : Answers) (things : List Answers)
    → both answer (such one answer) (second things answer) ↔ followed (after one (item such)) second things answer
item_first answer such second one [] = same
item_first answer such second one (other ∷ rest) = through
    (back (some_or_never answer (both answer (such one answer) (second (other ∷ rest) answer))))
    (some_same answer same (back (none_first answer second rest)))

module _ (at : NodeId → Follow) where
  -- what is accepted from the state after an item
  abbrev onward : List Answers → NodeId → Bool → Type 0
  onward rest = λ to. accepts at (at to) rest

  -- the edges lead through the language, and then on to what follows
  abbrev LeadThrough : List Edge → Language Answers → Follow → Type 1
  LeadThrough edges language follow = (one : Answers) (rest : List Answers) (answer : Bool)
      → leads (onward rest) edges one answer ↔ followed (after one language) (accepts at follow) rest answer

  none_through : (follow : Follow) → LeadThrough [] none follow
  none_through follow one rest answer = back (none_first answer (accepts at follow) rest)

  item_through : (id : NodeId) (before : ℕ) (follow : Follow) → at (node (before + 1)) ≡ follow
      → LeadThrough (first_edges (Item id) before) (fits (Item id)) follow
  item_through id before follow placed one rest answer =
      let state : NodeId = node (before + 1) in
      through (some_or_never answer (both answer (one id answer) (accepts at (at state) rest answer)))
      (subst (λ (there : Follow). both answer (one id answer) (accepts at (at state) rest answer)
      ↔ followed (after one (item (λ answers. answers id))) (accepts at there) rest answer) placed
      (item_first answer (λ answers. answers id) (accepts at (at state)) one rest))

  -- what is accepted before all of some in turn is what fits these and then what is accepted after them
  before_all_accepts : (all : Regulars) (before : ℕ) (follow : Follow) → LeadThrough (first_edges_in_turn all before) (fits_in_turn all) follow
      → (things : List Answers) (answer : Bool)
      → accepts at (before_all all before follow) things answer ↔ followed (fits_in_turn all) (accepts at follow) things answer
  before_all_accepts all before follow leading [] answer = through
      (and_both (all_nullable all) follow.accepting answer)
      (both_same answer (empty_fits_in_turn all answer) same)
  before_all_accepts all before follow leading (one ∷ rest) answer =
      let passed : Type 0 = leads (onward rest) (edges_if (all_nullable all) follow.edges) one answer in
      through (leads_append (onward rest) (first_edges_in_turn all before) (edges_if (all_nullable all) follow.edges) one answer)
      (through (some_swapped answer (leads (onward rest) (first_edges_in_turn all before) one answer) passed)
      (some_same answer
      (through (leads_if (all_nullable all) (onward rest) follow.edges one answer) (both_same answer (empty_fits_in_turn all answer) same))
      (leading one rest answer)))

  turn_through_first : (first : Regular) (rest : Regulars) (before : ℕ) (follow : Follow)
      → LeadThrough (first_edges first before) (fits first) (before_all rest (before + items_in first) follow)
      → LeadThrough (first_edges_in_turn rest (before + items_in first)) (fits_in_turn rest) follow
      → LeadThrough (first_edges_in_turn (ARegular first rest) before) (fits_in_turn (ARegular first rest)) follow
  turn_through_first first rest before follow here later one things answer =
      let from : ℕ = before + items_in first in
      let edges_of_first : List Edge = first_edges first before in
      let edges_of_rest : List Edge = first_edges_in_turn rest from in
      let one_of : Language Answers = where_both (fits first []) (after one (fits_in_turn rest)) in
      let or_of : Language Answers = followed (after one (fits first)) (fits_in_turn rest) in
      let passed : Type 0 = leads (onward things) (edges_if (nullable first) edges_of_rest) one answer in
      let begins = through (here one things answer)
      (through (second_same answer (after one (fits first)) (accepts at (before_all rest from follow)) (followed (fits_in_turn rest) (accepts at follow))
      things (λ left fewer. before_all_accepts rest from follow later left answer))
      (followed_grouped answer (after one (fits first)) (fits_in_turn rest) (accepts at follow) things)) in
      let passes = through (leads_if (nullable first) (onward things) edges_of_rest one answer)
      (through (both_same answer (empty_fits first answer) (later one things answer))
      (back (fact_first answer (fits first []) (after one (fits_in_turn rest)) (accepts at follow) things))) in
      through (leads_append (onward things) edges_of_first (edges_if (nullable first) edges_of_rest) one answer)
      (through (some_swapped answer (leads (onward things) edges_of_first one answer) passed)
      (through (some_same answer passes begins)
      (back (either_first answer one_of or_of (accepts at follow) things))))

  one_through_first : (first : Regular) (rest : Regulars) (before : ℕ) (follow : Follow)
      → LeadThrough (first_edges first before) (fits first) follow
      → LeadThrough (first_edges_of_one rest (before + items_in first)) (fits_one rest) follow
      → LeadThrough (first_edges_of_one (ARegular first rest) before) (fits_one (ARegular first rest)) follow
  one_through_first first rest before follow here later one things answer = through
      (leads_append (onward things) (first_edges first before) (first_edges_of_one rest (before + items_in first)) one answer)
      (through (some_same answer (here one things answer) (later one things answer))
      (back (either_first answer (after one (fits first)) (after one (fits_one rest)) (accepts at follow) things)))

  -- what is accepted after a turn is any number of further turns, and then what is accepted after all
  after_turn_accepts : (is : Regular) (before : ℕ) (follow : Follow)
      → LeadThrough (first_edges is before) (fits is) (after_turn is before follow)
      → (things : List Answers) (answer : Bool)
      → accepts at (after_turn is before follow) things answer ↔ followed (star (fits is)) (accepts at follow) things answer
  after_turn_accepts is before follow leading things answer =
      star_same answer (fits is) (accepts at follow) (accepts at (after_turn is before follow)) same
      (λ one rest. through (leads_append (onward rest) (first_edges is before) follow.edges one answer)
      (some_same answer (leading one rest answer) same))
      things

  -- one turn, and then any number of further ones
  turns_through : (is : Regular) (before : ℕ) (follow : Follow)
      → LeadThrough (first_edges is before) (fits is) (after_turn is before follow)
      → (one : Answers) (rest : List Answers) (answer : Bool)
      → leads (onward rest) (first_edges is before) one answer
      ↔ followed (followed (after one (fits is)) (star (fits is))) (accepts at follow) rest answer
  turns_through is before follow leading one rest answer = through (leading one rest answer)
      (through (second_same answer (after one (fits is)) (accepts at (after_turn is before follow)) (followed (star (fits is)) (accepts at follow))
      rest (λ left fewer. after_turn_accepts is before follow leading left answer))
      (followed_grouped answer (after one (fits is)) (star (fits is)) (accepts at follow) rest))

  mutual
    pub first_edges_through : (is : Regular) (before : ℕ) (follow : Follow) → ArePlaced at before (states is before follow)
        → LeadThrough (first_edges is before) (fits is) follow
    first_edges_through Nothing before follow placed = none_through follow
    first_edges_through (Item id) before follow placed = item_through id before follow placed.0
    first_edges_through (Seq all) before follow placed = first_edges_in_turn_through all before follow placed
    first_edges_through (Alt all) before follow placed = first_edges_of_one_through all before follow placed
    first_edges_through (Star is) before follow placed = λ one rest answer.
        through (turns_through is before follow (first_edges_through is before (after_turn is before follow) placed) one rest answer)
        (back (first_same answer (after one (star (fits is))) (followed (after one (fits is)) (star (fits is))) (accepts at follow) rest
        (λ taken. star_begins answer (fits is) one taken)))
    first_edges_through (Plus is) before follow placed = λ one rest answer.
        through (turns_through is before follow (first_edges_through is before (after_turn is before follow) placed) one rest answer)
        (back (first_same answer (after one (plus (fits is))) (followed (after one (fits is)) (star (fits is))) (accepts at follow) rest
        (λ taken. plus_begins answer (fits is) one taken)))
    first_edges_through (Opt is) before follow placed = λ one rest answer.
        through (first_edges_through is before follow placed one rest answer)
        (back (first_same answer (after one (optional (fits is))) (after one (fits is)) (accepts at follow) rest
        (λ taken. never_or_some answer (fits is (one ∷ taken) answer))))

    pub first_edges_in_turn_through : (all : Regulars) (before : ℕ) (follow : Follow) → ArePlaced at before (states_in_turn all before follow)
        → LeadThrough (first_edges_in_turn all before) (fits_in_turn all) follow
    first_edges_in_turn_through NoRegular before follow placed = none_through follow
    first_edges_in_turn_through (ARegular first rest) before follow placed =
        let from : ℕ = before + items_in first in
        let here : List Follow = states first before (before_all rest from follow) in
        let later : List Follow = states_in_turn rest from follow in
        turn_through_first first rest before follow
        (first_edges_through first before (before_all rest from follow) (placed_first at before here later placed))
        (first_edges_in_turn_through rest from follow
        (placed_second at before (items_in first) here later (length-states first before (before_all rest from follow)) placed))

    pub first_edges_of_one_through : (all : Regulars) (before : ℕ) (follow : Follow) → ArePlaced at before (states_of_one all before follow)
        → LeadThrough (first_edges_of_one all before) (fits_one all) follow
    first_edges_of_one_through NoRegular before follow placed = none_through follow
    first_edges_of_one_through (ARegular first rest) before follow placed =
        let from : ℕ = before + items_in first in
        let here : List Follow = states first before follow in
        let later : List Follow = states_of_one rest from follow in
        one_through_first first rest before follow
        (first_edges_through first before follow (placed_first at before here later placed))
        (first_edges_of_one_through rest from follow
        (placed_second at before (items_in first) here later (length-states first before follow) placed))

  -- from the state to start in just what fits is accepted
  finish_accepts : (things : List Answers) (answer : Bool) → accepts at finish things answer ↔ nothing things answer
  finish_accepts [] answer = turned
  finish_accepts (one ∷ rest) answer = same

  pub start_accepts : (is : Regular) (before : ℕ) → ArePlaced at before (states is before finish)
      → (things : List Answers) (answer : Bool) → accepts at (start is before) things answer ↔ fits is things answer
  start_accepts is before placed [] answer = empty_fits is answer
  start_accepts is before placed (one ∷ rest) answer = through (first_edges_through is before finish placed one rest answer)
      (through (second_same answer (after one (fits is)) (accepts at finish) nothing rest (λ left fewer. finish_accepts left answer))
      (nothing_second answer (after one (fits is)) rest))
