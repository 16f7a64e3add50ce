-- A state of a copy of an automaton takes a sequence as the automaton runs from there.
use Rattle.std.proofs.Common.{◌≡◌, ◌<◌, ℕ, Bool, true, false, ◌||◌, List, [], ◌∷◌, ◌++◌, length}
use Rattle.std.proofs.Common.{Option, Some, None, option_map, refl, sym, ap, ap₂, subst, ◌∙◌}
use Rattle.std.proofs.Common.{bytes_eq, codes, if◌then◌else◌}
use Rattle.std.specs.List.{slice_get, list_any}
use Rattle.std.specs.Option.{unwrap_or}
use Rattle.std.proofs.lemmas.Bool.{true≢false, or_left, or_right}
use Rattle.std.proofs.lemmas.Option.{none-some, same_Some, slice_get_within}
use Rattle.cd_syntax.specs.Name.{Name}
use Rattle.cd_syntax.specs.declared.constant.Constant.TheVariants as constant
use Rattle.cd_model.specs.Thing as thing
use Rattle.cd_model.specs.Thing.{Thing}
use Rattle.cd_matching.specs.Captures as captures
use Rattle.cd_matching.specs.Captures.{Captures, or_else, both, if_so}
use Rattle.cd_matching.specs.Kernel.{KernelNode, Test, Put, Pair, Both, First, Gather, Ends}
use Rattle.cd_matching.specs.Kernel.{by_node, apart_of, taken}
use Rattle.cd_matching.specs.Pattern.{Pattern, Regular}
use Rattle.cd_matching.specs.Sequences.{nil, sequence_of, items, is_no_item}
use Rattle.cd_matching.specs.Take.{take}
use Rattle.cd_matching.specs.Ways.{Way, still}
use Rattle.cd_matching.proofs.Unfolding.{unfolds}
use Rattle.cd_moves.specs.Automaton.{Move, End, To, same_move, ItemOf, items_of, rows_of}
use Rattle.cd_moves.specs.Automaton.{by_item, by_number, run}
use Rattle.cd_kernel.specs.Copies.{Types, IsAt, is_among, gatherer, Copy, ArePut}
use Rattle.cd_kernel.specs.Copies.{IsStep, IsMove, IsState, IsCopy}
use Rattle.cd_kernel.proofs.CapturesByName.{named, gathered_name, named_both, named_or, named_so}
use Rattle.cd_kernel.proofs.CapturesByName.{named_just, named_gathered}
use Rattle.cd_kernel.proofs.KeptCaptures.{kept}
use Rattle.cd_kernel.proofs.OrElse.{or_else_none}
use Rattle.cd_kernel.proofs.VariableNumbers.{names_same, name_itself, name_turned}

-- the tests of the three types are right, and ways through Both and First end
pub record AreRight {T : Type 0} (test : T → Thing → Bool) (types : Types T)
    (nodes : List (KernelNode T)) : Type 0 where
  pub nil : (d : Thing) → test types.nil d ≡ is_no_item (items d)
  pub any : (d : Thing) → test types.any d ≡ true
  pub empty : (d : Thing) → test types.empty d ≡ false
  pub ends : (number : ℕ) → number < length nodes → Ends nodes (length nodes) number

-- what a way gives the variables of a copy
abbrev pub of_copy : (group : List Name) → (keeps : Name → Bool) → Way → Captures Name
of_copy group keeps way name =
    if is_among group name then Some (sequence_of (way.gathered name))
    else if keeps name then way.plain name else None

abbrev pub of_run : (group : List Name) → (keeps : Name → Bool) → (List Thing → Option Way)
    → Option (List Thing) → Option (Captures Name)
of_run group keeps runs None = None
of_run group keeps runs (Some all) = option_map (of_copy group keeps) (runs all)

-- what is answered of an item and what comes after it, by the variable that gathers the item
abbrev step_of : Thing → Option Name → (item next : Option (Captures Name))
    → Option (Captures Name)
step_of d None a b = both a b
step_of d (Some name) a b = gathered_name name d a b

-- each variable of a group is the empty sequence
abbrev nils : List Name → Captures Name
nils group name = if is_among group name then Some nil else None

abbrev put_if : Bool → Captures Name → Option (Captures Name)
put_if true all = Some all
put_if false all = None

pub gatherer_in : (group around : List Name) (name : Name) → gatherer group around ≡ Some name
    → (is_among group name ≡ true) × (is_among around name ≡ true)
gatherer_in group [] name h = absurd (none-some name h)
gatherer_in group (first ∷ around) name h =
    by_test (gatherer_in group around name) (is_among group first) refl h
  where
    by_test : (gatherer group around ≡ Some name
        → (is_among group name ≡ true) × (is_among around name ≡ true))
        → (b : Bool) → is_among group first ≡ b
        → (if b then Some first else gatherer group around) ≡ Some name
        → (is_among group name ≡ true) × (is_among (first ∷ around) name ≡ true)
    by_test on true there h = let same = same_Some first name h in (
      subst (λ (n : Name). is_among group n ≡ true) same there,
      or_left (bytes_eq name first) (is_among around name)
          (subst (λ (n : Name). bytes_eq name n ≡ true) (sym same) (name_itself name)),
    )
    by_test on false none h = let found = on h in
        (found.0, or_right (bytes_eq name first) (is_among around name) found.1)

-- One item and what comes after it, for one variable: in the group, around the item, the gatherer,
-- and bound by items
plain_has : (g a k : Bool) (c p : Option Thing) (x : Thing) (xs : List Thing)
    → (g ≡ true → a ≡ true → ⊥) → (g ≡ true → k ≡ false)
    → or_else (if k then c else None) (if g then Some (sequence_of xs) else if k then p else None)
    ≡ (if g then Some (sequence_of ((if a then x ∷ [] else []) ++ xs))
    else if k then or_else c p else None)
plain_has true true k c p x xs alone hides = absurd (alone refl refl)
plain_has true false true c p x xs alone hides = absurd (true≢false (hides refl))
plain_has true false false c p x xs alone hides = refl
plain_has false a true c p x xs alone hides = refl
plain_has false a false c p x xs alone hides = refl

gather_has : (g a k e : Bool) (c p : Option Thing) (x : Thing) (xs : List Thing)
    → (e ≡ true → (g ≡ true) × (a ≡ true)) → (g ≡ true → a ≡ true → e ≡ true)
    → (g ≡ true → k ≡ false)
    → or_else (if k then c else None)
    (if e then option_map (thing.Pair x)
    (if g then Some (sequence_of xs) else if k then p else None)
    else if g then Some (sequence_of xs) else if k then p else None)
    ≡ (if g then Some (sequence_of ((if a then x ∷ [] else []) ++ xs))
    else if k then or_else c p else None)
gather_has true true true e c p x xs is alone hides = absurd (true≢false (hides refl))
gather_has true true false true c p x xs is alone hides = refl
gather_has true true false false c p x xs is alone hides =
    absurd (true≢false (sym (alone refl refl)))
gather_has true false true e c p x xs is alone hides = absurd (true≢false (hides refl))
gather_has true false false true c p x xs is alone hides =
    absurd (true≢false (sym (is refl).1))
gather_has true false false false c p x xs is alone hides = refl
gather_has false a k true c p x xs is alone hides = absurd (true≢false (sym (is refl).0))
gather_has false a true false c p x xs is alone hides = refl
gather_has false a false false c p x xs is alone hides = refl

module _ {T : Type 0} (test : T → Thing → Bool) (types : Types T) (variables : List Name)
    (nodes : List (KernelNode T)) where
  abbrev pub takes_named : Thing → ℕ → Option (Captures Name)
  takes_named d number = named variables (taken T test nodes d number)

  -- a node takes what its pattern takes, with the captures that are kept
  abbrev pub TakesKept : (keeps : Name → Bool) → Pattern T → ℕ → Type 0
  TakesKept keeps p number = (d : Thing)
      → takes_named d number ≡ option_map (kept keeps) (take T test p d)

  module _ (right : AreRight test types nodes) where
    -- a node that is there takes by its rule
    pub unfolds_at : (d : Thing) (number : ℕ) (node : KernelNode T) → IsAt nodes number node
        → taken T test nodes d number
        ≡ by_node T test nodes d (apart_of T test nodes d) (taken T test nodes d) (Some node)
    unfolds_at d number node there =
        unfolds T test nodes d number (right.ends number (slice_get_within nodes number node there))
        ∙ ap (by_node T test nodes d (apart_of T test nodes d) (taken T test nodes d)) there

    pub takes_both : (d : Thing) (number one other : ℕ) → IsAt nodes number (Both one other)
        → takes_named d number ≡ both (takes_named d one) (takes_named d other)
    takes_both d number one other there =
        ap (named variables) (unfolds_at d number (Both one other) there)
        ∙ named_both variables (taken T test nodes d one) (taken T test nodes d other)

    pub takes_first : (d : Thing) (number one other : ℕ) → IsAt nodes number (First one other)
        → takes_named d number ≡ or_else (takes_named d one) (takes_named d other)
    takes_first d number one other there =
        ap (named variables) (unfolds_at d number (First one other) there)
        ∙ named_or variables (taken T test nodes d one) (taken T test nodes d other)

    pub takes_test : (d : Thing) (number : ℕ) (type : T) → IsAt nodes number (Test type)
        → takes_named d number ≡ if_so (test type d)
    takes_test d number type there =
        ap (named variables) (unfolds_at d number (Test type) there)
        ∙ named_so variables (test type d)

    puts : (d : Thing) (type : T) (group : List Name) (number : ℕ)
        → ArePut types variables nodes type group number
        → takes_named d number ≡ put_if (test type d) (nils group)
    puts d type [] number there = takes_test d number type there ∙ by_test (test type d)
      where
        by_test : (b : Bool) → if_so b ≡ put_if b (nils [])
        by_test true = refl
        by_test false = refl
    puts d type (name ∷ names) number (variable, put, rest, is_number, there, put_there, others) =
        takes_both d number put rest there
        ∙ ap₂ both (ap (named variables) (unfolds_at d put (Put variable constant.Nil) put_there)
        ∙ named_just variables name variable nil is_number) (puts d type names rest others)
        ∙ by_test (test type d)
      where
        by_test : (b : Bool) → both (Some (captures.just name nil)) (put_if b (nils names))
            ≡ put_if b (nils (name ∷ names))
        by_test false = refl
        by_test true = λ i. Some
            (λ other. at other (bytes_eq name other) (bytes_eq other name)
            (name_turned name other) i)
          where
            at : (other : Name) (b c : Bool) → b ≡ c
                → or_else (if b then Some nil else None) (nils names other)
                ≡ (if c || is_among names other then Some nil else None)
            at other true true same = refl
            at other false false same = refl
            at other true false same = absurd (true≢false same)
            at other false true same = absurd (true≢false (sym same))

    -- the moves of a state in order
    module _ (r : Regular T) (copy : Copy) (keeps : Name → Bool)
        (is_copy : IsCopy types variables nodes r copy)
        (hidden : (name : Name) → is_among copy.group name ≡ true → keeps name ≡ false)
        (alike : (place number : ℕ) (of : ItemOf T) → slice_get copy.items place ≡ Some number
        → slice_get (items_of [] r) place ≡ Some of → TakesKept keeps of.0 number) where
      abbrev all_items : List (ItemOf T)
      all_items = items_of [] r

      abbrev rows : List (List Move)
      rows = rows_of r

      abbrev row_at : ℕ → List Move
      row_at place = unwrap_or (slice_get rows place) []

      abbrev of_way : Way → Captures Name
      of_way = of_copy copy.group keeps

      abbrev is_move : Move → ℕ → Type 0
      is_move = IsMove types variables nodes copy all_items

      abbrev is_state : List Move → ℕ → Type 0
      is_state = IsState types variables nodes copy all_items

      abbrev first_of : (Move → Option (Captures Name)) → List Move → Option (Captures Name)
      first_of does [] = None
      first_of does (move ∷ moves) = or_else (does move) (first_of does moves)

      chain : (d : Thing) (does : Move → Option (Captures Name))
          → ((move : Move) (number : ℕ) → is_move move number → takes_named d number ≡ does move)
          → (moves : List Move) (number : ℕ) → is_state moves number
          → takes_named d number ≡ first_of does moves
      chain d does each [] number (one, other, there, dead, puts_all) =
          takes_both d number one other there
          ∙ ap (λ o. both o (takes_named d other))
          (takes_test d one types.empty dead ∙ ap if_so (right.empty d))
      chain d does each (move ∷ []) number there =
          each move number there ∙ sym (or_else_none (does move))
      chain d does each (move ∷ next ∷ moves) number (first, rest, there, one, others) =
          takes_first d number first rest there
          ∙ ap₂ or_else (each move first one) (chain d does each (next ∷ moves) rest others)

      -- of a thing that is no pair the end alone is taken
      abbrev IsFlat : Thing → Type 0
      IsFlat d = ((item next : ℕ) → apart_of T test nodes d (Pair item next) ≡ None)
          × ((variable item next : ℕ)
          → apart_of T test nodes d (Gather variable item next) ≡ None)

      no_step : (d : Thing) → IsFlat d → (by : Option Name) (number item next : ℕ)
          → IsStep types variables nodes by number item next → takes_named d number ≡ None
      no_step d flat None number item next there =
          ap (named variables) (unfolds_at d number (Pair item next) there ∙ flat.0 item next)
      no_step d flat (Some name) number item next (variable, is_number, there) =
          ap (named variables) (unfolds_at d number (Gather variable item next) there
          ∙ flat.1 variable item next)

      abbrev at_end : Bool → Move → Option (Captures Name)
      at_end b End = put_if b (nils copy.group)
      at_end b (To place) = None

      flat_move : (d : Thing) → IsFlat d → (move : Move) (number : ℕ) → is_move move number
          → takes_named d number ≡ at_end (test types.nil d) move
      flat_move d flat End number there = puts d types.nil copy.group number there
      flat_move d flat (To place) number (item, next, of, a, b, c, step) =
          no_step d flat (gatherer copy.group of.1) number item next step

      has_still : of_way (still []) ≡ nils copy.group
      has_still = λ i name. at (is_among copy.group name) (keeps name) i
        where
          at : (b c : Bool)
              → (if b then Some (sequence_of []) else if c then None else None)
              ≡ (if b then Some nil else None)
          at true c = refl
          at false true = refl
          at false false = refl

      at_nil : (moves : List Move) → first_of (at_end true) moves
          ≡ option_map of_way
          (if list_any (same_move End) moves then Some (still []) else None)
      at_nil [] = refl
      at_nil (End ∷ moves) = sym (ap Some has_still)
      at_nil (To place ∷ moves) = at_nil moves

      not_nil : (moves : List Move) → first_of (at_end false) moves ≡ None
      not_nil [] = refl
      not_nil (End ∷ moves) = not_nil moves
      not_nil (To place ∷ moves) = not_nil moves

      abbrev run_from : List Move → List Thing → Option Way
      run_from moves all = run T test all_items rows all moves

      abbrev TakesAs : Thing → Type 0
      TakesAs d = (moves : List Move) (number : ℕ) → is_state moves number
          → takes_named d number ≡ of_run copy.group keeps (run_from moves) (items d)

      flat_takes : (d : Thing) → IsFlat d → items d ≡ None → TakesAs d
      flat_takes d flat none moves number there =
          chain d (at_end (test types.nil d)) (flat_move d flat) moves number there
          ∙ ap (λ b. first_of (at_end b) moves) (right.nil d ∙ ap is_no_item none)
          ∙ not_nil moves ∙ ap (of_run copy.group keeps (run_from moves)) (sym none)

      atom_takes : (name : Name) → TakesAs (thing.Atom name)
      atom_takes name moves number there =
          chain (thing.Atom name) (at_end (test types.nil (thing.Atom name)))
          (flat_move (thing.Atom name) (λ item next. refl, λ variable item next. refl)) moves
          number there
          ∙ ap (λ b. first_of (at_end b) moves) (right.nil (thing.Atom name))
          ∙ by_atom (bytes_eq name (codes "nil"))
        where
          by_atom : (b : Bool)
              → first_of (at_end (is_no_item (if b then Some [] else None))) moves
              ≡ of_run copy.group keeps (run_from moves) (if b then Some [] else None)
          by_atom true = at_nil moves
          by_atom false = not_nil moves

      -- an item
      at_item : (first : Thing) (of : ItemOf T) (place : ℕ)
          → slice_get all_items place ≡ Some of → (w : Option Way) (b : Option Name)
          → gatherer copy.group of.1 ≡ b → (a all : Option (Captures Name))
          → all ≡ step_of first b (option_map (kept keeps) a) (option_map of_way w)
          → all ≡ option_map of_way (by_item T test all_items rows first of.1 a w)
      at_item first of place there w None is None all same = same
      at_item first of place there w (Some name) is None all same = same
      at_item first of place there None None is (Some c) all same = same
      at_item first of place there None (Some name) is (Some c) all same = same
      at_item first of place there (Some way) None is (Some c) all same = same
          ∙ (λ i. Some (λ other. plain_has (is_among copy.group other) (is_among of.1 other)
          (keeps other) (c other) (way.plain other) first (way.gathered other)
          (λ in_group around. none-some other
          (sym is ∙ is_copy.alone place of other there in_group around)) (hidden other) i))
      at_item first of place there (Some way) (Some name) is (Some c) all same = same
          ∙ (λ i. Some (λ other. gather_has (is_among copy.group other) (is_among of.1 other)
          (keeps other) (bytes_eq name other) (c other) (way.plain other) first
          (way.gathered other)
          (λ e. subst
          (λ (n : Name). (is_among copy.group n ≡ true) × (is_among of.1 n ≡ true))
          (names_same name other e) (gatherer_in copy.group of.1 name is))
          (λ in_group around. subst (λ (n : Name). bytes_eq name n ≡ true)
          (same_Some name other (sym is ∙ is_copy.alone place of other there in_group around))
          (name_itself name)) (hidden other) i))

      map_or : (a b : Option Way)
          → option_map of_way (or_else a b) ≡ or_else (option_map of_way a) (option_map of_way b)
      map_or None b = refl
      map_or (Some way) b = refl

      at_step : (first second : Thing) (b : Option Name) (number item next : ℕ)
          → IsStep types variables nodes b number item next
          → takes_named (thing.Pair first second) number
          ≡ step_of first b (takes_named first item) (takes_named second next)
      at_step first second None number item next there =
          ap (named variables) (unfolds_at (thing.Pair first second) number (Pair item next) there)
          ∙ named_both variables (taken T test nodes first item) (taken T test nodes second next)
      at_step first second (Some name) number item next (variable, is_number, there) =
          ap (named variables)
          (unfolds_at (thing.Pair first second) number (Gather variable item next) there)
          ∙ named_gathered variables name variable first (taken T test nodes first item)
          (taken T test nodes second next) is_number

      -- a pair is no empty sequence
      no_nil : (first second : Thing) → test types.nil (thing.Pair first second) ≡ false
      no_nil first second = right.nil (thing.Pair first second) ∙ by_items (items second)
        where
          by_items : (o : Option (List Thing))
              → is_no_item (option_map (λ rest. first ∷ rest) o) ≡ false
          by_items None = refl
          by_items (Some rest) = refl

      end_fails : (first second : Thing) (number : ℕ)
          → ArePut types variables nodes types.nil copy.group number
          → takes_named (thing.Pair first second) number ≡ None
      end_fails first second number there =
          puts (thing.Pair first second) types.nil copy.group number there
          ∙ ap (λ b. put_if b (nils copy.group)) (no_nil first second)

      module _ (first second : Thing) (rest : List Thing)
          (takes_rest : (moves : List Move) (number : ℕ) → is_state moves number
          → takes_named second number ≡ option_map of_way (run_from moves rest)) where
        abbrev does : Move → Option (Captures Name)
        does End = None
        does (To place) = option_map of_way
            (by_number T test all_items rows first (slice_get all_items place)
            (run_from (row_at place) rest))

        pair_move : (move : Move) (number : ℕ) → is_move move number
            → takes_named (thing.Pair first second) number ≡ does move
        pair_move End number there = end_fails first second number there
        pair_move (To place) number (item, next, of, is_item, is_next, is_of, step) =
            at_item first of place is_of (run_from (row_at place) rest)
            (gatherer copy.group of.1) refl (take T test of.0 first)
            (takes_named (thing.Pair first second) number)
            (at_step first second (gatherer copy.group of.1) number item next step
            ∙ ap₂ (step_of first (gatherer copy.group of.1))
            (alike place item of is_item is_of first)
            (takes_rest (row_at place) next (is_copy.goes_on place next is_next)))
            ∙ ap (λ o. option_map of_way
            (by_number T test all_items rows first o (run_from (row_at place) rest))) (sym is_of)

        at_moves : (moves : List Move)
            → first_of does moves ≡ option_map of_way (run_from moves (first ∷ rest))
        at_moves [] = refl
        at_moves (End ∷ moves) = at_moves moves
        at_moves (To place ∷ moves) = ap (or_else (does (To place))) (at_moves moves)
            ∙ sym (map_or (by_number T test all_items rows first (slice_get all_items place)
            (run_from (row_at place) rest)) (run_from moves (first ∷ rest)))

      -- a pair whose second part is no sequence
      fails_pair : (first second : Thing)
          → ((moves : List Move) (number : ℕ) → is_state moves number
          → takes_named second number ≡ None)
          → (move : Move) (number : ℕ) → is_move move number
          → takes_named (thing.Pair first second) number ≡ None
      fails_pair first second none End number there = end_fails first second number there
      fails_pair first second none (To place) number
          (item, next, of, is_item, is_next, is_of, step) =
          at_step first second (gatherer copy.group of.1) number item next step
          ∙ ap (step_of first (gatherer copy.group of.1) (takes_named first item))
          (none (row_at place) next (is_copy.goes_on place next is_next))
          ∙ no_second (gatherer copy.group of.1) (takes_named first item)
        where
          no_second : (b : Option Name) (a : Option (Captures Name)) → step_of first b a None ≡ None
          no_second None None = refl
          no_second None (Some c) = refl
          no_second (Some name) None = refl
          no_second (Some name) (Some c) = refl

      none_first : (moves : List Move) → first_of (λ move. None) moves ≡ None
      none_first [] = refl
      none_first (move ∷ moves) = none_first moves

      pair_takes : (first second : Thing) → TakesAs second → TakesAs (thing.Pair first second)
      pair_takes first second second_takes moves number there =
          by_items (items second) second_takes
        where
          by_items : (o : Option (List Thing))
              → ((moves : List Move) (number : ℕ) → is_state moves number
              → takes_named second number ≡ of_run copy.group keeps (run_from moves) o)
              → takes_named (thing.Pair first second) number
              ≡ of_run copy.group keeps (run_from moves) (option_map (λ rest. first ∷ rest) o)
          by_items None takes =
              chain (thing.Pair first second) (λ move. None) (fails_pair first second takes) moves
              number there ∙ none_first moves
          by_items (Some rest) takes =
              chain (thing.Pair first second) (does first second rest takes)
              (pair_move first second rest takes) moves number there
              ∙ at_moves first second rest takes moves

      pub states_take : (d : Thing) → TakesAs d
      states_take (thing.Integer n) = flat_takes (thing.Integer n)
          (λ item next. refl, λ variable item next. refl) refl
      states_take (thing.Character c) = flat_takes (thing.Character c)
          (λ item next. refl, λ variable item next. refl) refl
      states_take (thing.Atom name) = atom_takes name
      states_take (thing.Pair first second) = pair_takes first second (states_take second)
      states_take (thing.Xml tag attributes content) =
          flat_takes (thing.Xml tag attributes content)
          (λ item next. refl, λ variable item next. refl) refl
      states_take (thing.Record fields) = flat_takes (thing.Record fields)
          (λ item next. refl, λ variable item next. refl) refl
      states_take (thing.Function pairs) = flat_takes (thing.Function pairs)
          (λ item next. refl, λ variable item next. refl) refl
      states_take (thing.Closure function environment) =
          flat_takes (thing.Closure function environment)
          (λ item next. refl, λ variable item next. refl) refl
