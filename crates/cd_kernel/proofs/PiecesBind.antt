-- What a node is made of binds all of its variables.
use Rattle.std.proofs.Common.{◌≡◌, ℕ, ◌+◌, Bool, true, false, not, ◌||◌, ◌&&◌, List, [], ◌∷◌, ◌++◌}
use Rattle.std.proofs.Common.{map, ◌⊎◌, inl, inr, Option, Some, None, refl, sym, ap, subst, ◌∙◌, bytes_eq}
use Rattle.std.proofs.Common.{get_or}
use Rattle.std.specs.List.{slice_get}
use Rattle.std.specs.Option.{unwrap_or}
use Rattle.std.proofs.lemmas.Bool.{true≢false, or_left, or_right, or_cases, and_parts, and_from}
use Rattle.std.proofs.lemmas.Option.{same_Some}
use Rattle.cd_syntax.specs.Name.{Name}
use Rattle.cd_syntax.specs.declared.constant.Constant.TheVariants as constant
use Rattle.cd_model.specs.AllOf.{AllOf, AnyOf}
use Rattle.cd_model.proofs.Ones.{each_weaker, one_on_a_side}
use Rattle.cd_matching.specs.Kernel.{KernelNode, KernelField, Present, Optional, Bind, Put, Pair}
use Rattle.cd_matching.specs.Kernel.{Xml, Record, Both, First, Gather, field_nodes, leads_to}
use Rattle.cd_matching.specs.Kernel.{parts_of, variables_of, Binds, itself, further, number_of}
use Rattle.cd_matching.specs.Naming.{IsNamed, AreNamedFields, IsNamedRegular, AreNamedInTurn}
use Rattle.cd_matching.specs.Naming.{AreNamedEither, AreNamedLike}
use Rattle.cd_matching.specs.Pattern as pattern
use Rattle.cd_matching.specs.Pattern.{Pattern, Patterns, NoPattern, APattern, Fields, NoField}
use Rattle.cd_matching.specs.Pattern.{Regular, Regulars, NoRegular, ARegular, Sequence}
use Rattle.cd_matching.specs.Variables.{binds, all_bind, fields_bind, is_gathered, is_plain}
use Rattle.cd_matching.specs.Variables.{regular_binds}
use Rattle.cd_matching.proofs.BoundVariables.{gathered_or_plain}
use Rattle.cd_moves.specs.Automaton.{Move, End, To, ItemOf, items_in, items_of, first_moves, once}
use Rattle.cd_moves.specs.Automaton.{rows_of}
use Rattle.cd_kernel.specs.Chains.{IsChain, one_node, two_chains}
use Rattle.cd_kernel.specs.Copies as copies
use Rattle.cd_kernel.specs.Copies.{Types, AreTypes, IsAt, IsNumber, is_among, gatherer, Copy}
use Rattle.cd_kernel.specs.Copies.{in_a_group, ArePut, IsStep, IsMove, IsState, AreJoined}
use Rattle.cd_kernel.specs.Making.{inner, IsChainOr, IsPut, AreCopies, IsKernelOf, AreKernelsOf}
use Rattle.cd_kernel.specs.Making.{AreFieldsOf, AreItemsOf, AreItemsOfAll}
use Rattle.cd_kernel.proofs.CompletePatterns.{IsComplete, AreComplete, AreCompleteFields}
use Rattle.cd_kernel.proofs.CompletePatterns.{IsCompleteRegular, AreCompleteRegulars}
use Rattle.cd_kernel.proofs.AnyOrder.{all_among, any_reordered}
use Rattle.cd_kernel.proofs.ItemsByNumber.{ItemsHave, AllItemsHave, item_has}
use Rattle.cd_kernel.proofs.NamedParts.{AreNamed, disjoint_named, same_named}
use Rattle.cd_kernel.proofs.Pieces.{Within, kept_of, copy_binds, copies_bind, HasMove}
use Rattle.cd_kernel.proofs.Pieces.{ItemMade, IsCopyOf, Piece, test_of, put_of, made, both_of}
use Rattle.cd_kernel.proofs.Pieces.{first_of, puts_of, state_of, move_of}
use Rattle.cd_kernel.proofs.CopyPieces.{row_there, copies_of}
use Rattle.cd_kernel.proofs.PlainVariables.{Names, none, afters, BindsBy, BindsFrom}
use Rattle.cd_kernel.proofs.PlainVariables.{start_binds, row_binds}
use Rattle.cd_kernel.proofs.StateEnds.{IsIn, Ending, ends, goes, start_ends, row_ends}
use Rattle.cd_kernel.proofs.VariableNumbers.{names_same}

module _ {T : Type 0} (IsType : T → Type 0) (types : Types T) (variables : List Name)
    (nodes : List (KernelNode T)) (are_types : AreTypes IsType types) where
  -- the numbers of some variables are bound by a node
  abbrev pub BindsAll : Names → ℕ → Type 0
  BindsAll bound number = (name : Name) (variable : ℕ) → IsNumber variables name variable
      → bound name ≡ true → Binds nodes variable number

  same_number : (name other : Name) (variable number : ℕ) → IsNumber variables name variable
      → IsNumber variables other number → name ≡ other → variable ≡ number
  same_number name other variable number one two same = same_Some variable number
      (sym one ∙ ap (number_of variables) same ∙ two)

  puts_bind : (type : T) (names : List Name) (number : ℕ)
      → ArePut types variables nodes type names number → BindsAll (is_among names) number
  puts_bind type [] number there name variable is_number h = absurd (true≢false (sym h))
  puts_bind type (first ∷ names) number (its, put, rest, is_its, there, put_there, others) name
      variable is_number h = elim (or_cases (bytes_eq name first) (is_among names name) h) [
        | inl same ↦ further number put (Both put rest) there (inl refl)
            (itself put (Put its constant.Nil) put_there
            (inl (same_number first name its variable is_its is_number
            (sym (names_same name first same)))))
        | inr later ↦ further number rest (Both put rest) there (inr (inl refl))
            (puts_bind type names rest others name variable is_number later)
      ]

  -- copies
  module _ (keeps : Names) (r : Regular T) (copy : Copy)
      (of : IsCopyOf IsType types variables nodes keeps r copy)
      (items_bind : (place number : ℕ) (item : ItemOf T)
      → slice_get copy.items place ≡ Some number → slice_get (items_of [] r) place ≡ Some item
      → BindsAll (kept_of (inner keeps r copy) (binds item.0)) number) where
    abbrev is_move : Move → ℕ → Type 0
    is_move = IsMove types variables nodes copy (items_of [] r)

    abbrev is_state : List Move → ℕ → Type 0
    is_state = IsState types variables nodes copy (items_of [] r)

    chain_binds : (move : Move) (variable : ℕ)
        → ((number : ℕ) → is_move move number → Binds nodes variable number)
        → (moves : List Move) (number : ℕ) → is_state moves number → IsIn move moves
        → Binds nodes variable number
    chain_binds move variable on [] number there one = absurd one
    chain_binds move variable on (first ∷ []) number there (inl same) =
        on number (subst (λ m. is_move m number) same there)
    chain_binds move variable on (first ∷ []) number there (inr later) = absurd later
    chain_binds move variable on (first ∷ next ∷ moves) number (one, rest, there, its, others)
        (inl same) = further number one (First one rest) there (inl refl)
        (on one (subst (λ m. is_move m one) same its))
    chain_binds move variable on (first ∷ next ∷ moves) number (one, rest, there, its, others)
        (inr later) = further number rest (First one rest) there (inr (inl refl))
        (chain_binds move variable on (next ∷ moves) rest others later)

    end_binds : (plain : Names) → BindsBy r plain End → (number : ℕ) → is_move End number
        → BindsAll (copy_binds keeps r copy plain) number
    end_binds plain fits number there name variable is_number h =
        elim (or_cases (is_among copy.group name) (inner keeps r copy name && plain name) h) [
          | inl grouped ↦
              puts_bind types.nil copy.group number there name variable is_number grouped
          | inr bound ↦ absurd (true≢false
              (sym (and_parts (inner keeps r copy name) (plain name) bound).1 ∙ fits name))
        ]

    step_binds : (plain : Names) (place : ℕ) → BindsBy r plain (To place) → (number : ℕ)
        → is_move (To place) number → (name : Name) (variable : ℕ)
        → IsNumber variables name variable
        → ((next : ℕ) (later : Names) → slice_get copy.states place ≡ Some next
        → slice_get (afters r none) place ≡ Some later
        → copy_binds keeps r copy later name ≡ true → Binds nodes variable next)
        → copy_binds keeps r copy plain name ≡ true → Binds nodes variable number
    step_binds plain place (the_item, later, is_the_item, is_later, apart, both) number
        (item, next, its, is_item, is_next, is_its, step) name variable is_number on h =
        by_case (or_cases (is_among copy.group name) (inner keeps r copy name && plain name) h)
      where
        by_step : (b : Option Name) → IsStep types variables nodes b number item next
            → (Binds nodes variable item ⊎ Binds nodes variable next)
            → Binds nodes variable number
        by_step None there (inl bound) =
            further number item (Pair item next) there (inl refl) bound
        by_step None there (inr bound) =
            further number next (Pair item next) there (inr (inl refl)) bound
        by_step (Some gathers) (its_number, is_its_number, there) (inl bound) =
            further number item (Gather its_number item next) there (inl refl) bound
        by_step (Some gathers) (its_number, is_its_number, there) (inr bound) =
            further number next (Gather its_number item next) there (inr (inl refl)) bound

        by_case : (is_among copy.group name ≡ true)
            ⊎ ((inner keeps r copy name && plain name) ≡ true) → Binds nodes variable number
        by_case (inl grouped) = by_step (gatherer copy.group its.1) step
            (inr (on next later is_next is_later
            (or_left (is_among copy.group name) (inner keeps r copy name && later name) grouped)))
        by_case (inr bound) = by_step (gatherer copy.group its.1) step
            (by_part (or_cases (binds the_item.0 name) (later name) (sym (both name) ∙ parts.1)))
          where
            parts : (inner keeps r copy name ≡ true) × (plain name ≡ true)
            parts = and_parts (inner keeps r copy name) (plain name) bound

            by_part : (binds the_item.0 name ≡ true) ⊎ (later name ≡ true)
                → Binds nodes variable item ⊎ Binds nodes variable next
            by_part (inl here) = inl (items_bind place item the_item is_item is_the_item name
                variable is_number (and_from (inner keeps r copy name) (binds the_item.0 name)
                parts.0 here))
            by_part (inr after) = inr (on next later is_next is_later
                (or_right (is_among copy.group name) (inner keeps r copy name && later name)
                (and_from (inner keeps r copy name) (later name) parts.0 after)))

    -- by the way to the end
    state_binds : (moves : List Move) → Ending (rows_of r) moves → (plain : Names)
        → BindsFrom r plain moves → (number : ℕ) → is_state moves number
        → BindsAll (copy_binds keeps r copy plain) number
    state_binds _ (ends moves there) plain fits number state name variable is_number h =
        chain_binds End variable
        (λ one is. end_binds plain (all_among (BindsBy r plain) moves End fits there) one is name
        variable is_number h) moves number state there
    state_binds _ (goes place row moves there at on) plain fits number state name variable is_number
        h = chain_binds (To place) variable
        (λ one is. step_binds plain place
        (all_among (BindsBy r plain) moves (To place) fits there) one is name variable is_number
        (λ next later is_next is_later.
        let found = row_binds r of.named.2 place row at in
        state_binds row on later
        (subst (λ l. BindsFrom r l row) (same_Some found.0 later (sym found.1 ∙ is_later)) found.2)
        next
        (subst (λ l. is_state l next) (ap (λ o. unwrap_or o []) at)
        (of.is_copy.goes_on place next is_next)) name variable is_number) h)
        moves number state there

    start_binds_all : BindsAll (copy_binds keeps r copy (is_plain r)) copy.start
    start_binds_all = state_binds (once (first_moves r 0)) (start_ends IsType r of.well_made) (is_plain r)
        (start_binds r of.named.2) copy.start of.is_copy.starts

    move_binds : (plain : Names) (move : Move) → BindsBy r plain move → (number : ℕ)
        → is_move move number → BindsAll (copy_binds keeps r copy plain) number
    move_binds plain End fits number there = end_binds plain fits number there
    move_binds plain (To place) fits number there = λ name variable is_number.
        step_binds plain place fits number there name variable is_number
        (λ next later is_next is_later.
        let row = get_or (rows_of r) place [] in
        let at = row_there IsType types variables nodes r place fits.0 fits.2 in
        let found = row_binds r of.named.2 place row at in
        state_binds row (row_ends IsType r of.well_made place row at) later
        (subst (λ l. BindsFrom r l row) (same_Some found.0 later (sym found.1 ∙ is_later)) found.2)
        next
        (subst (λ l. is_state l next) (ap (λ o. unwrap_or o []) at)
        (of.is_copy.goes_on place next is_next)) name variable is_number)

    first_move_binds : (plain : Names) (moves : List Move) → HasMove moves → BindsFrom r plain moves
        → (number : ℕ) → is_state moves number → BindsAll (copy_binds keeps r copy plain) number
    first_move_binds plain [] has fits number state = absurd has
    first_move_binds plain (move ∷ moves) has fits number state = λ name variable is_number h.
        chain_binds move variable
        (λ one is. move_binds plain move fits.0 one is name variable is_number h) (move ∷ moves)
        number state (inl refl)

  -- what a node of a chain binds, the chain does
  module _ (joint : ℕ → ℕ → KernelNode T)
      (to_first : (first second : ℕ) → AnyOf (λ other. other ≡ first)
      (leads_to (joint first second) ++ parts_of (joint first second)))
      (to_second : (first second : ℕ) → AnyOf (λ other. other ≡ second)
      (leads_to (joint first second) ++ parts_of (joint first second))) (variable : ℕ) where
    members_bind : (numbers : List ℕ) (number : ℕ) → IsChain nodes joint numbers number
        → AnyOf (Binds nodes variable) numbers → Binds nodes variable number
    members_bind _ _ (one_node number) (inl here) = here
    members_bind _ _ (one_node number) (inr later) = absurd later
    members_bind _ _ (two_chains front back first second number there one other) any =
        elim (one_on_a_side (Binds nodes variable) front back any) [
          | inl here ↦ further number first (joint first second) there (to_first first second)
              (members_bind front first one here)
          | inr later ↦ further number second (joint first second) there (to_second first second)
              (members_bind back second other later)
        ]

    chain_of_members : (type : T) (numbers : List ℕ) (number : ℕ)
        → IsChainOr types variables nodes joint type numbers number
        → AnyOf (Binds nodes variable) numbers → Binds nodes variable number
    chain_of_members type [] number there any = absurd any
    chain_of_members type (first ∷ rest) number chain any =
        members_bind (first ∷ rest) number chain any

  starts_bind : (keeps : Names) (r : Regular T) (all : List Copy)
      → AllOf (λ copy. BindsAll (copy_binds keeps r copy (is_plain r)) copy.start) all
      → (name : Name) (variable : ℕ) → IsNumber variables name variable
      → copies_bind keeps r all name ≡ true
      → AnyOf (Binds nodes variable) (map (λ copy. copy.start) all)
  starts_bind keeps r [] each name variable is_number h = absurd (true≢false (sym h))
  starts_bind keeps r (copy ∷ all) each name variable is_number h =
      elim (or_cases (copy_binds keeps r copy (is_plain r) name) (copies_bind keeps r all name) h) [
        | inl here ↦ inl (each.0 name variable is_number here)
        | inr later ↦ inr (starts_bind keeps r all each.1 name variable is_number later)
      ]

  joined_bind : (keeps : Names) (r : Regular T) (all : List Copy) (number : ℕ)
      → AreJoined types variables nodes all number
      → AllOf (λ copy. BindsAll (copy_binds keeps r copy (is_plain r)) copy.start) all
      → BindsAll (copies_bind keeps r all) number
  joined_bind keeps r all number joined each name variable is_number h =
      members_bind Both (λ first second. inl refl) (λ first second. inr (inl refl)) variable
      (map (λ copy. copy.start) all) number joined
      (starts_bind keeps r all each name variable is_number h)

  -- a variable of a sequence is bound by one of the copies
  group_binds : (keeps : Names) (r : Regular T) (all : List Copy)
      → Within (in_a_group all) (copies_bind keeps r all)
  group_binds keeps r [] name h = h
  group_binds keeps r (copy ∷ all) name h =
      elim (or_cases (is_among copy.group name) (in_a_group all name) h) [
        | inl here ↦ or_left (copy_binds keeps r copy (is_plain r) name)
            (copies_bind keeps r all name)
            (or_left (is_among copy.group name) (inner keeps r copy name && is_plain r name) here)
        | inr later ↦ or_right (copy_binds keeps r copy (is_plain r) name)
            (copies_bind keeps r all name) (group_binds keeps r all name later)
      ]

  plain_binds : (keeps : Names) (r : Regular T) (all : List Copy) (name : Name)
      → copies.one_is_plain all ≡ true → (keeps name && not (is_gathered r name)) ≡ true
      → is_plain r name ≡ true → copies_bind keeps r all name ≡ true
  plain_binds keeps r [] name h kept plain = absurd (true≢false (sym h))
  plain_binds keeps r (copy ∷ all) name h kept plain =
      elim (or_cases copy.plain (copies.one_is_plain all) h) [
        | inl here ↦ or_left (copy_binds keeps r copy (is_plain r) name)
            (copies_bind keeps r all name)
            (or_right (is_among copy.group name) (inner keeps r copy name && is_plain r name)
            (and_from (inner keeps r copy name) (is_plain r name)
            (and_from copy.plain (keeps name && not (is_gathered r name)) here kept) plain))
        | inr later ↦ or_right (copy_binds keeps r copy (is_plain r) name)
            (copies_bind keeps r all name) (plain_binds keeps r all name later kept plain)
      ]

  sequence_within : (keeps : Names) (r : Regular T) (all : List Copy) (number : ℕ)
      → AreCopies types variables nodes keeps r all number → IsNamed (Sequence r)
      → Within (kept_of keeps (regular_binds r)) (copies_bind keeps r all)
  sequence_within keeps r all number are named name h =
      let parts = and_parts (keeps name) (regular_binds r name) h in
      by_side parts.0 (gathered_or_plain r name parts.1)
    where
      by_side : keeps name ≡ true → (is_gathered r name ≡ true) ⊎ (is_plain r name ≡ true)
          → copies_bind keeps r all name ≡ true
      by_side kept (inl gathered) = group_binds keeps r all name
          (are.groups name ∙ and_from (keeps name) (is_gathered r name) kept gathered)
      by_side kept (inr plain) = plain_binds keeps r all name are.plain
          (and_from (keeps name) (not (is_gathered r name)) kept
          (by_gathered (is_gathered r name) refl)) plain
        where
          by_gathered : (b : Bool) → is_gathered r name ≡ b → not b ≡ true
          by_gathered true is = absurd (true≢false (sym plain ∙ named.1 name is))
          by_gathered false is = refl

  -- patterns
  put_binds : (b : Bool) (keeps : Names) (name : Name) (node : ℕ → KernelNode T) (number : ℕ)
      → keeps name ≡ b → IsPut types variables nodes b name node number
      → ((variable : ℕ) → variables_of (node variable) ≡ variable ∷ [])
      → BindsAll (kept_of keeps (bytes_eq name)) number
  put_binds b keeps name node number is there own other variable is_number h =
      let parts = and_parts (keeps other) (bytes_eq name other) h in
      by_kept b is there (names_same name other parts.1) parts.0
    where
      by_kept : (b : Bool) → keeps name ≡ b → IsPut types variables nodes b name node number
          → name ≡ other → keeps other ≡ true → Binds nodes variable number
      by_kept true is (its, is_its, there) same kept = itself number (node its) there
          (subst (AnyOf (λ n. n ≡ variable)) (sym (own its))
          (inl (same_number name other its variable is_its is_number same)))
      by_kept false is there same kept = absurd (true≢false (sym kept ∙ ap keeps (sym same) ∙ is))

  abbrev FieldBinds : ℕ → Name × KernelField T → Type 0
  FieldBinds variable (label, Present number) = Binds nodes variable number
  FieldBinds variable (label, Optional type) = ⊥

  field_binds : (variable : ℕ) (fields : List (Name × KernelField T))
      → AnyOf (FieldBinds variable) fields
      → (next : ℕ) × AnyOf (λ other. other ≡ next) (field_nodes fields) × Binds nodes variable next
  field_binds variable [] any = absurd any
  field_binds variable ((label, Present number) ∷ fields) (inl here) = (number, inl refl, here)
  field_binds variable ((label, Present number) ∷ fields) (inr later) =
      let found = field_binds variable fields later in (found.0, inr found.1, found.2)
  field_binds variable ((label, Optional type) ∷ fields) (inl here) = absurd here
  field_binds variable ((label, Optional type) ∷ fields) (inr later) =
      field_binds variable fields later

  each_copy_binds : (keeps : Names) (r : Regular T) (all : List Copy)
      → AllOf (IsCopyOf IsType types variables nodes keeps r) all
      → AllOf (λ copy. ItemsHave (λ p. BindsAll (kept_of (inner keeps r copy) (binds p)))
      copy.items r 0) all
      → AllOf (λ copy. BindsAll (copy_binds keeps r copy (is_plain r)) copy.start) all
  each_copy_binds keeps r [] of items = tt
  each_copy_binds keeps r (copy ∷ all) of items = (
    start_binds_all keeps r copy of.0
        (item_has (λ p. BindsAll (kept_of (inner keeps r copy) (binds p))) copy.items r items.0),
    each_copy_binds keeps r all of.1 items.1,
  )

  mutual
    binds_made : (keeps : Names) (p : Pattern T) (number : ℕ)
        → IsKernelOf types variables nodes keeps p number → IsNamed p → IsComplete IsType p
        → BindsAll (kept_of keeps (binds p)) number
    binds_made keeps (pattern.OfType type) number there named fits = λ name variable is_number h.
        absurd (true≢false (sym (and_parts (keeps name) false h).1))
    binds_made keeps (pattern.Bind name) number there named fits =
        put_binds (keeps name) keeps name Bind number refl there (λ variable. refl)
    binds_made keeps (pattern.Default name constant) number there named fits =
        put_binds (keeps name) keeps name (λ variable. Put variable constant) number refl there
        (λ variable. refl)
    binds_made keeps (pattern.Pair p q) number (one, other, there, a, b) named fits =
        λ name variable is_number h.
        let parts = and_parts (keeps name) (binds p name || binds q name) h in
        elim (or_cases (binds p name) (binds q name) parts.1) [
          | inl here ↦ further number one (Pair one other) there (inl refl)
              (binds_made keeps p one a named.1 fits.0 name variable is_number
              (and_from (keeps name) (binds p name) parts.0 here))
          | inr later ↦ further number other (Pair one other) there (inr (inl refl))
              (binds_made keeps q other b named.2 fits.1 name variable is_number
              (and_from (keeps name) (binds q name) parts.0 later))
        ]
    binds_made keeps (pattern.Xml p q r) number (one, other, last, there, a, b, c) named fits =
        λ name variable is_number h.
        let parts = and_parts (keeps name) (binds p name || (binds q name || binds r name)) h in
        elim (or_cases (binds p name) (binds q name || binds r name) parts.1) [
          | inl here ↦ further number one (Xml one other last) there (inl refl)
              (binds_made keeps p one a named.2 fits.0 name variable is_number
              (and_from (keeps name) (binds p name) parts.0 here))
          | inr later ↦ elim (or_cases (binds q name) (binds r name) later) [
            | inl here ↦ further number other (Xml one other last) there (inr (inl refl))
                (binds_made keeps q other b named.3 fits.1 name variable is_number
                (and_from (keeps name) (binds q name) parts.0 here))
            | inr last_of ↦ further number last (Xml one other last) there (inr (inr (inl refl)))
                (binds_made keeps r last c named.4 fits.2 name variable is_number
                (and_from (keeps name) (binds r name) parts.0 last_of))
          ]
        ]
    binds_made keeps (pattern.Record fields more) number
        (written, rising, there, order, labels, apart, are) named fits =
        λ name variable is_number h.
        let found = field_binds variable rising (any_reordered (FieldBinds variable) written rising
        order (fields_made keeps fields written are named.2 fits name variable is_number h)) in
        further number found.0 (Record rising more) there found.1 found.2
    binds_made keeps (pattern.Both all) number (numbers, are, chain) named fits =
        λ name variable is_number h.
        chain_of_members Both (λ first second. inl refl) (λ first second. inr (inl refl)) variable
        types.any numbers number chain
        (some_bind keeps all numbers are (disjoint_named all named) fits name variable is_number h)
    binds_made keeps (pattern.First all) number (numbers, are, chain) named fits =
        λ name variable is_number h.
        chain_of_members First (λ first second. inl refl) (λ first second. inr (inl refl)) variable
        types.empty numbers number chain
        (some_bind keeps all numbers are (same_named all named) fits name variable is_number h)
    binds_made keeps (pattern.Sequence r) number (all, are, items) named fits =
        λ name variable is_number h.
        joined_bind keeps r all number are.joined
        (each_copy_binds keeps r all
        (copies_of IsType types variables nodes are_types keeps r all number are named fits items)
        (each_weaker
        (λ copy. AreItemsOf types variables nodes (inner keeps r copy) copy.items r 0)
        (λ copy. ItemsHave (λ p. BindsAll (kept_of (inner keeps r copy) (binds p))) copy.items r 0)
        (λ copy are_items.
        items_bind (inner keeps r copy) copy.items r 0 are_items named.2 fits) all items)) name
        variable is_number
        (sequence_within keeps r all number are named name h)

    some_bind : (keeps : Names) (all : Patterns T) (numbers : List ℕ)
        → AreKernelsOf types variables nodes keeps all numbers → AreNamed all
        → AreComplete IsType all → (name : Name) (variable : ℕ) → IsNumber variables name variable
        → (keeps name && all_bind all name) ≡ true → AnyOf (Binds nodes variable) numbers
    some_bind keeps NoPattern numbers are named fits = λ name variable is_number h.
        absurd (true≢false (sym (and_parts (keeps name) false h).1))
    some_bind keeps (APattern p rest) [] are named fits = absurd are
    some_bind keeps (APattern p rest) (number ∷ numbers) are named fits =
        λ name variable is_number h.
        let parts = and_parts (keeps name) (binds p name || all_bind rest name) h in
        elim (or_cases (binds p name) (all_bind rest name) parts.1) [
          | inl here ↦ inl (binds_made keeps p number are.0 named.0 fits.0 name variable is_number
              (and_from (keeps name) (binds p name) parts.0 here))
          | inr later ↦ inr (some_bind keeps rest numbers are.1 named.1 fits.1 name variable
              is_number (and_from (keeps name) (all_bind rest name) parts.0 later))
        ]

    fields_made : (keeps : Names) (fields : Fields T) (written : List (Name × KernelField T))
        → AreFieldsOf types variables nodes keeps fields written → AreNamedFields fields
        → AreCompleteFields IsType fields → (name : Name) (variable : ℕ)
        → IsNumber variables name variable → (keeps name && fields_bind fields name) ≡ true
        → AnyOf (FieldBinds variable) written
    fields_made keeps NoField written same named fits = λ name variable is_number h.
        absurd (true≢false (sym (and_parts (keeps name) false h).1))
    fields_made keeps (pattern.Present label p rest) written (number, others, same, is, are) named
        fits = λ name variable is_number h.
        let parts = and_parts (keeps name) (binds p name || fields_bind rest name) h in
        subst (AnyOf (FieldBinds variable)) (sym same)
        (elim (or_cases (binds p name) (fields_bind rest name) parts.1) [
          | inl here ↦ inl (binds_made keeps p number is named.0 fits.0 name variable is_number
              (and_from (keeps name) (binds p name) parts.0 here))
          | inr later ↦ inr (fields_made keeps rest others are named.1 fits.1 name variable
              is_number (and_from (keeps name) (fields_bind rest name) parts.0 later))
        ])
    fields_made keeps (pattern.Optional label type rest) written (others, same, are) named fits =
        λ name variable is_number h. subst (AnyOf (FieldBinds variable)) (sym same)
        (inr (fields_made keeps rest others are named fits.1 name variable is_number h))

    items_bind : (keeps : Names) (numbers : List ℕ) (r : Regular T) (before : ℕ)
        → AreItemsOf types variables nodes keeps numbers r before → IsNamedRegular r
        → IsCompleteRegular IsType r
        → ItemsHave (λ p. BindsAll (kept_of keeps (binds p))) numbers r before
    items_bind keeps numbers pattern.Nothing before are named fits = tt
    items_bind keeps numbers (pattern.Item p) before (number, there, is) named fits =
        (number, there, binds_made keeps p number is named fits)
    items_bind keeps numbers (pattern.Seq all) before are named fits =
        turn_bind keeps numbers all before are named fits
    items_bind keeps numbers (pattern.Alt all) before are named fits =
        either_bind keeps numbers all before are named fits.1
    items_bind keeps numbers (pattern.Repeat r how) before are named fits =
        items_bind keeps numbers r before are named.1 fits
    items_bind keeps numbers (pattern.Capture name r) before are named fits =
        items_bind keeps numbers r before are named fits

    turn_bind : (keeps : Names) (numbers : List ℕ) (all : Regulars T) (before : ℕ)
        → AreItemsOfAll types variables nodes keeps numbers all before → AreNamedInTurn all
        → AreCompleteRegulars IsType all
        → AllItemsHave (λ p. BindsAll (kept_of keeps (binds p))) numbers all before
    turn_bind keeps numbers NoRegular before are named fits = tt
    turn_bind keeps numbers (ARegular first rest) before are named fits = (
      items_bind keeps numbers first before are.0 named.1 fits.0,
      turn_bind keeps numbers rest (before + items_in first) are.1 named.2 fits.1,
    )

    either_bind : (keeps : Names) (numbers : List ℕ) (all : Regulars T) (before : ℕ)
        → AreItemsOfAll types variables nodes keeps numbers all before → AreNamedEither all
        → AreCompleteRegulars IsType all
        → AllItemsHave (λ p. BindsAll (kept_of keeps (binds p))) numbers all before
    either_bind keeps numbers NoRegular before are named fits = tt
    either_bind keeps numbers (ARegular first rest) before are named fits = (
      items_bind keeps numbers first before are.0 named.0 fits.0,
      like_bind keeps numbers (is_plain first) rest (before + items_in first) are.1 named.1 fits.1,
    )

    like_bind : (keeps : Names) (numbers : List ℕ) (plain : Names) (all : Regulars T) (before : ℕ)
        → AreItemsOfAll types variables nodes keeps numbers all before → AreNamedLike plain all
        → AreCompleteRegulars IsType all
        → AllItemsHave (λ p. BindsAll (kept_of keeps (binds p))) numbers all before
    like_bind keeps numbers plain NoRegular before are named fits = tt
    like_bind keeps numbers plain (ARegular first rest) before are named fits = (
      items_bind keeps numbers first before are.0 named.1 fits.0,
      like_bind keeps numbers plain rest (before + items_in first) are.1 named.2 fits.1,
    )

  items_of_copy : (keeps : Names) (r : Regular T) (copy : Copy)
      → IsCopyOf IsType types variables nodes keeps r copy → (place number : ℕ) (item : ItemOf T)
      → slice_get copy.items place ≡ Some number → slice_get (items_of [] r) place ≡ Some item
      → BindsAll (kept_of (inner keeps r copy) (binds item.0)) number
  items_of_copy keeps r copy of place number item is_number is_item =
      let is = item_has (ItemMade IsType types variables nodes (inner keeps r copy)) copy.items r
      of.items place number item is_number is_item in
      binds_made (inner keeps r copy) item.0 number is.0 is.1 is.2

  pub pieces_bind : (bound : Names) (number : ℕ) → Piece IsType types variables nodes bound number
      → BindsAll bound number
  pieces_bind _ _ (test_of type number there is) = λ name variable is_number h.
      absurd (true≢false (sym h))
  pieces_bind _ _ (put_of name its number is_its there) = λ other variable is_number h.
      itself number (Put its constant.Nil) there (inl (same_number name other its variable is_its
      is_number (sym (names_same other name h))))
  pieces_bind _ _ (made keeps p number is) = binds_made keeps p number is.0 is.1 is.2
  pieces_bind _ _ (both_of first second one other number there p q apart) =
      λ name variable is_number h. elim (or_cases (first name) (second name) h) [
        | inl here ↦ further number one (Both one other) there (inl refl)
            (pieces_bind first one p name variable is_number here)
        | inr later ↦ further number other (Both one other) there (inr (inl refl))
            (pieces_bind second other q name variable is_number later)
      ]
  pieces_bind _ _ (first_of bound one other number there p q) = λ name variable is_number h.
      further number one (First one other) there (inl refl)
      (pieces_bind bound one p name variable is_number h)
  pieces_bind _ _ (puts_of type names number there is distinct) = puts_bind type names number there
  pieces_bind _ _ (state_of keeps r copy plain moves number of there fits has) =
      first_move_binds keeps r copy of (items_of_copy keeps r copy of) plain moves has fits number
      there
  pieces_bind _ _ (move_of keeps r copy plain move number of there fits) =
      move_binds keeps r copy of (items_of_copy keeps r copy of) plain move fits number there
