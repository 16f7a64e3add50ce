-- The nodes of the copies of a sequence.
use Rattle.std.proofs.Common.{◌≡◌, ℕ, Bool, true, false, not, ◌||◌, ◌&&◌, List, [], ◌∷◌, ◌⊎◌, inl}
use Rattle.std.proofs.Common.{◌<◌, ◌+◌, get_or, map}
use Rattle.std.proofs.lemmas.List.{length-map}
use Rattle.std.proofs.Common.{inr, Option, Some, None, refl, sym, ap, ap₂, subst, ◌∙◌, bytes_eq}
use Rattle.std.specs.List.{slice_get}
use Rattle.std.specs.Option.{unwrap_or}
use Rattle.std.proofs.lemmas.Bool.{true≢false, or_left, or_right, or_cases, and_parts, and_from}
use Rattle.std.proofs.lemmas.Bool.{and_right, false_from_ne_true}
use Rattle.std.proofs.lemmas.Option.{same_Some, slice_get_within, slice_get-get_or}
use Rattle.cd_syntax.specs.Name.{Name}
use Rattle.cd_model.specs.AllOf.{AllOf}
use Rattle.cd_matching.specs.Kernel.{KernelNode, Test, Pair}
use Rattle.cd_matching.specs.Kernel.{Both, First, Gather}
use Rattle.cd_matching.specs.Naming.{AreDisjointNames, IsNamed}
use Rattle.cd_matching.specs.Naming.{IsNamedRegular}
use Rattle.cd_matching.specs.Naming.{AreNamedInTurn, AreNamedEither, AreNamedLike}
use Rattle.cd_matching.specs.Pattern as pattern
use Rattle.cd_kernel.specs.Copies as made_of
use Rattle.cd_matching.specs.Pattern.{Pattern, Patterns, NoPattern, APattern, Fields, NoField}
use Rattle.cd_matching.specs.Pattern.{Regular, Regulars, NoRegular, ARegular, Sequence}
use Rattle.cd_matching.specs.Variables.{binds, is_gathered, is_plain}
use Rattle.cd_matching.specs.Variables.{one_is_gathered, one_is_plain, regular_binds, regulars_bind}
use Rattle.cd_moves.specs.Automaton.{Move, End, To, ItemOf, items_in, items_of, first_moves, once}
use Rattle.cd_moves.specs.Automaton.{rows_of, states}
use Rattle.cd_kernel.specs.Copies.{Types, AreTypes, IsAt, IsNumber, is_among, AreDistinct}
use Rattle.cd_kernel.specs.Copies.{gatherer, Copy, in_a_group, AreDisjoint, ArePut, IsStep}
use Rattle.cd_kernel.specs.Copies.{IsMove, IsState, IsCopy, AreJoined}
use Rattle.cd_kernel.specs.Making.{inner, AreCopies}
use Rattle.cd_kernel.specs.Making.{AreItemsOf, AreItemsOfAll}
use Rattle.cd_kernel.proofs.ChainPieces.{BindInTurn, both_good}
use Rattle.cd_kernel.proofs.CompletePatterns.{IsCompleteRegular, AreCompleteRegulars}
use Rattle.cd_kernel.proofs.ItemsByNumber.{ItemsHave, AllItemsHave, item_has}
use Rattle.cd_kernel.proofs.PartsStand.{items_long, states_long}
use Rattle.cd_kernel.proofs.PlainVariables.{Names, either, none, afters, BindsBy, BindsFrom}
use Rattle.cd_kernel.proofs.PlainVariables.{start_binds, row_binds}
use Rattle.cd_kernel.proofs.StateEnds.{start_ends, row_ends}
use Rattle.cd_kernel.proofs.StatesTake.{gatherer_in}
use Rattle.cd_kernel.proofs.VariableNumbers.{names_same}
use Rattle.cd_kernel.proofs.Pieces.{Within, kept_of, copy_binds, copies_bind, HasMove, has_move}
use Rattle.cd_kernel.proofs.Pieces.{ItemMade, IsCopyOf, Piece, put_of, made, puts_of, state_of}
use Rattle.cd_kernel.proofs.Pieces.{move_of, Good, wider}

or_within : (a b c : Bool) → (b ≡ true → c ≡ true) → (a || b) ≡ true → (a || c) ≡ true
or_within true b c on h = refl
or_within false b c on h = on h

two_within : (a b c d : Bool) → (a ≡ true → b ≡ true) → (c ≡ true → d ≡ true) → (a || c) ≡ true
    → (b || d) ≡ true
two_within true b c d one other h = or_left b d (one refl)
two_within false b c d one other h = or_right b d (other h)

mutual
  gathered_binds : {T : Type 0} (r : Regular T) (name : Name) → is_gathered r name ≡ true
      → regular_binds r name ≡ true
  gathered_binds pattern.Nothing name h = h
  gathered_binds (pattern.Item p) name h = absurd (true≢false (sym h))
  gathered_binds (pattern.Seq all) name h = one_gathered_binds all name h
  gathered_binds (pattern.Alt all) name h = one_gathered_binds all name h
  gathered_binds (pattern.Repeat r how) name h = gathered_binds r name h
  gathered_binds (pattern.Capture variable r) name h =
      or_within (bytes_eq variable name) (is_gathered r name) (regular_binds r name)
      (gathered_binds r name) h

  one_gathered_binds : {T : Type 0} (all : Regulars T) (name : Name)
      → one_is_gathered all name ≡ true → regulars_bind all name ≡ true
  one_gathered_binds NoRegular name h = h
  one_gathered_binds (ARegular first rest) name h =
      two_within (is_gathered first name) (regular_binds first name) (one_is_gathered rest name)
      (regulars_bind rest name) (gathered_binds first name) (one_gathered_binds rest name) h

mutual
  plain_binds : {T : Type 0} (r : Regular T) (name : Name) → is_plain r name ≡ true
      → regular_binds r name ≡ true
  plain_binds pattern.Nothing name h = h
  plain_binds (pattern.Item p) name h = h
  plain_binds (pattern.Seq all) name h = one_plain_binds all name h
  plain_binds (pattern.Alt all) name h = one_plain_binds all name h
  plain_binds (pattern.Repeat r how) name h = plain_binds r name h
  plain_binds (pattern.Capture variable r) name h =
      or_right (bytes_eq variable name) (regular_binds r name) (plain_binds r name h)

  one_plain_binds : {T : Type 0} (all : Regulars T) (name : Name)
      → one_is_plain all name ≡ true → regulars_bind all name ≡ true
  one_plain_binds NoRegular name h = h
  one_plain_binds (ARegular first rest) name h =
      two_within (is_plain first name) (regular_binds first name) (one_is_plain rest name)
      (regulars_bind rest name) (plain_binds first name) (one_plain_binds rest name) h

module _ {T : Type 0} (IsType : T → Type 0) (types : Types T) (variables : List Name)
    (nodes : List (KernelNode T)) where
  abbrev a_piece : Names → ℕ → Type 0
  a_piece = Piece IsType types variables nodes

  abbrev is_good : Names → ℕ → Type 0
  is_good = Good IsType types variables nodes

  abbrev made_item : Names → Pattern T → ℕ → Type 0
  made_item = ItemMade IsType types variables nodes

  abbrev is_copy_of : Names → Regular T → Copy → Type 0
  is_copy_of = IsCopyOf IsType types variables nodes

  -- variables that are the empty sequence
  pub good_puts : (type : T) (names : List Name) (number : ℕ)
      → ArePut types variables nodes type names number → IsType type → AreDistinct names
      → is_good (is_among names) number
  good_puts type [] number there is distinct = (Test type, there, tt, is)
  good_puts type (name ∷ names) number (variable, put, rest, is_number, there, put_there, others)
      is distinct = (
        Both put rest,
        there,
        tt,
        (
          (λ other. bytes_eq other name),
          is_among names,
          put_of name variable put is_number put_there,
          puts_of type names rest others is distinct.1,
          (λ other h. ap (is_among names) (names_same other name h) ∙ distinct.0),
          λ other h. h,
        ),
      )

  -- copies
  no_plain_in_group : (keeps : Names) (r : Regular T) (copy : Copy) → is_copy_of keeps r copy
      → (name : Name) → inner keeps r copy name ≡ true → is_among copy.group name ≡ false
  no_plain_in_group keeps r copy of name h = false_from_ne_true (is_among copy.group name)
      (λ there. hidden copy.plain (keeps name) (is_gathered r name) h (of.group name there))
    where
      hidden : (p k g : Bool) → (p && (k && not g)) ≡ true → (k && g) ≡ true → ⊥
      hidden true true true one other = true≢false (sym one)
      hidden true true false one other = true≢false (sym other)
      hidden true false g one other = true≢false (sym one)
      hidden false k g one other = true≢false (sym one)

  pub row_there : (r : Regular T) (place : ℕ) (of : ItemOf T)
      → slice_get (items_of [] r) place ≡ Some of
      → slice_get (rows_of r) place ≡ Some (get_or (rows_of r) place [])
  row_there r place of there = slice_get-get_or (rows_of r) place []
      (subst (λ n. place < n) (items_long [] r ∙ sym (states_long r 0 (End ∷ []))
      ∙ sym (length-map (states r 0 (End ∷ [])) once))
      (slice_get_within (items_of [] r) place of there))

  pub row_state : (keeps : Names) (r : Regular T) (copy : Copy) → is_copy_of keeps r copy
      → (place number : ℕ) (item : ItemOf T) → slice_get copy.states place ≡ Some number
      → slice_get (items_of [] r) place ≡ Some item
      → (plain : Names) × (slice_get (afters r none) place ≡ Some plain)
      × a_piece (copy_binds keeps r copy plain) number
  row_state keeps r copy of place number item is_number is_item =
      let row = get_or (rows_of r) place [] in
      let is_row = row_there r place item is_item in
      let found = row_binds r of.named.2 place row is_row in (
        found.0,
        found.1,
        state_of keeps r copy found.0 row number of
            (subst (λ l. IsState types variables nodes copy (items_of [] r) l number)
            (ap (λ o. unwrap_or o []) is_row) (of.is_copy.goes_on place number is_number))
            found.2 (has_move (rows_of r) row (row_ends IsType r of.well_made place row is_row)),
      )

  pub start_state : (keeps : Names) (r : Regular T) (copy : Copy) → is_copy_of keeps r copy
      → a_piece (copy_binds keeps r copy (is_plain r)) copy.start
  start_state keeps r copy of = state_of keeps r copy (is_plain r) (once (first_moves r 0)) copy.start of
      of.is_copy.starts (start_binds r of.named.2)
      (has_move (rows_of r) (once (first_moves r 0)) (start_ends IsType r of.well_made))

  module _ (are_types : AreTypes IsType types) where
    pub good_move : (keeps : Names) (r : Regular T) (copy : Copy) (plain : Names) (move : Move)
        (number : ℕ) → is_copy_of keeps r copy
        → IsMove types variables nodes copy (items_of [] r) move number
        → BindsBy r plain move → is_good (copy_binds keeps r copy plain) number
    good_move keeps r copy plain End number of there fits =
        wider IsType types variables nodes (is_among copy.group) (copy_binds keeps r copy plain)
        (λ name h. or_left (is_among copy.group name) (inner keeps r copy name && plain name) h)
        number
        (good_puts types.nil copy.group number there are_types.0 of.is_copy.distinct)
    good_move keeps r copy plain (To place) number of
        (item, next, its, is_item, is_next, is_its, step)
        (the_item, later, is_the_item, is_later, apart, both) =
        by_gatherer (gatherer copy.group its.1) refl step
      where
        itself : the_item ≡ its
        itself = same_Some the_item its (sym is_the_item ∙ is_its)

        state : a_piece (copy_binds keeps r copy later) next
        state = let found = row_state keeps r copy of place next its is_next is_its in
            subst (λ l. a_piece (copy_binds keeps r copy l) next)
            (same_Some found.0 later (sym found.1 ∙ is_later)) found.2

        bound : Names
        bound = kept_of (inner keeps r copy) (binds its.0)

        piece : a_piece bound item
        piece = made (inner keeps r copy) its.0 item
            (item_has (made_item (inner keeps r copy)) copy.items r of.items place item its is_item
            is_its)

        binds_disjoint : AreDisjointNames (binds its.0) later
        binds_disjoint = subst (λ (o : ItemOf T). AreDisjointNames (binds o.0) later) itself apart

        two_disjoint : AreDisjointNames bound (copy_binds keeps r copy later)
        two_disjoint name h =
            let parts = and_parts (inner keeps r copy name) (binds its.0 name) h in
            ap₂ (λ (a b : Bool). a || b) (no_plain_in_group keeps r copy of name parts.0)
            (and_right (inner keeps r copy name) (later name) (binds_disjoint name parts.1))

        split : (g i b l p : Bool) → p ≡ (b || l) → ((i && b) || (g || (i && l))) ≡ true
            → (g || (i && p)) ≡ true
        split true i b l p same h = refl
        split false true b l p same h = same ∙ h
        split false false b l p same h = h

        within : Within (either bound (copy_binds keeps r copy later))
            (copy_binds keeps r copy plain)
        within name h = split (is_among copy.group name) (inner keeps r copy name)
            (binds its.0 name) (later name) (plain name)
            (both name ∙ ap (λ (o : ItemOf T). binds o.0 name || later name) itself) h

        by_gatherer : (b : Option Name) → gatherer copy.group its.1 ≡ b
            → IsStep types variables nodes b number item next
            → is_good (copy_binds keeps r copy plain) number
        by_gatherer None is there = (
          Pair item next,
          there,
          tt,
          (bound, copy_binds keeps r copy later, piece, state, two_disjoint, within),
        )
        by_gatherer (Some name) is (variable, is_number, there) =
            let in_group = (gatherer_in copy.group its.1 name is).0 in (
              Gather variable item next,
              there,
              (
                (
                  name,
                  is_number,
                  or_left (is_among copy.group name) (inner keeps r copy name && plain name)
                      in_group,
                ),
                tt,
              ),
              (
                bound,
                copy_binds keeps r copy later,
                piece,
                state,
                two_disjoint,
                within,
                (
                  name,
                  is_number,
                  or_left (is_among copy.group name) (inner keeps r copy name && later name)
                      in_group,
                ),
              ),
            )

    pub good_state : (keeps : Names) (r : Regular T) (copy : Copy) (plain : Names)
        (moves : List Move)
        (number : ℕ) → is_copy_of keeps r copy
        → IsState types variables nodes copy (items_of [] r) moves number
        → BindsFrom r plain moves → HasMove moves → is_good (copy_binds keeps r copy plain) number
    good_state keeps r copy plain [] number of there fits has = absurd has
    good_state keeps r copy plain (move ∷ []) number of there fits has =
        good_move keeps r copy plain move number of there fits.0
    good_state keeps r copy plain (move ∷ next ∷ moves) number of (first, rest, there, one, others)
        fits has = (
          First first rest,
          there,
          tt,
          (
            copy_binds keeps r copy plain,
            copy_binds keeps r copy plain,
            move_of keeps r copy plain move first of one fits.0,
            state_of keeps r copy plain (next ∷ moves) rest of others fits.1 tt,
            (λ name. refl),
            λ name h. h,
          ),
        )

    -- what copies bind
    unbound : (keeps : Names) → Regular T → Names
    unbound keeps r name = keeps name && not (is_gathered r name)

    not_both : (k g : Bool) → (k && g) ≡ true → (k && not g) ≡ true → ⊥
    not_both true true one other = true≢false (sym other)
    not_both true false one other = true≢false (sym one)
    not_both false g one other = true≢false (sym one)

    some_group : (keeps : Names) (r : Regular T) (copies : List Copy)
        → AllOf (is_copy_of keeps r) copies → (name : Name) → in_a_group copies name ≡ true
        → (keeps name && is_gathered r name) ≡ true
    some_group keeps r [] of name h = absurd (true≢false (sym h))
    some_group keeps r (copy ∷ copies) of name h =
        elim (or_cases (is_among copy.group name) (in_a_group copies name) h) [
          | inl here ↦ of.0.group name here
          | inr later ↦ some_group keeps r copies of.1 name later
        ]

    some_binds : (keeps : Names) (r : Regular T) (copies : List Copy) (name : Name)
        → copies_bind keeps r copies name ≡ true
        → (in_a_group copies name ≡ true)
        ⊎ ((made_of.one_is_plain copies ≡ true) × ((keeps name && not (is_gathered r name)) ≡ true))
    some_binds keeps r [] name h = absurd (true≢false (sym h))
    some_binds keeps r (copy ∷ copies) name h =
        by_side (or_cases (copy_binds keeps r copy (is_plain r) name)
        (copies_bind keeps r copies name) h) (some_binds keeps r copies name)
      where
        by_side : (copy_binds keeps r copy (is_plain r) name ≡ true)
            ⊎ (copies_bind keeps r copies name ≡ true)
            → (copies_bind keeps r copies name ≡ true → (in_a_group copies name ≡ true)
            ⊎ ((made_of.one_is_plain copies ≡ true)
            × ((keeps name && not (is_gathered r name)) ≡ true)))
            → (in_a_group (copy ∷ copies) name ≡ true)
            ⊎ ((made_of.one_is_plain (copy ∷ copies) ≡ true)
            × ((keeps name && not (is_gathered r name)) ≡ true))
        by_side (inl here) on =
            elim (or_cases (is_among copy.group name) (inner keeps r copy name && is_plain r name)
            here) [
              | inl grouped ↦ inl
                  (or_left (is_among copy.group name) (in_a_group copies name) grouped)
              | inr plain ↦
                  let parts = and_parts copy.plain (keeps name && not (is_gathered r name))
                  (and_parts (inner keeps r copy name) (is_plain r name) plain).0 in
                  inr (or_left copy.plain (made_of.one_is_plain copies) parts.0, parts.1)
            ]
        by_side (inr later) on = elim (on later) [
          | inl grouped ↦
              inl (or_right (is_among copy.group name) (in_a_group copies name) grouped)
          | inr plain ↦ inr (or_right copy.plain (made_of.one_is_plain copies) plain.0, plain.1)
        ]

    copies_disjoint : (keeps : Names) (r : Regular T) (copy : Copy) (copies : List Copy)
        → AllOf (is_copy_of keeps r) (copy ∷ copies) → AreDisjoint (copy ∷ copies)
        → AreDisjointNames (copy_binds keeps r copy (is_plain r)) (copies_bind keeps r copies)
    copies_disjoint keeps r copy copies of disjoint name h =
        false_from_ne_true (copies_bind keeps r copies name)
        (λ there. by_sides
        (or_cases (is_among copy.group name) (inner keeps r copy name && is_plain r name) h)
        (some_binds keeps r copies name there))
      where
        by_sides : (is_among copy.group name ≡ true)
            ⊎ ((inner keeps r copy name && is_plain r name) ≡ true)
            → (in_a_group copies name ≡ true)
            ⊎ ((made_of.one_is_plain copies ≡ true)
            × ((keeps name && not (is_gathered r name)) ≡ true))
            → ⊥
        by_sides (inl one) (inl other) = true≢false (sym other ∙ disjoint.0 name one)
        by_sides (inl one) (inr other) =
            not_both (keeps name) (is_gathered r name) (of.0.group name one) other.1
        by_sides (inr one) (inl other) =
            not_both (keeps name) (is_gathered r name) (some_group keeps r copies of.1 name other)
            (and_parts copy.plain (keeps name && not (is_gathered r name))
            (and_parts (inner keeps r copy name) (is_plain r name) one).0).1
        by_sides (inr one) (inr other) = true≢false (sym other.0
            ∙ disjoint.1 (and_parts copy.plain (keeps name && not (is_gathered r name))
            (and_parts (inner keeps r copy name) (is_plain r name) one).0).0)

    copies_in_turn : (keeps : Names) (r : Regular T) (copies : List Copy)
        → AllOf (is_copy_of keeps r) copies → AreDisjoint copies
        → BindInTurn IsType types variables nodes
        (map (λ copy. copy_binds keeps r copy (is_plain r)) copies)
        (map (λ copy. copy.start) copies)
    copies_in_turn keeps r [] of disjoint = tt
    copies_in_turn keeps r (copy ∷ copies) of disjoint = (
      (
        start_state keeps r copy of.0,
        good_state keeps r copy (is_plain r) (once (first_moves r 0)) copy.start of.0
            of.0.is_copy.starts (start_binds r of.0.named.2)
            (has_move (rows_of r) (once (first_moves r 0)) (start_ends IsType r of.0.well_made)),
      ),
      copies_disjoint keeps r copy copies of disjoint,
      copies_in_turn keeps r copies of.1 disjoint.2,
    )

    pub good_joined : (keeps : Names) (r : Regular T) (copies : List Copy) (number : ℕ)
        → AreJoined types variables nodes copies number → AllOf (is_copy_of keeps r) copies
        → AreDisjoint copies → is_good (copies_bind keeps r copies) number
    good_joined keeps r copies number joined of disjoint =
        both_good IsType types variables nodes (map (λ copy. copy.start) copies) number joined
        (map (λ copy. copy_binds keeps r copy (is_plain r)) copies)
        (copies_in_turn keeps r copies of disjoint)

    -- items
    mutual
      items_made : (keeps : Names) (numbers : List ℕ) (r : Regular T) (before : ℕ)
          → AreItemsOf types variables nodes keeps numbers r before → IsNamedRegular r
          → IsCompleteRegular IsType r → ItemsHave (made_item keeps) numbers r before
      items_made keeps numbers pattern.Nothing before are named fits = tt
      items_made keeps numbers (pattern.Item p) before (number, there, is) named fits =
          (number, there, (is, named, fits))
      items_made keeps numbers (pattern.Seq all) before are named fits =
          turn_made keeps numbers all before are named fits
      items_made keeps numbers (pattern.Alt all) before are named fits =
          either_made keeps numbers all before are named fits.1
      items_made keeps numbers (pattern.Repeat r how) before are named fits =
          items_made keeps numbers r before are named.1 fits
      items_made keeps numbers (pattern.Capture name r) before are named fits =
          items_made keeps numbers r before are named fits

      turn_made : (keeps : Names) (numbers : List ℕ) (all : Regulars T) (before : ℕ)
          → AreItemsOfAll types variables nodes keeps numbers all before → AreNamedInTurn all
          → AreCompleteRegulars IsType all → AllItemsHave (made_item keeps) numbers all before
      turn_made keeps numbers NoRegular before are named fits = tt
      turn_made keeps numbers (ARegular first rest) before are named fits = (
        items_made keeps numbers first before are.0 named.1 fits.0,
        turn_made keeps numbers rest (before + items_in first) are.1 named.2 fits.1,
      )

      either_made : (keeps : Names) (numbers : List ℕ) (all : Regulars T) (before : ℕ)
          → AreItemsOfAll types variables nodes keeps numbers all before → AreNamedEither all
          → AreCompleteRegulars IsType all → AllItemsHave (made_item keeps) numbers all before
      either_made keeps numbers NoRegular before are named fits = tt
      either_made keeps numbers (ARegular first rest) before are named fits = (
        items_made keeps numbers first before are.0 named.0 fits.0,
        like_made keeps numbers (is_plain first) rest (before + items_in first) are.1 named.1
            fits.1,
      )

      like_made : (keeps : Names) (numbers : List ℕ) (plain : Names) (all : Regulars T)
          (before : ℕ) → AreItemsOfAll types variables nodes keeps numbers all before
          → AreNamedLike plain all → AreCompleteRegulars IsType all
          → AllItemsHave (made_item keeps) numbers all before
      like_made keeps numbers plain NoRegular before are named fits = tt
      like_made keeps numbers plain (ARegular first rest) before are named fits = (
        items_made keeps numbers first before are.0 named.1 fits.0,
        like_made keeps numbers plain rest (before + items_in first) are.1 named.2 fits.1,
      )

    -- the copies of a sequence
    each_copy_of : (keeps : Names) (r : Regular T) (copies : List Copy) (number : ℕ)
        → AreCopies types variables nodes keeps r copies number → IsNamed (Sequence r)
        → IsCompleteRegular IsType r → (some : List Copy)
        → Within (in_a_group some) (in_a_group copies)
        → AllOf (IsCopy types variables nodes r) some
        → AllOf (λ copy. AreItemsOf types variables nodes (inner keeps r copy) copy.items r 0) some
        → AllOf (is_copy_of keeps r) some
    each_copy_of keeps r copies number are named fits [] within each items = tt
    each_copy_of keeps r copies number are named fits (copy ∷ some) within each items = (
      record {
        is_copy = each.0;
        group = λ name h. sym (are.groups name)
            ∙ within name (or_left (is_among copy.group name) (in_a_group some name) h);
        items = items_made (inner keeps r copy) copy.items r 0 items.0 named.2 fits;
        named = named;
        well_made = fits;
      },
      each_copy_of keeps r copies number are named fits some
          (λ name h. within name (or_right (is_among copy.group name) (in_a_group some name) h))
          each.1 items.1,
    )

    pub copies_of : (keeps : Names) (r : Regular T) (copies : List Copy) (number : ℕ)
        → AreCopies types variables nodes keeps r copies number → IsNamed (Sequence r)
        → IsCompleteRegular IsType r
        → AllOf (λ copy. AreItemsOf types variables nodes (inner keeps r copy) copy.items r 0)
        copies → AllOf (is_copy_of keeps r) copies
    copies_of keeps r copies number are named fits items =
        each_copy_of keeps r copies number are named fits copies (λ name h. h) are.each items

    -- they bind no variable that the sequence has not
    pub copies_within : (keeps : Names) (r : Regular T) (copies : List Copy)
        → AllOf (is_copy_of keeps r) copies
        → Within (copies_bind keeps r copies) (kept_of keeps (regular_binds r))
    copies_within keeps r [] of name h = absurd (true≢false (sym h))
    copies_within keeps r (copy ∷ copies) of name h =
        by_side (or_cases (copy_binds keeps r copy (is_plain r) name)
        (copies_bind keeps r copies name) h)
        (copies_within keeps r copies of.1 name)
      where
        by_side : (copy_binds keeps r copy (is_plain r) name ≡ true)
            ⊎ (copies_bind keeps r copies name ≡ true)
            → (copies_bind keeps r copies name ≡ true
            → (keeps name && regular_binds r name) ≡ true)
            → (keeps name && regular_binds r name) ≡ true
        by_side (inr later) on = on later
        by_side (inl here) on =
            elim (or_cases (is_among copy.group name) (inner keeps r copy name && is_plain r name)
            here) [
              | inl grouped ↦
                  let parts = and_parts (keeps name) (is_gathered r name)
                  (of.0.group name grouped) in
                  and_from (keeps name) (regular_binds r name) parts.0
                  (gathered_binds r name parts.1)
              | inr plain ↦
                  let parts = and_parts (inner keeps r copy name) (is_plain r name) plain in
                  and_from (keeps name) (regular_binds r name)
                  (and_parts (keeps name) (not (is_gathered r name))
                  (and_parts copy.plain (keeps name && not (is_gathered r name)) parts.0).1).0
                  (plain_binds r name parts.1)
            ]
