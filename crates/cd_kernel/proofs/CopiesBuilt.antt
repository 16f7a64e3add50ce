-- What is put for a group is a copy of the automaton.
use Rattle.std.proofs.Common.{◌≡◌, ◌+◌, ◌<◌, ℕ, suc, Bool, true, false, List, [], ◌∷◌, ◌++◌}
use Rattle.std.proofs.Common.{map, length, Option, Some, None, option_map, refl, sym, ap, ap₂}
use Rattle.std.proofs.Common.{subst, ◌∙◌, if◌then◌else◌}
use Rattle.std.specs.List.{slice_get}
use Rattle.std.specs.Option.{unwrap_or}
use Rattle.std.proofs.lemmas.List.{length-map}
use Rattle.std.proofs.lemmas.Option.{slice_get_within, slice_get-map}
use Rattle.cd_sets.specs.declared.node_id.NodeId.{NodeId}
use Rattle.cd_syntax.specs.Name.{Name}
use Rattle.cd_model.specs.AllOf.{AllOf}
use Rattle.cd_matching.specs.Pattern as pattern
use Rattle.cd_matching.specs.Pattern.{Regular, Regulars, NoRegular, ARegular}
use Rattle.cd_matching.proofs.Falling.{is_there}
use Rattle.cd_moves.specs.Automaton.{Move, End, ItemOf, once, states, items_of}
use Rattle.cd_moves.specs.Automaton.{items_of_all}
use Rattle.cd_kernel.specs.Copies.{is_among, AreDistinct, gatherer, Copy, IsState, IsCopy}
use Rattle.cd_kernel.specs.Making.{the_types}
use Rattle.cd_kernel.specs.Inner.Building.{Nodes, Several, Steps, before_row, places_of}
use Rattle.cd_kernel.specs.Inner.Building.{rows_made}
use Rattle.cd_kernel.specs.Inner.Building.{steps_of}
use Rattle.cd_kernel.specs.Inner.Building.{put_rows, put_copy}
use Rattle.cd_kernel.specs.Inner.Gathering.{numbered, gathering, all_gathering}
use Rattle.cd_moves.specs.Inner.Rows.{first_moves_row}
use Rattle.cd_kernel.proofs.GrowingNodes.{Keeps, Made, made_on}
use Rattle.cd_kernel.proofs.MovesWithin.{LeadsWithin, start_within, rows_within}
use Rattle.cd_kernel.proofs.PartsStand.{items_long, states_long}
use Rattle.cd_kernel.proofs.RowsBuilt.{HaveNumbers, AreSteps, starts_of, starts_are_places}
use Rattle.cd_kernel.proofs.RowsBuilt.{row_is_state, rows_are_states, row_is_made, rows_grow}
use Rattle.cd_moves.proofs.RowsMade.{first_moves_row_is, states_rows_are}

-- the variable of a group that gathers each item
module _ (variables group : List Name) where
  abbrev number_around : List Name → Option ℕ
  number_around around = option_map (numbered variables) (gatherer group around)

  map_append : (xs ys : List (ItemOf NodeId))
      → map (λ of. number_around of.1) (xs ++ ys)
      ≡ map (λ of. number_around of.1) xs ++ map (λ of. number_around of.1) ys
  map_append [] ys = refl
  map_append (x ∷ xs) ys = ap (number_around x.1 ∷◌) (map_append xs ys)

  mutual
    gathering_is : (r : Regular NodeId) (around : List Name) (o : Option ℕ)
        → o ≡ number_around around
        → gathering variables group o r ≡ map (λ of. number_around of.1) (items_of around r)
    gathering_is pattern.Nothing around o is = refl
    gathering_is (pattern.Item p) around o is = ap (λ (one : Option ℕ). one ∷ []) is
    gathering_is (pattern.Seq all) around o is = all_gathering_is all around o is
    gathering_is (pattern.Alt all) around o is = all_gathering_is all around o is
    gathering_is (pattern.Repeat r post) around o is = gathering_is r around o is
    gathering_is (pattern.Capture name r) around o is = gathering_is r (name ∷ around)
        (if is_among group name then Some (numbered variables name) else o)
        (by_test (is_among group name))
      where
        by_test : (b : Bool) → (if b then Some (numbered variables name) else o)
            ≡ option_map (numbered variables) (if b then Some name else gatherer group around)
        by_test true = refl
        by_test false = is

    all_gathering_is : (all : Regulars NodeId) (around : List Name) (o : Option ℕ)
        → o ≡ number_around around
        → all_gathering variables group o all
        ≡ map (λ of. number_around of.1) (items_of_all around all)
    all_gathering_is NoRegular around o is = refl
    all_gathering_is (ARegular first rest) around o is =
        ap₂ (λ (xs ys : List (Option ℕ)). xs ++ ys) (gathering_is first around o is)
        (all_gathering_is rest around o is)
        ∙ sym (map_append (items_of around first) (items_of_all around rest))

places_long : (group at : ℕ) (rows : List (List Move))
    → length (places_of group at rows) ≡ length rows
places_long group at [] = refl
places_long group at (row ∷ rows) =
    ap suc (places_long group (suc (at + before_row group row)) rows)

module _ (variables : List Name) (r : Regular NodeId) (group : List Name) (items : Several) where
  abbrev steps : Steps
  steps = steps_of variables group r items

  -- the nodes after the states
  abbrev between : Nodes
  between = put_rows steps (rows_made r) items.1

  abbrev pub copy_put : (plain : Bool) → Copy
  copy_put plain = record {
    plain = plain;
    group = group;
    items = items.0;
    states = steps.states;
    start = (put_copy variables r group items).0;
  }

  pub copy_is_made : Made items.1 (put_copy variables r group items)
  copy_is_made = made_on items.1 between (put_copy variables r group items)
      (rows_grow steps (rows_made r) items.1) (row_is_made steps (first_moves_row r 0) between)

  pub states_count : length steps.states ≡ length (items_of [] r)
  states_count = places_long (length group) (length items.1) (rows_made r)
      ∙ ap length (states_rows_are r) ∙ length-map (states r 0 (End ∷ [])) once
      ∙ states_long r 0 (End ∷ []) ∙ sym (items_long [] r)

  are_steps : (plain : Bool) → HaveNumbers variables group
      → length items.0 ≡ length (items_of [] r)
      → AreSteps variables (items_of [] r) (copy_put plain) steps
  are_steps plain named long = record {
    group = refl;
    named = named;
    at = λ place of found.
        let within = slice_get_within (items_of [] r) place of found in
        let item = is_there items.0 place
        (subst (λ (count : ℕ). place < count) (sym long) within) in
        let next = is_there steps.states place
        (subst (λ (count : ℕ). place < count) (sym states_count) within) in (
          item.0,
          next.0,
          item.1,
          next.1,
          item.1,
          next.1,
          ap (λ (list : List (Option ℕ)). slice_get list place)
              (gathering_is variables group r [] None refl)
              ∙ slice_get-map (λ (one : ItemOf NodeId). number_around variables group one.1)
              (items_of [] r) place
              ∙ ap (option_map (λ (one : ItemOf NodeId). number_around variables group one.1))
              found,
        );
  }

  pub starts_are_states : starts_of steps (rows_made r) items.1 ≡ steps.states
  starts_are_states = starts_are_places steps (rows_made r) items.1
      ∙ ap (λ (count : ℕ). places_of count (length items.1) (rows_made r))
      (length-map group (numbered variables))

  pub is_copy : (final : Nodes) (plain : Bool) → HaveNumbers variables group
      → length items.0 ≡ length (items_of [] r) → AreDistinct group
      → ((place : ℕ) (of : ItemOf NodeId) (name : Name) → slice_get (items_of [] r) place ≡ Some of
      → is_among group name ≡ true → is_among of.1 name ≡ true → gatherer group of.1 ≡ Some name)
      → Keeps (put_copy variables r group items).1 final
      → IsCopy the_types variables final r (copy_put plain)
  is_copy final plain named long distinct alone keeps = record {
    starts = subst
        (λ (row : List Move). IsState the_types variables final (copy_put plain) (items_of [] r) row
        (put_copy variables r group items).0) (first_moves_row_is r)
        (row_is_state variables final (items_of [] r) (copy_put plain) steps
        (are_steps plain named long) (first_moves_row r 0) between
        (subst (AllOf (LeadsWithin (items_of [] r))) (sym (first_moves_row_is r)) (start_within r))
        keeps);
    goes_on = λ place number h.
        subst (λ (rows : List (List Move)). IsState the_types variables final (copy_put plain)
        (items_of [] r) (unwrap_or (slice_get rows place) []) number) (states_rows_are r)
        (rows_are_states variables final (items_of [] r) (copy_put plain) steps
        (are_steps plain named long) (rows_made r) items.1
        (subst (AllOf (AllOf (LeadsWithin (items_of [] r)))) (sym (states_rows_are r))
        (rows_within r))
        (λ n x there. keeps n x
        ((row_is_made steps (first_moves_row r 0) between).grows.keeps n x there)) place number
        (ap (λ (list : List ℕ). slice_get list place) starts_are_states ∙ h));
    distinct = distinct;
    alone = alone;
  }
