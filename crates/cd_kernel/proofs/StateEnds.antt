-- From each state of an automaton moves lead to the end, where each choice has an alternative.
use Rattle.std.proofs.Common.{◌≡◌, ℕ, zero, suc, ◌+◌, Bool, true, false, List, [], ◌∷◌, ◌++◌, inl}
use Rattle.std.proofs.Common.{inr, map, Some, refl, sym, ap, subst, ◌∙◌}
use Rattle.std.proofs.Common.{if◌then◌else◌, option_map}
use Rattle.std.specs.List.{slice_get}
use Rattle.std.proofs.lemmas.Bool.Decides.{eqb_tells}
use Rattle.std.proofs.lemmas.List.{append_assoc}
use Rattle.std.proofs.lemmas.Option.{none-some, same_Some, slice_get-map}
use Rattle.cd_syntax.specs.declared.type_tree.Post.{Post}
use Rattle.cd_syntax.specs.declared.type_tree.Post.TheVariants as post
use Rattle.cd_model.specs.AllOf.{AnyOf}
use Rattle.cd_matching.specs.Pattern as pattern
use Rattle.cd_matching.specs.Pattern.{Regular, Regulars, NoRegular, ARegular}
use Rattle.cd_moves.specs.Automaton.{Move, End, To, same_move, instead, without_end, without}
use Rattle.cd_moves.specs.Automaton.{once, items_in, turns, first_moves, first_moves_in_turn, first_moves_of_one}
use Rattle.cd_moves.specs.Automaton.{states, states_in_turn, states_of_one}
use Rattle.cd_kernel.specs.Alternatives.{HasAlternative}
use Rattle.cd_kernel.proofs.CompletePatterns.{IsCompleteRegular, AreCompleteRegulars}
use Rattle.cd_kernel.proofs.ItemsByNumber.{get_split}
use Rattle.cd_kernel.proofs.PartsStand.{Stand, stand_whole, first_stands, stand_left, stand_right}
use Rattle.cd_kernel.proofs.PartsStand.{states_long}

instead_both : (a b next : List Move) → instead (a ++ b) next ≡ instead a next ++ instead b next
instead_both [] b next = refl
instead_both (End ∷ a) b next = ap (λ l. next ++ l) (instead_both a b next)
    ∙ sym (append_assoc next (instead a next) (instead b next))
instead_both (To place ∷ a) b next = ap (λ l. To place ∷ l) (instead_both a b next)

instead_twice : (a b c : List Move) → instead (instead a b) c ≡ instead a (instead b c)
instead_twice [] b c = refl
instead_twice (End ∷ a) b c = instead_both b (instead a b) c
    ∙ ap (λ l. instead b c ++ l) (instead_twice a b c)
instead_twice (To place ∷ a) b c = ap (λ l. To place ∷ l) (instead_twice a b c)

abbrev pub IsIn : Move → List Move → Type 0
IsIn move moves = AnyOf (λ other. other ≡ move) moves

in_first : (move : Move) (a b : List Move) → IsIn move a → IsIn move (a ++ b)
in_first move [] b there = absurd there
in_first move (x ∷ a) b (inl same) = inl same
in_first move (x ∷ a) b (inr later) = inr (in_first move a b later)

in_second : (move : Move) (a b : List Move) → IsIn move b → IsIn move (a ++ b)
in_second move [] b h = h
in_second move (x ∷ a) b h = inr (in_second move a b h)

-- some moves lead to the end, where these are the moves after each item
pub data Ending (rows : List (List Move)) : List Move → Type 0 where
  ends : (moves : List Move) → IsIn End moves → Ending rows moves
  goes : (place : ℕ) (row moves : List Move) → IsIn (To place) moves
      → slice_get rows place ≡ Some row → Ending rows row → Ending rows moves

module _ (rows : List (List Move)) where
  end_first : (a b : List Move) → Ending rows a → Ending rows (a ++ b)
  end_first a b (ends _ there) = ends (a ++ b) (in_first End a b there)
  end_first a b (goes place row _ there at on) =
      goes place row (a ++ b) (in_first (To place) a b there) at on

  end_second : (a b : List Move) → Ending rows b → Ending rows (a ++ b)
  end_second a b (ends _ there) = ends (a ++ b) (in_second End a b there)
  end_second a b (goes place row _ there at on) =
      goes place row (a ++ b) (in_second (To place) a b there) at on

  turns_end : (how : Post) (turn next : List Move) → Ending rows next
      → Ending rows (instead (turns how turn) next)
  turns_end post.Star turn next on = subst (Ending rows)
      (sym (instead_both (without_end turn) (End ∷ []) next))
      (end_second (instead (without_end turn) next) (next ++ []) (end_first next [] on))
  turns_end post.LazyStar turn next on = end_first next (instead (without_end turn) next) on
  turns_end post.Plus turn next on = subst (Ending rows)
      (sym (instead_both (without_end turn) (End ∷ []) next))
      (end_second (instead (without_end turn) next) (next ++ []) (end_first next [] on))
  turns_end post.LazyPlus turn next on = end_first next (instead (without_end turn) next) on
  turns_end post.Opt turn next on = end_first next [] on
  turns_end post.LazyOpt turn next on = end_first next [] on

  module _ {T : Type 0} (IsType : T → Type 0) where
    mutual
      pub first_moves_end : (r : Regular T) (before : ℕ) (next : List Move) → IsCompleteRegular IsType r
          → Stand rows before (states r before next) → Ending rows next
          → Ending rows (instead (first_moves r before) next)
      first_moves_end pattern.Nothing before next fits stand on = end_first next [] on
      first_moves_end (pattern.Item p) before next fits stand on = goes before next (To before ∷ [])
          (inl refl)
          (first_stands rows before next [] stand) on
      first_moves_end (pattern.Seq all) before next fits stand on =
          turn_ends all before next fits stand on
      first_moves_end (pattern.Alt all) before next fits stand on =
          one_ends all before next fits.0 fits.1 stand on
      first_moves_end (pattern.Repeat r post.Star) before next fits stand on =
          turns_end post.Star (first_moves r before) next on
      first_moves_end (pattern.Repeat r post.LazyStar) before next fits stand on =
          turns_end post.LazyStar (first_moves r before) next on
      first_moves_end (pattern.Repeat r post.Plus) before next fits stand on = subst (Ending rows)
          (sym (instead_twice (first_moves r before) (turns post.Plus (first_moves r before)) next))
          (first_moves_end r before (instead (turns post.Plus (first_moves r before)) next) fits stand
          (turns_end post.Plus (first_moves r before) next on))
      first_moves_end (pattern.Repeat r post.LazyPlus) before next fits stand on = subst (Ending rows)
          (sym (instead_twice (first_moves r before) (turns post.LazyPlus (first_moves r before)) next))
          (first_moves_end r before (instead (turns post.LazyPlus (first_moves r before)) next) fits stand
          (turns_end post.LazyPlus (first_moves r before) next on))
      first_moves_end (pattern.Repeat r post.Opt) before next fits stand on = subst (Ending rows)
          (sym (instead_both (first_moves r before) (End ∷ []) next))
          (end_second (instead (first_moves r before) next) (next ++ []) (end_first next [] on))
      first_moves_end (pattern.Repeat r post.LazyOpt) before next fits stand on =
          end_first next (instead (first_moves r before) next) on
      first_moves_end (pattern.Capture name r) before next fits stand on =
          first_moves_end r before next fits stand on

      turn_ends : (all : Regulars T) (before : ℕ) (next : List Move)
          → AreCompleteRegulars IsType all → Stand rows before (states_in_turn all before next)
          → Ending rows next → Ending rows (instead (first_moves_in_turn all before) next)
      turn_ends NoRegular before next fits stand on = end_first next [] on
      turn_ends (ARegular first rest) before next fits stand on = subst (Ending rows)
          (sym (instead_twice (first_moves first before) (first_moves_in_turn rest (before + items_in first))
          next))
          (first_moves_end first before
          (instead (first_moves_in_turn rest (before + items_in first)) next) fits.0
          (stand_left rows before _ (states_in_turn rest (before + items_in first) next) stand)
          (turn_ends rest (before + items_in first) next fits.1
          (stand_right rows before _ (states_in_turn rest (before + items_in first) next)
          (items_in first) (states_long first before
          (instead (first_moves_in_turn rest (before + items_in first)) next)) stand) on))

      one_ends : (all : Regulars T) (before : ℕ) (next : List Move) → HasAlternative all
          → AreCompleteRegulars IsType all → Stand rows before (states_of_one all before next)
          → Ending rows next → Ending rows (instead (first_moves_of_one all before) next)
      one_ends NoRegular before next one fits stand on = absurd one
      one_ends (ARegular first rest) before next one fits stand on = subst (Ending rows)
          (sym (instead_both (first_moves first before) (first_moves_of_one rest (before + items_in first))
          next))
          (end_first (instead (first_moves first before) next)
          (instead (first_moves_of_one rest (before + items_in first)) next)
          (first_moves_end first before next fits.0
          (stand_left rows before _ (states_of_one rest (before + items_in first) next) stand) on))

    mutual
      states_end : (r : Regular T) (before : ℕ) (next : List Move) → IsCompleteRegular IsType r
          → Stand rows before (states r before next) → Ending rows next
          → (k : ℕ) (row : List Move) → slice_get (states r before next) k ≡ Some row
          → Ending rows row
      states_end pattern.Nothing before next fits stand on zero row h = absurd (none-some row h)
      states_end pattern.Nothing before next fits stand on (suc k) row h =
          absurd (none-some row h)
      states_end (pattern.Item p) before next fits stand on zero row h =
          subst (Ending rows) (same_Some next row h) on
      states_end (pattern.Item p) before next fits stand on (suc zero) row h =
          absurd (none-some row h)
      states_end (pattern.Item p) before next fits stand on (suc (suc k)) row h =
          absurd (none-some row h)
      states_end (pattern.Seq all) before next fits stand on k row h =
          turn_states_end all before next fits stand on k row h
      states_end (pattern.Alt all) before next fits stand on k row h =
          one_states_end all before next fits.1 stand on k row h
      states_end (pattern.Repeat r how) before next fits stand on k row h =
          states_end r before (instead (turns how (first_moves r before)) next) fits stand
          (turns_end how (first_moves r before) next on) k row h
      states_end (pattern.Capture name r) before next fits stand on k row h =
          states_end r before next fits stand on k row h

      turn_states_end : (all : Regulars T) (before : ℕ) (next : List Move)
          → AreCompleteRegulars IsType all → Stand rows before (states_in_turn all before next)
          → Ending rows next → (k : ℕ) (row : List Move)
          → slice_get (states_in_turn all before next) k ≡ Some row → Ending rows row
      turn_states_end NoRegular before next fits stand on zero row h = absurd (none-some row h)
      turn_states_end NoRegular before next fits stand on (suc k) row h =
          absurd (none-some row h)
      turn_states_end (ARegular first rest) before next fits stand on k row h =
          let stand_rest = stand_right rows before _
          (states_in_turn rest (before + items_in first) next)
          (items_in first)
          (states_long first before
          (instead (first_moves_in_turn rest (before + items_in first)) next)) stand in
          elim (get_split
          (states first before (instead (first_moves_in_turn rest (before + items_in first)) next))
          (states_in_turn rest (before + items_in first) next) k row h) [
            | inl here ↦ states_end first before
                (instead (first_moves_in_turn rest (before + items_in first)) next) fits.0
                (stand_left rows before _ (states_in_turn rest (before + items_in first) next)
                stand)
                (turn_ends rest (before + items_in first) next fits.1 stand_rest on) k row here
            | inr (j, same, there) ↦ turn_states_end rest (before + items_in first) next fits.1
                stand_rest on j row there
          ]

      one_states_end : (all : Regulars T) (before : ℕ) (next : List Move)
          → AreCompleteRegulars IsType all → Stand rows before (states_of_one all before next)
          → Ending rows next → (k : ℕ) (row : List Move)
          → slice_get (states_of_one all before next) k ≡ Some row → Ending rows row
      one_states_end NoRegular before next fits stand on zero row h = absurd (none-some row h)
      one_states_end NoRegular before next fits stand on (suc k) row h = absurd (none-some row h)
      one_states_end (ARegular first rest) before next fits stand on k row h =
          elim (get_split (states first before next)
          (states_of_one rest (before + items_in first) next) k row h) [
            | inl here ↦ states_end first before next fits.0
                (stand_left rows before _ (states_of_one rest (before + items_in first) next) stand)
                on k row here
            | inr (j, same, there) ↦ one_states_end rest (before + items_in first) next fits.1
                (stand_right rows before _ (states_of_one rest (before + items_in first) next)
                (items_in first) (states_long first before next) stand) on j row there
          ]

-- each move once
without_keeps : (move other : Move) (moves : List Move) → (same_move other move ≡ true → ⊥)
    → IsIn move moves → IsIn move (without other moves)
without_keeps move other [] differs h = absurd h
without_keeps move other (x ∷ moves) differs h =
    by_test (same_move other x) refl (without_keeps move other moves differs) h
  where
    by_test : (b : Bool) → same_move other x ≡ b
        → (IsIn move moves → IsIn move (without other moves))
        → IsIn move (x ∷ moves)
        → IsIn move (if b then without other moves else x ∷ without other moves)
    by_test true is on (inl same) =
        absurd (differs (ap (same_move other) (sym same) ∙ is))
    by_test true is on (inr later) = on later
    by_test false is on (inl same) = inl same
    by_test false is on (inr later) = inr (on later)

moves_same : (a b : Move) → (same_move a b ≡ true → a ≡ b)
moves_same End End h = refl
moves_same End (To place) h = absurd cc
moves_same (To place) End h = absurd cc
moves_same (To one) (To other) h = elim (eqb_tells one other) [
  | inl same ↦ ap To same.1
  | inr differs ↦ absurd cc
]

pub in_once : (move : Move) (moves : List Move) → IsIn move moves → IsIn move (once moves)
in_once move [] there = absurd there
in_once move (x ∷ moves) (inl same) = inl same
in_once move (x ∷ moves) (inr later) = by_test (same_move x move) refl (in_once move moves later)
  where
    by_test : (b : Bool) → same_move x move ≡ b → IsIn move (once moves)
        → IsIn move (x ∷ without x (once moves))
    by_test true is there = inl (moves_same x move is)
    by_test false is there =
        inr (without_keeps move x (once moves) (λ same. absurd cc) there)

pub get_mapped : {A B : Type 0} (f : A → B) (xs : List A) (k : ℕ) (y : B)
    → slice_get (map f xs) k ≡ Some y → (x : A) × (slice_get xs k ≡ Some x) × (f x ≡ y)
get_mapped f [] zero y h = absurd (none-some y h)
get_mapped f [] (suc k) y h = absurd (none-some y h)
get_mapped f (x ∷ xs) zero y h = (x, refl, same_Some (f x) y h)
get_mapped f (x ∷ xs) (suc k) y h = get_mapped f xs k y h

once_ends : (rows : List (List Move)) (moves : List Move) → Ending rows moves
    → Ending (map once rows) (once moves)
once_ends rows _ (ends moves there) = ends (once moves) (in_once End moves there)
once_ends rows _ (goes place row moves there at on) =
    goes place (once row) (once moves) (in_once (To place) moves there)
    (slice_get-map once rows place ∙ ap (option_map once) at) (once_ends rows row on)

module _ {T : Type 0} (IsType : T → Type 0) (r : Regular T) (fits : IsCompleteRegular IsType r)
  where
    abbrev all_rows : List (List Move)
    all_rows = states r 0 (End ∷ [])

    end_now : Ending all_rows (End ∷ [])
    end_now = ends (End ∷ []) (inl refl)

    end_again : (moves : List Move) → instead moves (End ∷ []) ≡ moves
    end_again [] = refl
    end_again (End ∷ moves) = ap (λ l. End ∷ l) (end_again moves)
    end_again (To place ∷ moves) = ap (λ l. To place ∷ l) (end_again moves)

    pub start_ends : Ending (map once all_rows) (once (first_moves r 0))
    start_ends = once_ends all_rows (first_moves r 0) (subst (Ending all_rows) (end_again (first_moves r 0))
        (first_moves_end all_rows IsType r 0 (End ∷ []) fits (stand_whole all_rows) end_now))

    pub row_ends : (place : ℕ) (row : List Move) → slice_get (map once all_rows) place ≡ Some row
        → Ending (map once all_rows) row
    row_ends place row h = let found = get_mapped once all_rows place row h in
        subst (Ending (map once all_rows)) found.2 (once_ends all_rows found.0
        (states_end all_rows IsType r 0 (End ∷ []) fits (stand_whole all_rows) end_now place found.0
        found.1))
