-- The plain variables that are bound from each state of an automaton on. Each of its moves binds
-- the same ones, each by its item or after it and not by both; the end binds none.
use Rattle.std.proofs.Common.{◌≡◌, ℕ, zero, suc, ◌+◌, Bool, true, false, ◌||◌, List, [], ◌∷◌, ◌++◌}
use Rattle.std.proofs.Common.{inl, inr, length, Some, refl, sym, ap, ap₂, subst, ◌∙◌}
use Rattle.std.proofs.Common.{if◌then◌else◌, arith, length-append}
use Rattle.std.specs.List.{slice_get}
use Rattle.std.proofs.lemmas.Bool.{true≢false, or_left}
use Rattle.std.proofs.lemmas.Option.{none-some, same_Some}
use Rattle.cd_syntax.specs.Name.{Name}
use Rattle.cd_syntax.specs.declared.type_tree.Post.{Post}
use Rattle.cd_syntax.specs.declared.type_tree.Post.TheVariants as post
use Rattle.cd_model.specs.AllOf.{AllOf}
use Rattle.cd_matching.specs.Naming.{AreDisjointNames, AreSame, IsNamedRegular, AreNamedInTurn}
use Rattle.cd_matching.specs.Naming.{AreNamedEither, AreNamedLike}
use Rattle.cd_matching.specs.Pattern as pattern
use Rattle.cd_matching.specs.Pattern.{Pattern, Regular, Regulars, NoRegular, ARegular}
use Rattle.cd_matching.specs.Variables.{binds, is_plain, one_is_plain}
use Rattle.cd_moves.specs.Automaton.{Move, End, To, same_move, instead, without_end, without}
use Rattle.cd_moves.specs.Automaton.{once, items_in, items_in_all, turns, first_turn, first_moves}
use Rattle.cd_moves.specs.Automaton.{first_moves_in_turn, first_moves_of_one, states, states_in_turn}
use Rattle.cd_moves.specs.Automaton.{states_of_one, ItemOf, items_of, items_of_all, rows_of}
use Rattle.cd_kernel.proofs.ItemsByNumber.{get_split}
use Rattle.cd_kernel.proofs.PartsStand.{Stand, stand_whole, first_stands, stand_left, stand_right}
use Rattle.cd_kernel.proofs.PartsStand.{items_long, states_long}
use Rattle.cd_kernel.proofs.StateEnds.{get_mapped}

-- the plain variables after each item, where these come after the whole expression
abbrev pub Names : Type 0
Names = Name → Bool

abbrev pub either : Names → Names → Names
either one other name = one name || other name

abbrev pub none : Names
none name = false

abbrev mutual
  pub afters : {T : Type 0} → Regular T → Names → List Names
  afters pattern.Nothing after = []
  afters (pattern.Item p) after = after ∷ []
  afters (pattern.Seq all) after = afters_in_turn all after
  afters (pattern.Alt all) after = afters_of_one all after
  afters (pattern.Repeat r how) after = afters r after
  afters (pattern.Capture name r) after = afters r after

  pub afters_in_turn : {T : Type 0} → Regulars T → Names → List Names
  afters_in_turn NoRegular after = []
  afters_in_turn (ARegular first rest) after =
      afters first (either (one_is_plain rest) after) ++ afters_in_turn rest after

  pub afters_of_one : {T : Type 0} → Regulars T → Names → List Names
  afters_of_one NoRegular after = []
  afters_of_one (ARegular first rest) after = afters first after ++ afters_of_one rest after

mutual
  afters_long : {T : Type 0} (r : Regular T) (after : Names) → length (afters r after) ≡ items_in r
  afters_long pattern.Nothing after = refl
  afters_long (pattern.Item p) after = refl
  afters_long (pattern.Seq all) after = turn_long all after
  afters_long (pattern.Alt all) after = one_long all after
  afters_long (pattern.Repeat r how) after = afters_long r after
  afters_long (pattern.Capture name r) after = afters_long r after

  turn_long : {T : Type 0} (all : Regulars T) (after : Names)
      → length (afters_in_turn all after) ≡ items_in_all all
  turn_long NoRegular after = refl
  turn_long (ARegular first rest) after =
      length-append (afters first (either (one_is_plain rest) after)) (afters_in_turn rest after)
      ∙ ap₂ (λ a b. a + b) (afters_long first (either (one_is_plain rest) after))
      (turn_long rest after)

  one_long : {T : Type 0} (all : Regulars T) (after : Names)
      → length (afters_of_one all after) ≡ items_in_all all
  one_long NoRegular after = refl
  one_long (ARegular first rest) after =
      length-append (afters first after) (afters_of_one rest after)
      ∙ ap₂ (λ a b. a + b) (afters_long first after) (one_long rest after)

either_none : (a b : Bool) → a ≡ false → (a || b) ≡ b
either_none true b h = absurd (true≢false h)
either_none false b h = refl

either_assoc : (a b c : Bool) → ((a || b) || c) ≡ (a || (b || c))
either_assoc true b c = refl
either_assoc false b c = refl

disjoint_part : (whole part other : Names) → ((name : Name) → part name ≡ true → whole name ≡ true)
    → AreDisjointNames whole other → AreDisjointNames part other
disjoint_part whole part other within apart name h = apart name (within name h)

-- no alternative has plain variables that another has not
like_first : {T : Type 0} (plain : Names) (all : Regulars T) → AreNamedLike plain all
    → (name : Name) → (plain name || one_is_plain all name) ≡ plain name
like_first plain NoRegular alike name = or_false (plain name)
  where
    or_false : (b : Bool) → (b || false) ≡ b
    or_false true = refl
    or_false false = refl
like_first plain (ARegular first rest) alike name =
    by_case (plain name) (alike.0 name) (like_first plain rest alike.2 name)
  where
    by_case : (b : Bool) → is_plain first name ≡ b → (b || one_is_plain rest name) ≡ b
        → (b || (is_plain first name || one_is_plain rest name)) ≡ b
    by_case true same on = refl
    by_case false same on = ap (λ (t : Bool). t || one_is_plain rest name) same ∙ on

module _ {T : Type 0} (items : List (ItemOf T)) (all_afters : List Names) where
  -- a move binds these variables, where those come after the end
  abbrev pub FitsMove : (bound after : Names) → Move → Type 0
  FitsMove bound after End = AreSame bound after
  FitsMove bound after (To place) = (of : ItemOf T) × (later : Names)
      × (slice_get items place ≡ Some of) × (slice_get all_afters place ≡ Some later)
      × AreDisjointNames (binds of.0) later × AreSame bound (either (binds of.0) later)

  abbrev pub Fits : (bound after : Names) → List Move → Type 0
  Fits bound after = AllOf (FitsMove bound after)

  fits_same : (bound same after : Names) (moves : List Move) → AreSame same bound
      → Fits bound after moves → Fits same after moves
  fits_same bound same after [] is fits = tt
  fits_same bound same after (End ∷ moves) is fits =
      (λ name. is name ∙ fits.0 name, fits_same bound same after moves is fits.1)
  fits_same bound same after (To place ∷ moves) is ((of, later, a, b, apart, both), fits) = (
    (of, later, a, b, apart, λ name. is name ∙ both name),
    fits_same bound same after moves is fits,
  )

  fits_both : (bound after : Names) (a b : List Move) → Fits bound after a → Fits bound after b
      → Fits bound after (a ++ b)
  fits_both bound after [] b one other = other
  fits_both bound after (move ∷ a) b one other = (one.0, fits_both bound after a b one.1 other)

  fits_instead : (bound after last : Names) (moves next : List Move) → Fits bound after moves
      → Fits after last next → Fits bound last (instead moves next)
  fits_instead bound after last [] next fits on = tt
  fits_instead bound after last (End ∷ moves) next fits on =
      fits_both bound last next (instead moves next)
      (fits_same after bound last next fits.0 on)
      (fits_instead bound after last moves next fits.1 on)
  fits_instead bound after last (To place ∷ moves) next fits on =
      (fits.0, fits_instead bound after last moves next fits.1 on)

  -- a repeat, whose parts bind nothing
  fits_turns : (how : Post) (bound after : Names) (turn : List Move) → AreSame bound after
      → Fits bound after turn → Fits after after (turns how turn)
  fits_turns how bound after turn same fits =
      by_post how (fits_instead after after after turn []
      (fits_same bound after after turn (λ name. sym (same name)) fits) tt)
    where
      by_post : (how : Post) → Fits after after (without_end turn)
          → Fits after after (turns how turn)
      by_post post.Star on =
          fits_both after after (without_end turn) (End ∷ []) on ((λ name. refl), tt)
      by_post post.LazyStar on = ((λ name. refl), on)
      by_post post.Plus on =
          fits_both after after (without_end turn) (End ∷ []) on ((λ name. refl), tt)
      by_post post.LazyPlus on = ((λ name. refl), on)
      by_post post.Opt on = ((λ name. refl), tt)
      by_post post.LazyOpt on = ((λ name. refl), tt)

  fits_first_turn : (how : Post) (bound after : Names) (turn : List Move) → AreSame bound after
      → Fits bound after turn → Fits bound after (first_turn how turn)
  fits_first_turn post.Star bound after turn same fits =
      fits_same after bound after (first_turn post.Star turn) same
      (fits_turns post.Star bound after turn same fits)
  fits_first_turn post.LazyStar bound after turn same fits =
      fits_same after bound after (first_turn post.LazyStar turn) same
      (fits_turns post.LazyStar bound after turn same fits)
  fits_first_turn post.Plus bound after turn same fits =
      fits_instead bound after after turn (turns post.Plus turn) fits
      (fits_turns post.Plus bound after turn same fits)
  fits_first_turn post.LazyPlus bound after turn same fits =
      fits_instead bound after after turn (turns post.LazyPlus turn) fits
      (fits_turns post.LazyPlus bound after turn same fits)
  fits_first_turn post.Opt bound after turn same fits =
      fits_both bound after turn (End ∷ []) fits (same, tt)
  fits_first_turn post.LazyOpt bound after turn same fits = (same, fits)

  -- an expression whose items and what comes after them stand in the tables
  abbrev StandsAt : List Name → Regular T → ℕ → Names → Type 0
  StandsAt around r before after =
      Stand items before (items_of around r) × Stand all_afters before (afters r after)

  abbrev StandInTurn : List Name → Regulars T → ℕ → Names → Type 0
  StandInTurn around all before after =
      Stand items before (items_of_all around all)
      × Stand all_afters before (afters_in_turn all after)

  abbrev StandOfOne : List Name → Regulars T → ℕ → Names → Type 0
  StandOfOne around all before after =
      Stand items before (items_of_all around all)
      × Stand all_afters before (afters_of_one all after)

  turn_first : (around : List Name) (first : Regular T) (rest : Regulars T) (before : ℕ)
      (after : Names) → StandInTurn around (ARegular first rest) before after
      → StandsAt around first before (either (one_is_plain rest) after)
  turn_first around first rest before after stand = (
    stand_left items before (items_of around first) (items_of_all around rest) stand.0,
    stand_left all_afters before (afters first (either (one_is_plain rest) after))
        (afters_in_turn rest after) stand.1,
  )

  turn_rest : (around : List Name) (first : Regular T) (rest : Regulars T) (before : ℕ)
      (after : Names) → StandInTurn around (ARegular first rest) before after
      → StandInTurn around rest (before + items_in first) after
  turn_rest around first rest before after stand = (
    stand_right items before (items_of around first) (items_of_all around rest) (items_in first)
        (items_long around first) stand.0,
    stand_right all_afters before (afters first (either (one_is_plain rest) after))
        (afters_in_turn rest after) (items_in first)
        (afters_long first (either (one_is_plain rest) after)) stand.1,
  )

  one_first : (around : List Name) (first : Regular T) (rest : Regulars T) (before : ℕ)
      (after : Names) → StandOfOne around (ARegular first rest) before after
      → StandsAt around first before after
  one_first around first rest before after stand = (
    stand_left items before (items_of around first) (items_of_all around rest) stand.0,
    stand_left all_afters before (afters first after) (afters_of_one rest after) stand.1,
  )

  one_rest : (around : List Name) (first : Regular T) (rest : Regulars T) (before : ℕ)
      (after : Names) → StandOfOne around (ARegular first rest) before after
      → StandOfOne around rest (before + items_in first) after
  one_rest around first rest before after stand = (
    stand_right items before (items_of around first) (items_of_all around rest) (items_in first)
        (items_long around first) stand.0,
    stand_right all_afters before (afters first after) (afters_of_one rest after)
        (items_in first) (afters_long first after) stand.1,
  )

  -- apart from what comes after
  turn_disjoint : (first : Regular T) (rest : Regulars T) (after : Names)
      → AreDisjointNames (is_plain first) (one_is_plain rest)
      → AreDisjointNames (one_is_plain (ARegular first rest)) after
      → AreDisjointNames (is_plain first) (either (one_is_plain rest) after)
  turn_disjoint first rest after one other name h =
      ap₂ (λ (a b : Bool). a || b) (one name h)
      (other name (or_left (is_plain first name) (one_is_plain rest name) h))

  rest_apart : (first : Regular T) (rest : Regulars T) (after : Names)
      → AreDisjointNames (one_is_plain (ARegular first rest)) after → AreDisjointNames (one_is_plain rest) after
  rest_apart first rest after apart name h = apart name (by_first (is_plain first name))
    where
      by_first : (b : Bool) → (b || one_is_plain rest name) ≡ true
      by_first true = refl
      by_first false = h

  like_same : (plain : Names) (first : Regular T) (after : Names) → AreSame (is_plain first) plain
      → AreSame (either plain after) (either (is_plain first) after)
  like_same plain first after same name = ap (λ (t : Bool). t || after name) (sym (same name))

  like_disjoint : (plain : Names) (first : Regular T) (after : Names)
      → AreSame (is_plain first) plain → AreDisjointNames plain after → AreDisjointNames (is_plain first) after
  like_disjoint plain first after same apart name h = apart name (sym (same name) ∙ h)

  mutual
    first_moves_fit : (around : List Name) (r : Regular T) (before : ℕ) (after : Names)
        → IsNamedRegular r → StandsAt around r before after → AreDisjointNames (is_plain r) after
        → Fits (either (is_plain r) after) after (first_moves r before)
    first_moves_fit around pattern.Nothing before after named stand apart = ((λ name. refl), tt)
    first_moves_fit around (pattern.Item p) before after named stand apart = (
      (
        (p, around),
        after,
        first_stands items before (p, around) [] stand.0,
        first_stands all_afters before after [] stand.1,
        apart,
        λ name. refl,
      ),
      tt,
    )
    first_moves_fit around (pattern.Seq all) before after named stand apart =
        turn_fits around all before after named stand apart
    first_moves_fit around (pattern.Alt all) before after named stand apart =
        one_fits around all before after named stand apart
    first_moves_fit around (pattern.Repeat r how) before after named stand apart =
        fits_first_turn how (either (is_plain r) after) after (first_moves r before)
        (λ name. either_none (is_plain r name) (after name) (named.0 name))
        (first_moves_fit around r before after named.1 stand apart)
    first_moves_fit around (pattern.Capture name r) before after named stand apart =
        first_moves_fit (name ∷ around) r before after named stand apart

    turn_fits : (around : List Name) (all : Regulars T) (before : ℕ) (after : Names)
        → AreNamedInTurn all → StandInTurn around all before after
        → AreDisjointNames (one_is_plain all) after
        → Fits (either (one_is_plain all) after) after (first_moves_in_turn all before)
    turn_fits around NoRegular before after named stand apart = ((λ name. refl), tt)
    turn_fits around (ARegular first rest) before after named stand apart =
        fits_same (either (is_plain first) (either (one_is_plain rest) after))
        (either (one_is_plain (ARegular first rest)) after) after
        (first_moves_in_turn (ARegular first rest) before)
        (λ name. either_assoc (is_plain first name) (one_is_plain rest name) (after name))
        (fits_instead (either (is_plain first) (either (one_is_plain rest) after))
        (either (one_is_plain rest) after) after (first_moves first before)
        (first_moves_in_turn rest (before + items_in first))
        (first_moves_fit around first before (either (one_is_plain rest) after) named.1
        (turn_first around first rest before after stand)
        (turn_disjoint first rest after named.0 apart))
        (turn_fits around rest (before + items_in first) after named.2
        (turn_rest around first rest before after stand) (rest_apart first rest after apart)))

    one_fits : (around : List Name) (all : Regulars T) (before : ℕ) (after : Names)
        → AreNamedEither all → StandOfOne around all before after
        → AreDisjointNames (one_is_plain all) after
        → Fits (either (one_is_plain all) after) after (first_moves_of_one all before)
    one_fits around NoRegular before after named stand apart = tt
    one_fits around (ARegular first rest) before after named stand apart =
        let first_disjoint = disjoint_part (one_is_plain (ARegular first rest)) (is_plain first) after
        (λ name h. or_left (is_plain first name) (one_is_plain rest name) h) apart in
        fits_same (either (is_plain first) after)
        (either (one_is_plain (ARegular first rest)) after) after
        (first_moves_of_one (ARegular first rest) before)
        (λ name. ap (λ (t : Bool). t || after name) (like_first (is_plain first) rest named.1 name))
        (fits_both (either (is_plain first) after) after (first_moves first before)
        (first_moves_of_one rest (before + items_in first))
        (first_moves_fit around first before after named.0
        (one_first around first rest before after stand) first_disjoint)
        (like_fits around (is_plain first) rest (before + items_in first) after named.1
        (one_rest around first rest before after stand) first_disjoint))

    like_fits : (around : List Name) (plain : Names) (all : Regulars T) (before : ℕ)
        (after : Names) → AreNamedLike plain all → StandOfOne around all before after
        → AreDisjointNames plain after → Fits (either plain after) after (first_moves_of_one all before)
    like_fits around plain NoRegular before after named stand apart = tt
    like_fits around plain (ARegular first rest) before after named stand apart =
        fits_both (either plain after) after (first_moves first before)
        (first_moves_of_one rest (before + items_in first))
        (fits_same (either (is_plain first) after) (either plain after) after
        (first_moves first before) (like_same plain first after named.0)
        (first_moves_fit around first before after named.1
        (one_first around first rest before after stand)
        (like_disjoint plain first after named.0 apart)))
        (like_fits around plain rest (before + items_in first) after named.2
        (one_rest around first rest before after stand) apart)

  -- each row
  abbrev RowFits : Names → ℕ → List Move → Type 0
  RowFits last place row = (later : Names) × (slice_get all_afters place ≡ Some later)
      × Fits later last row

  abbrev RowsFit : Names → ℕ → List (List Move) → Type 0
  RowsFit last before rows = (k : ℕ) (row : List Move) → slice_get rows k ≡ Some row
      → RowFits last (before + k) row

  no_rows : (last : Names) (before : ℕ) → RowsFit last before []
  no_rows last before zero row h = absurd (none-some row h)
  no_rows last before (suc k) row h = absurd (none-some row h)

  one_row : (last after : Names) (before : ℕ) (next : List Move)
      → slice_get all_afters before ≡ Some after → Fits after last next
      → RowsFit last before (next ∷ [])
  one_row last after before next there fits zero row h =
      subst (RowFits last (before + 0)) (same_Some next row h)
      (after, subst (λ n. slice_get all_afters n ≡ Some after) (no_more before) there, fits)
    where
      no_more : (n : ℕ) → n ≡ n + 0
      no_more n = omega arith
  one_row last after before next there fits (suc zero) row h = absurd (none-some row h)
  one_row last after before next there fits (suc (suc k)) row h = absurd (none-some row h)

  both_rows : (last : Names) (before count : ℕ) (a b : List (List Move)) → length a ≡ count
      → RowsFit last before a → RowsFit last (before + count) b → RowsFit last before (a ++ b)
  both_rows last before count a b long one other k row h = elim (get_split a b k row h) [
    | inl here ↦ one k row here
    | inr (j, same, there) ↦
        subst (λ n. RowFits last n row) (regroup before count (length a) j k long same)
        (other j row there)
  ]
    where
      regroup : (before count l j k : ℕ) → l ≡ count → k ≡ l + j → before + count + j ≡ before + k
      regroup before count l j k long same = omega (arith, long, same)

  mutual
    states_fit : (around : List Name) (r : Regular T) (before : ℕ) (after last : Names)
        (next : List Move) → IsNamedRegular r → StandsAt around r before after
        → AreDisjointNames (is_plain r) after → Fits after last next
        → RowsFit last before (states r before next)
    states_fit around pattern.Nothing before after last next named stand apart on =
        no_rows last before
    states_fit around (pattern.Item p) before after last next named stand apart on =
        one_row last after before next (first_stands all_afters before after [] stand.1) on
    states_fit around (pattern.Seq all) before after last next named stand apart on =
        turn_states_fit around all before after last next named stand apart on
    states_fit around (pattern.Alt all) before after last next named stand apart on =
        one_states_fit around all before after last next named stand apart on
    states_fit around (pattern.Repeat r how) before after last next named stand apart on =
        states_fit around r before after last (instead (turns how (first_moves r before)) next) named.1
        stand apart (fits_instead after after last (turns how (first_moves r before)) next
        (fits_turns how (either (is_plain r) after) after (first_moves r before)
        (λ name. either_none (is_plain r name) (after name) (named.0 name))
        (first_moves_fit around r before after named.1 stand apart)) on)
    states_fit around (pattern.Capture name r) before after last next named stand apart on =
        states_fit (name ∷ around) r before after last next named stand apart on

    turn_states_fit : (around : List Name) (all : Regulars T) (before : ℕ) (after last : Names)
        (next : List Move) → AreNamedInTurn all → StandInTurn around all before after
        → AreDisjointNames (one_is_plain all) after → Fits after last next
        → RowsFit last before (states_in_turn all before next)
    turn_states_fit around NoRegular before after last next named stand apart on =
        no_rows last before
    turn_states_fit around (ARegular first rest) before after last next named stand apart on =
        let stand_rest = turn_rest around first rest before after stand in
        let disjoint_rest = rest_apart first rest after apart in
        both_rows last before (items_in first)
        (states first before (instead (first_moves_in_turn rest (before + items_in first)) next))
        (states_in_turn rest (before + items_in first) next)
        (states_long first before (instead (first_moves_in_turn rest (before + items_in first)) next))
        (states_fit around first before (either (one_is_plain rest) after) last
        (instead (first_moves_in_turn rest (before + items_in first)) next) named.1
        (turn_first around first rest before after stand)
        (turn_disjoint first rest after named.0 apart)
        (fits_instead (either (one_is_plain rest) after) after last
        (first_moves_in_turn rest (before + items_in first)) next
        (turn_fits around rest (before + items_in first) after named.2 stand_rest disjoint_rest) on))
        (turn_states_fit around rest (before + items_in first) after last next named.2 stand_rest
        disjoint_rest on)

    one_states_fit : (around : List Name) (all : Regulars T) (before : ℕ) (after last : Names)
        (next : List Move) → AreNamedEither all → StandOfOne around all before after
        → AreDisjointNames (one_is_plain all) after → Fits after last next
        → RowsFit last before (states_of_one all before next)
    one_states_fit around NoRegular before after last next named stand apart on =
        no_rows last before
    one_states_fit around (ARegular first rest) before after last next named stand apart on =
        let first_disjoint = disjoint_part (one_is_plain (ARegular first rest)) (is_plain first) after
        (λ name h. or_left (is_plain first name) (one_is_plain rest name) h) apart in
        both_rows last before (items_in first) (states first before next)
        (states_of_one rest (before + items_in first) next) (states_long first before next)
        (states_fit around first before after last next named.0
        (one_first around first rest before after stand) first_disjoint on)
        (like_states_fit around (is_plain first) rest (before + items_in first) after last next
        named.1 (one_rest around first rest before after stand) first_disjoint on)

    like_states_fit : (around : List Name) (plain : Names) (all : Regulars T) (before : ℕ)
        (after last : Names) (next : List Move) → AreNamedLike plain all
        → StandOfOne around all before after → AreDisjointNames plain after → Fits after last next
        → RowsFit last before (states_of_one all before next)
    like_states_fit around plain NoRegular before after last next named stand apart on =
        no_rows last before
    like_states_fit around plain (ARegular first rest) before after last next named stand apart
        on =
        both_rows last before (items_in first) (states first before next)
        (states_of_one rest (before + items_in first) next) (states_long first before next)
        (states_fit around first before after last next named.1
        (one_first around first rest before after stand)
        (like_disjoint plain first after named.0 apart) on)
        (like_states_fit around plain rest (before + items_in first) after last next named.2
        (one_rest around first rest before after stand) apart on)

-- each move once
module _ (P : Move → Type 0) where
  all_without : (move : Move) (moves : List Move) → AllOf P moves → AllOf P (without move moves)
  all_without move [] all = tt
  all_without move (other ∷ moves) all =
      by_test (same_move move other) (all_without move moves all.1)
    where
      by_test : (b : Bool) → AllOf P (without move moves)
          → AllOf P (if b then without move moves else other ∷ without move moves)
      by_test true on = on
      by_test false on = (all.0, on)

  pub all_once : (moves : List Move) → AllOf P moves → AllOf P (once moves)
  all_once [] all = tt
  all_once (move ∷ moves) all =
      (all.0, all_without move (once moves) (all_once moves all.1))

-- from these moves on these plain variables of an expression are bound
abbrev pub BindsBy : {T : Type 0} → Regular T → Names → Move → Type 0
BindsBy r bound = FitsMove (items_of [] r) (afters r none) bound none

abbrev pub BindsFrom : {T : Type 0} → Regular T → Names → List Move → Type 0
BindsFrom r bound = AllOf (BindsBy r bound)

module _ {T : Type 0} (r : Regular T) (named : IsNamedRegular r) where
  stand : StandsAt (items_of [] r) (afters r none) [] r 0 none
  stand = (stand_whole (items_of [] r), stand_whole (afters r none))

  apart : AreDisjointNames (is_plain r) none
  apart name h = refl

  or_false : (b : Bool) → b ≡ (b || false)
  or_false true = refl
  or_false false = refl

  pub start_binds : BindsFrom r (is_plain r) (once (first_moves r 0))
  start_binds = all_once (BindsBy r (is_plain r)) (first_moves r 0)
      (fits_same (items_of [] r) (afters r none) (either (is_plain r) none) (is_plain r) none
      (first_moves r 0) (λ name. or_false (is_plain r name))
      (first_moves_fit (items_of [] r) (afters r none) [] r 0 none named stand apart))

  pub row_binds : (place : ℕ) (row : List Move) → slice_get (rows_of r) place ≡ Some row
      → (later : Names) × (slice_get (afters r none) place ≡ Some later) × BindsFrom r later row
  row_binds place row h =
      let found = get_mapped once (states r 0 (End ∷ [])) place row h in
      let fits = states_fit (items_of [] r) (afters r none) [] r 0 none none (End ∷ []) named stand
      apart ((λ name. refl), tt) place found.0 found.1 in (
        fits.0,
        subst (λ n. slice_get (afters r none) n ≡ Some fits.0) (none_before place) fits.1,
        subst (BindsFrom r fits.0) found.2
            (all_once (BindsBy r fits.0) found.0 fits.2),
      )
    where
      none_before : (k : ℕ) → 0 + k ≡ k
      none_before k = omega arith
