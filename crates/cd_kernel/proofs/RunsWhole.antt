-- The automaton of an expression runs as the first of its ways that leaves nothing.
use Rattle.std.proofs.Common.{◌≡◌, Bool, List, [], ◌∷◌, map, Some, refl, sym, ap, ◌∙◌}
use Rattle.std.proofs.lemmas.List.{append-nil}
use Rattle.cd_model.specs.Thing.{Thing}
use Rattle.cd_matching.specs.Captures.{or_else}
use Rattle.cd_matching.specs.Naming.{GathersDisjoint}
use Rattle.cd_matching.specs.Pattern.{Regular}
use Rattle.cd_matching.specs.Take.{ways}
use Rattle.cd_matching.specs.Ways.{Way, still, followed, if_whole, first_whole}
use Rattle.cd_moves.specs.Automaton.{End, once, first_moves, states, items_of}
use Rattle.cd_moves.specs.Automaton.{run_whole}
use Rattle.cd_kernel.specs.Inner.WaysIn.{ways_in}
use Rattle.cd_kernel.proofs.OrElse.{or_else_none}
use Rattle.cd_kernel.proofs.FirstWays.{after, onward, first_on, first_same}
use Rattle.cd_kernel.proofs.PartsStand.{stand_whole}
use Rattle.cd_kernel.proofs.MovesRun.{nothing_left, run_moves, goes_to}
use Rattle.cd_kernel.proofs.MovesOnce.{once_runs, rows_once}
use Rattle.cd_kernel.proofs.RunsAsWays.{regular_runs}
use Rattle.cd_kernel.proofs.GathersAtOnce.{at_once}

ends_whole : (way : Way) → way.rest ≡ [] → followed way (still []) ≡ way
ends_whole way none = λ i. record {
  taken = append-nil way.taken i;
  rest = sym none i;
  plain = λ name. or_else_none (way.plain name) i;
  gathered = λ name. append-nil (way.gathered name) i;
}

first_is_whole : (ways : List Way) → first_on nothing_left nothing_left ways ≡ first_whole ways
first_is_whole [] = refl
first_is_whole (way ∷ ways) =
    by_taken way.taken ∙ by_rest way.rest refl (first_is_whole ways)
  where
    by_taken : (taken : List Thing)
        → or_else (onward nothing_left nothing_left way taken)
        (first_on nothing_left nothing_left ways)
        ≡ or_else (after way (nothing_left way.rest)) (first_on nothing_left nothing_left ways)
    by_taken [] = refl
    by_taken (d ∷ taken) = refl

    by_rest : (rest : List Thing) → way.rest ≡ rest
        → first_on nothing_left nothing_left ways ≡ first_whole ways
        → or_else (after way (nothing_left rest)) (first_on nothing_left nothing_left ways)
        ≡ if_whole way rest (first_whole ways)
    by_rest [] none further = ap Some (ends_whole way none)
    by_rest (d ∷ rest) some further = further

module _ (T : Type 0) (test : T → Thing → Bool) (r : Regular T) where
  -- where each item goes at once to the variables around it
  runs_at_once : (things : List Thing)
      → run_whole T test r things ≡ first_whole (ways_in T test [] r things)
  runs_at_once things =
      let items = items_of [] r in let rows = states r 0 (End ∷ []) in
      once_runs T test items (map once rows) things (first_moves r 0)
      ∙ rows_once T test items rows things (first_moves r 0)
      ∙ run_moves T test items rows things (first_moves r 0)
      ∙ regular_runs T test items rows [] r 0 (End ∷ []) (stand_whole items) (stand_whole rows)
      nothing_left things
      ∙ first_same nothing_left nothing_left (goes_to T test items rows (End ∷ [])) nothing_left
      (λ rest. refl) (λ rest. or_else_none (nothing_left rest)) (ways_in T test [] r things)
      ∙ first_is_whole (ways_in T test [] r things)

  pub runs_first : (things : List Thing) → GathersDisjoint [] r
      → run_whole T test r things ≡ first_whole (ways T test r things)
  runs_first things apart =
      runs_at_once things ∙ ap first_whole (at_once T test r apart things)
