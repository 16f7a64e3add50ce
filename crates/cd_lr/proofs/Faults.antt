-- Where a token is refused, or is too deep, nothing goes on.
use Rattle.std.proofs.Common.{◌≡◌, ℕ, List, [], ◌∷◌, ◌++◌, sym, ap, subst, ◌∙◌, append_assoc, append-nil, arith}
use Rattle.std.specs.Prelude.{◌≤◌}
use Rattle.cd_lr.specs.Grammar.{Symbol, Terminal, Grammar, one, Whole}
use Rattle.cd_lr.specs.Automaton.{Shift, Automaton, Cell, Config, Wrong, TooDeep, state_of, room_of, step, begin, Reaches}
use Rattle.cd_lr.specs.Valid.{Items, Firsts, Goes, IsSafe, IsComplete}
use Rattle.cd_lr.specs.Reading.{Begin, BeginNone}
use Rattle.cd_lr.proofs.Depths.{fits_room}
use Rattle.cd_lr.proofs.Standing.{Stands}
use Rattle.cd_lr.proofs.Complete.{complete}
use Rattle.cd_lr.proofs.Viable.{begun_with}
use Rattle.cd_lr.proofs.Raised.{raised}
use Rattle.cd_lr.proofs.TwoRuns.{empty, both_end, both_begin, none_past_wrong, none_past_deep}

module _ {Token Value : Type 0} (g : Grammar Token Value) (m : Automaton) (Has : Items)
    (rank : (state p : ℕ) → List Symbol → ℕ) (safe : IsSafe g m Has rank) (most : ℕ) where
  -- what was read begins a whole with a token for which there is no room, at a greater depth
  pub deeper_begins : (stack : List (Cell Value)) (read : List Token) → Stands g m Has rank safe most stack read
      → (t : Token) (opens next : ℕ) → m.action (state_of stack) (g.kind t) ≡ Shift opens next
      → (depth : ℕ) × Begin g most depth (read ++ t ∷ [])
  deeper_begins stack read stands t opens next is =
      let up = raised g m Has rank safe most opens stack read stands in
      let room = up.room in
      let goes = safe.shift_goes (state_of stack) opens (g.kind t) next is in
      let fit = fits_room (g.free t) opens (room_of up.depth up.higher) (omega (arith, room)) in
      let begins = begun_with g m Has rank safe up.depth up.higher read up.stands (Terminal opens (g.kind t))
      (subst (λ s. Goes Has s (Terminal opens (g.kind t))) up.same goes) (t ∷ []) (g.value t)
      (one (room_of up.depth up.higher) opens t fit) in
      (up.depth, begins)

module _ {Token Value : Type 0} (g : Grammar Token Value) (m : Automaton) (Sure : Items) (First : Firsts)
    (full : IsComplete g m Sure First) (most : ℕ) where
  -- with a token that is refused no whole begins, however deep
  pub wrong : (tokens read later : List Token) (t : Token) (c : Config Token Value)
      → Reaches g m most (begin g m most tokens) c → step g m most c ≡ Wrong → c.rest ≡ t ∷ later
      → tokens ≡ read ++ c.rest → (depth : ℕ) → BeginNone g most depth (read ++ t ∷ [])
  wrong tokens read later t c comes is last all depth others v whole =
      let run = complete g m Sure First full depth ((read ++ t ∷ []) ++ others) v whole in
      none_past_wrong g m (λ room other. Unit {0}) (λ room other opens fit. tt) most depth tt (t ∷ later) (t ∷ others)
      (both_begin t later others) (begin g m most tokens) c (begin g m depth ((read ++ t ∷ []) ++ others)) run.end v
      record {
        stacks = empty;
        prefix = read;
        left = all ∙ ap (λ rest. read ++ rest) last;
        right = append_assoc read (t ∷ []) others;
      }
      comes last is run.comes run.ends

  -- with a token for which there is no room no whole begins that is at most so deep
  pub too_deep : (tokens read later : List Token) (t : Token) (c : Config Token Value)
      → Reaches g m most (begin g m most tokens) c → step g m most c ≡ TooDeep → c.rest ≡ t ∷ later
      → tokens ≡ read ++ c.rest → BeginNone g most most (read ++ t ∷ [])
  too_deep tokens read later t c comes is last all others v whole =
      let run = complete g m Sure First full most ((read ++ t ∷ []) ++ others) v whole in
      none_past_deep g m (λ room other. other ≤ room) (λ room other opens less. omega (arith, less)) most most
      (omega arith) (t ∷ later) (t ∷ others) (both_begin t later others) (λ room other less. less)
      (begin g m most tokens) c (begin g m most ((read ++ t ∷ []) ++ others)) run.end v
      record {
        stacks = empty;
        prefix = read;
        left = all ∙ ap (λ rest. read ++ rest) last;
        right = append_assoc read (t ∷ []) others;
      }
      comes last is run.comes run.ends

  -- where the tokens end too soon they write no whole, however deep
  pub unfinished : (tokens : List Token) (c : Config Token Value) → Reaches g m most (begin g m most tokens) c
      → step g m most c ≡ Wrong → c.rest ≡ [] → (depth : ℕ) (v : Value) → Whole g depth tokens v → ⊥
  unfinished tokens c comes is last depth v whole =
      let run = complete g m Sure First full depth tokens v whole in
      none_past_wrong g m (λ room other. Unit {0}) (λ room other opens fit. tt) most depth tt [] [] both_end
      (begin g m most tokens) c (begin g m depth tokens) run.end v
      record { stacks = empty; prefix = tokens; left = sym (append-nil tokens); right = sym (append-nil tokens) }
      comes last is run.comes run.ends
