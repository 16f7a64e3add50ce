-- The automaton answers right, where it is safe and complete.
use Rattle.std.proofs.Common.{◌≡◌, ◌+◌, ◌-◌, ℕ, suc, List, [], ◌∷◌, ◌++◌, length, take, drop, refl, sym, ap, subst, ◌∙◌, arith, append-nil, length-append, length-drop}
use Rattle.std.specs.Prelude.{◌<◌}
use Rattle.std.proofs.Math.Seq.{take-append_seam, take-append-add}
use Rattle.cd_lr.specs.Grammar.{Symbol, Grammar}
use Rattle.cd_lr.specs.Automaton as machine
use Rattle.cd_lr.specs.Automaton.{Action, Shift, Reduce, Accept, Refuse, Automaton, Cell, Config, Done, Wrong, state_of, look, done, act, step, begin, Reaches}
use Rattle.cd_lr.specs.Valid.{Items, Firsts, IsSafe, IsComplete}
use Rattle.cd_lr.specs.Reading.{Read, Syntax, TooDeep, Begin, BeginNone, IsAnswer, whole, wrong, unfinished, too_deep}
use Rattle.cd_lr.proofs.Sound.{stood, sound}
use Rattle.cd_lr.proofs.Viable.{begun}
use Rattle.cd_lr.proofs.Faults as faults

-- what was read, and the token after it, by its number
record Place {Token : Type 0} (tokens read : List Token) (t : Token) (index : ℕ) : Type 0 where
  number : length read ≡ index
  small : index < length tokens
  prefix : take index tokens ≡ read
  prefix_with : take (suc index) tokens ≡ read ++ t ∷ []

place_of : {Token : Type 0} (tokens read rest : List Token) (t : Token) (later : List Token) (index : ℕ)
    → tokens ≡ read ++ rest → rest ≡ t ∷ later → rest ≡ drop index tokens → Place tokens read t index
place_of {Token = Token} tokens read rest t later index all last place =
    let same : tokens ≡ read ++ t ∷ later = all ∙ ap (λ rest. read ++ rest) last in
    let one : length tokens ≡ length read + length (t ∷ later) = ap length same ∙ length-append read (t ∷ later) in
    let left : length rest ≡ length (t ∷ later) = ap length last in
    let cut : length rest ≡ length tokens - index = ap length place ∙ length-drop index tokens in
    let number : length read ≡ index = omega (arith, one, left, cut) in
    let next : suc index ≡ length read + 1 = omega (arith, number) in
    record {
      number = number;
      small = omega (arith, one, number);
      prefix = ap (λ n. take n tokens) (sym number) ∙ ap (take (length read)) same
          ∙ take-append_seam read (t ∷ later);
      prefix_with = ap (λ n. take n tokens) next ∙ ap (take (length read + 1)) same
          ∙ take-append-add read (t ∷ later) 1;
    }

module _ {Token Value : Type 0} (g : Grammar Token Value) (m : Automaton) (Has Sure : Items) (First : Firsts)
    (rank : (state p : ℕ) → List Symbol → ℕ) (safe : IsSafe g m Has rank) (full : IsComplete g m Sure First)
    (most : ℕ) where
  -- where it accepts, the tokens have its value
  pub at_done : (tokens : List Token) (c : Config Token Value) (v : Value) → Reaches g m most (begin g m most tokens) c
      → step g m most c ≡ Done v → IsAnswer g most tokens (Read v)
  at_done tokens c v comes is = whole v (sound g m Has rank safe most tokens c v comes is)

  -- where it has no action, the next token cannot come, or the tokens end too soon
  pub at_wrong : (tokens : List Token) (c : Config Token Value) (index : ℕ)
      → Reaches g m most (begin g m most tokens) c → step g m most c ≡ Wrong → c.rest ≡ drop index tokens
      → IsAnswer g most tokens (Syntax index)
  at_wrong tokens c index comes is place =
      let right = stood g m Has rank safe most tokens c comes in
      by c.rest refl right.read right.all (begun g m Has rank safe most c.stack right.read right.stands)
    where
      by : (rest : List Token) → c.rest ≡ rest → (read : List Token) → tokens ≡ read ++ c.rest → Begin g most most read
          → IsAnswer g most tokens (Syntax index)
      by [] last read all begins =
          let same : tokens ≡ read = all ∙ ap (λ rest. read ++ rest) last ∙ append-nil read in
          let none : length c.rest ≡ 0 = ap length last in
          let cut : length c.rest ≡ length tokens - index = ap length place ∙ length-drop index tokens in
          unfinished index (omega (arith, none, cut)) (subst (Begin g most most) (sym same) begins)
          (faults.unfinished g m Sure First full most tokens c comes is last)
      by (t ∷ later) last read all begins =
          let there = place_of tokens read c.rest t later index all last place in
          wrong index there.small (subst (Begin g most most) (sym there.prefix) begins)
          (λ depth. subst (BeginNone g most depth) (sym there.prefix_with)
          (faults.wrong g m Sure First full most tokens read later t c comes is last all depth))

  -- where there is no room, a token was to be shifted
  was_shift : (action : Action) (stack : List (Cell Value)) (rest : List Token)
      → act g m most action stack rest ≡ machine.TooDeep
      → (opens : ℕ) × (next : ℕ) × (t : Token) × (later : List Token) × (action ≡ Shift opens next) × (rest ≡ t ∷ later)
  was_shift (Shift opens next) stack [] is = absurd cc
  was_shift (Shift opens next) stack (t ∷ later) is = (opens, next, t, later, refl, refl)
  was_shift (Reduce p) stack rest is = absurd cc
  was_shift Accept stack rest is = absurd (not_done stack is)
    where
      not_done : (stack : List (Cell Value)) → done g m most stack ≡ machine.TooDeep → ⊥
      not_done [] is = cc
      not_done (cell ∷ []) is = cc
      not_done (cell ∷ other ∷ stack) is = cc
  was_shift Refuse stack rest is = absurd cc

  -- where there is no room, the next token is too deep
  pub at_too_deep : (tokens : List Token) (c : Config Token Value) (index : ℕ)
      → Reaches g m most (begin g m most tokens) c → step g m most c ≡ machine.TooDeep → c.rest ≡ drop index tokens
      → IsAnswer g most tokens (TooDeep index)
  at_too_deep tokens c index comes is place =
      let (opens, next, t, later, was, last) =
      was_shift (m.action (state_of c.stack) (look g m most c.rest)) c.stack c.rest is in
      let shifts : m.action (state_of c.stack) (g.kind t) ≡ Shift opens next =
      ap (λ rest. m.action (state_of c.stack) (look g m most rest)) (sym last) ∙ was in
      let right = stood g m Has rank safe most tokens c comes in
      let there = place_of tokens right.read c.rest t later index right.all last place in
      let (depth, begins) =
      faults.deeper_begins g m Has rank safe most c.stack right.read right.stands t opens next shifts in
      too_deep index there.small
      (subst (Begin g most most) (sym there.prefix) (begun g m Has rank safe most c.stack right.read right.stands))
      (depth, subst (Begin g most depth) (sym there.prefix_with) begins)
      (subst (BeginNone g most most) (sym there.prefix_with)
      (faults.too_deep g m Sure First full most tokens right.read later t c comes is last right.all))
