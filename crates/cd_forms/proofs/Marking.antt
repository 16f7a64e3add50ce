-- Marks of the states from which the end is reached, pass by pass.
use Rattle.std.proofs.Common.{◌≡◌, ◌≤◌, ◌<◌, ◌&&◌, ◌||◌, ℕ, zero, suc, Bool, true, false, not, List}
use Rattle.std.proofs.Common.{[], ◌∷◌, ◌⊎◌, inl, inr, map, length, set, Option, Some, None, refl}
use Rattle.std.proofs.Common.{sym}
use Rattle.std.proofs.Common.{ap, subst, ◌∙◌, arith, true≢false, ◌-◌, get_or}
use Rattle.std.proofs.lemmas.Bool.{cases_eq}
use Rattle.std.proofs.lemmas.List.{length-map}
use Rattle.std.proofs.lemmas.Option.{none-some, same_Some, slice_get-map, slice_get_within}
use Rattle.std.proofs.lemmas.Option.{slice_get_read}
use Rattle.std.specs.List.{slice_get}
use Rattle.std.specs.Option.{option_map}
use Rattle.cd_forms.specs.declared.of_sequences.state.State.{State as CodeState}
use Rattle.cd_forms.specs.declared.of_sequences.step.Step.{Step}
use Rattle.cd_forms.specs.Inner.Ending.{Ends, ends_here, goes_on, AreSoundMarks, AreMarked}
use Rattle.cd_forms.specs.Inner.Ending.{one_leads, leads_on, mark_if, NoneLeads, unmarked}
use Rattle.cd_forms.specs.Inner.Ending.{HasPassed, IsPass, NoneLeft, ArePassed, passes_left}
use Rattle.cd_forms.specs.Inner.ItemQuestions.{is_marked}
use Rattle.cd_forms.specs.Inner.Numbered.{IsAmong}
use Rattle.cd_forms.specs.Inner.States.{State, plain_state}
use Rattle.cd_forms.proofs.ItemsOfStates.{mark_read, read_mark}

-- what is marked where one more is
read_set : (marks : List Bool) (number other : ℕ)
    → slice_get (set marks number true) other ≡ Some true
    → (number ≡ other) ⊎ (slice_get marks other ≡ Some true)
read_set [] number other is = inr is
read_set (mark ∷ marks) zero zero is = inl refl
read_set (mark ∷ marks) zero (suc other) is = inr is
read_set (mark ∷ marks) (suc number) zero is = inr is
read_set (mark ∷ marks) (suc number) (suc other) is = elim (read_set marks number other is) [
  | inl same ↦ inl (ap suc same)
  | inr before ↦ inr before
]

kept_set : (marks : List Bool) (number other : ℕ) → slice_get marks other ≡ Some true
    → slice_get (set marks number true) other ≡ Some true
kept_set [] number other is = is
kept_set (mark ∷ marks) zero zero is = refl
kept_set (mark ∷ marks) zero (suc other) is = is
kept_set (mark ∷ marks) (suc number) zero is = is
kept_set (mark ∷ marks) (suc number) (suc other) is = kept_set marks number other is

set_count : (marks : List Bool) (number : ℕ) → length (set marks number true) ≡ length marks
set_count [] number = refl
set_count (mark ∷ marks) zero = refl
set_count (mark ∷ marks) (suc number) = ap suc (set_count marks number)

-- fewer are left
set_fewer : (marks : List Bool) (number : ℕ) → number < length marks
    → is_marked marks number ≡ false → unmarked (set marks number true) < unmarked marks
set_fewer [] number below is = absurd (omega (arith, below))
set_fewer (true ∷ marks) zero below is = absurd (true≢false is)
set_fewer (false ∷ marks) zero below is = omega arith
set_fewer (true ∷ marks) (suc number) below is =
    set_fewer marks number (omega (arith, below)) is
set_fewer (false ∷ marks) (suc number) below is =
    let fewer = set_fewer marks number (omega (arith, below)) is in omega (arith, fewer)

-- the two parts of a test
both_are : (one other : Bool) → (not one && other) ≡ true → (one ≡ false) × (other ≡ true)
both_are true other is = absurd (true≢false (sym is))
both_are false other is = (refl, is)

-- a step to a marked state
marked_step : (marks : List Bool) (steps : List Step) → one_leads marks steps ≡ true
    → (step : Step) × IsAmong steps step × (is_marked marks step.rest ≡ true)
marked_step marks [] is = absurd (true≢false (sym is))
marked_step marks (step ∷ steps) is =
    by_mark (is_marked marks step.rest) refl is (marked_step marks steps)
  where
    by_mark : (mark : Bool) → is_marked marks step.rest ≡ mark
        → (mark || one_leads marks steps) ≡ true
        → (one_leads marks steps ≡ true
        → (other : Step) × IsAmong steps other × (is_marked marks other.rest ≡ true))
        → (other : Step) × IsAmong (step ∷ steps) other × (is_marked marks other.rest ≡ true)
    by_mark true mark here later = (step, inl refl, mark)
    by_mark false mark there later =
        let found = later there in (found.0, inr found.1, found.2)

steps_lead : (marks : List Bool) (steps : List Step) (step : Step) → IsAmong steps step
    → is_marked marks step.rest ≡ true → one_leads marks steps ≡ true
steps_lead marks [] step among mark = absurd among
steps_lead marks (one ∷ steps) step (inl same) mark = by_mark
    (is_marked marks one.rest)
    (subst (λ (step : Step). is_marked marks step.rest ≡ true) (sym same) mark)
  where
    by_mark : (is : Bool) → is ≡ true → (is || one_leads marks steps) ≡ true
    by_mark true is = refl
    by_mark false is = absurd (true≢false (sym is))
steps_lead marks (one ∷ steps) step (inr later) mark =
    by_rest (is_marked marks one.rest) (steps_lead marks steps step later mark)
  where
    by_rest : (is : Bool) → one_leads marks steps ≡ true → (is || one_leads marks steps) ≡ true
    by_rest true rest = refl
    by_rest false rest = rest

module _ (states : List State) where
  -- a state that leads to a marked one
  leads_to_end : (marks : List Bool) (number : ℕ) (state : State)
      → slice_get states number ≡ Some state → AreSoundMarks states marks
      → leads_on marks number state ≡ true → Ends states number
  leads_to_end marks number state at sound leads =
      let found = marked_step marks state.steps
      (both_are (is_marked marks number) (one_leads marks state.steps) leads).1 in
      goes_on number state found.0 at found.1
      (sound found.0.rest (mark_read marks found.0.rest found.2))

  -- a pass begins after the last state
  pub pass_first : (marks : List Bool) → IsPass states (length states) marks marks false
  pass_first marks = record {
    count = refl;
    sound = λ sound. sound;
    kept = λ number is. is;
    passed = (
      refl,
      λ number state past at.
          let within = slice_get_within states number state at in
          absurd (omega (arith, past, within)),
    );
  }

  -- where no state was marked, none leads on from one state earlier
  none_earlier : (number : ℕ) (state : State) (marks : List Bool)
      → slice_get states number ≡ Some state → leads_on marks number state ≡ false
      → NoneLeads states (suc number) marks → NoneLeads states number marks
  none_earlier number state marks at none later other one past there =
      elim (cases_eq other number) [
        | inl same ↦ subst (λ (n : ℕ). leads_on marks n one ≡ false) (sym same)
            (subst (λ (state : State). leads_on marks number state ≡ false)
            (same_Some state one
            (sym at ∙ subst (λ (n : ℕ). slice_get states n ≡ Some one) same there))
            none)
        | inr differs ↦ later other one (omega (arith, past, differs)) there
      ]

  -- and goes on with the state before
  pub pass_on : (number : ℕ) (state : State) (old mid new : List Bool) (more marked : Bool)
      → slice_get states number ≡ Some state → length old ≡ length states
      → IsPass states (suc number) old mid more → leads_on mid number state ≡ marked
      → new ≡ mark_if marked mid number → IsPass states number old new (more || marked)
  pass_on number state old mid new more true at as_many pass leads is = record {
    count = ap length is ∙ set_count mid number ∙ pass.count;
    sound = λ sound other mark. elim (read_set mid number other
        (subst (λ (marks : List Bool). slice_get marks other ≡ Some true) is mark)) [
          | inl same ↦ subst (Ends states) same
              (leads_to_end mid number state at (pass.sound sound) leads)
          | inr before ↦ pass.sound sound other before
        ];
    kept = λ other mark. subst (λ (marks : List Bool). slice_get marks other ≡ Some true) (sym is)
        (kept_set mid number other (pass.kept other mark));
    passed = fewer more pass.passed;
  }
    where
      less : unmarked new < unmarked mid
      less =
          let below = slice_get_within states number state at in
          let within : number < length mid = omega (arith, below, pass.count, as_many) in
          subst (λ (marks : List Bool). unmarked marks < unmarked mid) (sym is)
          (set_fewer mid number within
          (both_are (is_marked mid number) (one_leads mid state.steps) leads).0)

      fewer : (more : Bool) → HasPassed states (suc number) old mid more
          → HasPassed states number old new (more || true)
      fewer true passed = let now = less in omega (arith, now, passed)
      fewer false passed =
          subst (λ (marks : List Bool). unmarked new < unmarked marks) passed.0 less
  pass_on number state old mid new more false at as_many pass leads is = record {
    count = ap length is ∙ pass.count;
    sound = λ sound. subst (AreSoundMarks states) (sym is) (pass.sound sound);
    kept = λ other mark. subst (λ (marks : List Bool). slice_get marks other ≡ Some true) (sym is)
        (pass.kept other mark);
    passed = subst (λ (marks : List Bool). HasPassed states number old marks (more || false))
        (sym is)
        (same more pass.passed);
  }
    where
      same : (more : Bool) → HasPassed states (suc number) old mid more
          → HasPassed states number old mid (more || false)
      same true passed = passed
      same false passed = (passed.0, none_earlier number state mid at leads passed.1)

  -- at first those are marked that end themselves
  ended : (number : ℕ) (mark : Bool)
      → slice_get (map (λ state. state.ends) states) number ≡ Some mark
      → (state : State) × (slice_get states number ≡ Some state) × (state.ends ≡ mark)
  ended number mark is = by_state (slice_get states number) refl
      (sym (slice_get-map (λ (state : State). state.ends) states number) ∙ is)
    where
      by_state : (found : Option State) → slice_get states number ≡ found
          → option_map (λ state. state.ends) found ≡ Some mark
          → (state : State) × (slice_get states number ≡ Some state) × (state.ends ≡ mark)
      by_state None at none = absurd (none-some mark none)
      by_state (Some state) at is = (state, at, same_Some state.ends mark is)

  pub passed_first : (marks : List Bool) → marks ≡ map (λ state. state.ends) states
      → ArePassed states marks true
  passed_first marks same = subst (λ (marks : List Bool). ArePassed states marks true) (sym same)
      (record {
        count = length-map states (λ state. state.ends);
        sound = λ number is. let found = ended number true is in
            ends_here number found.0 found.1 found.2;
        ends = λ number state at is. slice_get-map (λ (state : State). state.ends) states number
            ∙ ap (option_map (λ state. state.ends)) at ∙ ap Some is;
        left = tt;
      })

  -- after a pass
  pub passed_more : (old new : List Bool) (more : Bool) → ArePassed states old true
      → IsPass states zero old new more → ArePassed states new more
  passed_more old new more before pass = record {
    count = pass.count ∙ before.count;
    sound = pass.sound before.sound;
    ends = λ number state at is. pass.kept number (before.ends number state at is);
    left = left_of more pass.passed;
  }
    where
      left_of : (more : Bool) → HasPassed states zero old new more → NoneLeft states new more
      left_of true passed = tt
      left_of false passed = passed.1

  pub passes_fall : (old new : List Bool) (more : Bool) → IsPass states zero old new more
      → passes_left new more < passes_left old true
  passes_fall old new more pass = fall more pass.passed
    where
      fall : (more : Bool) → HasPassed states zero old new more
          → passes_left new more < suc (unmarked old)
      fall true passed = omega (arith, passed)
      fall false passed =
          subst (λ (marks : List Bool). unmarked marks < suc (unmarked old)) (sym passed.0)
          (omega arith)

  -- where no state leads to a marked one, all are marked from which the end is reached
  module _ (marks : List Bool) (passed : ArePassed states marks false) where
    mark_of_end : (number : ℕ) → Ends states number → slice_get marks number ≡ Some true
    mark_of_end _ (ends_here number state at ends) = passed.ends number state at ends
    mark_of_end _ (goes_on number state step at among rest) = mark_read marks number
        (by_mark (is_marked marks number) (passed.left number state (omega arith) at)
        (steps_lead marks state.steps step among
        (read_mark marks step.rest (mark_of_end step.rest rest))))
      where
        by_mark : (mark : Bool) → (not mark && one_leads marks state.steps) ≡ false
            → one_leads marks state.steps ≡ true → mark ≡ true
        by_mark true none leads = refl
        by_mark false none leads = absurd (true≢false (sym leads ∙ none))

    pub all_marked : AreMarked states marks
    all_marked = (passed.sound, mark_of_end)

-- a pass goes on with the state before this number
pub pass_at : (states : List CodeState) (number : ℕ) (state : CodeState) → 0 < number
    → number ≤ length states → state ≡ get_or states (number - 1) state
    → (old mid new : List Bool) (more marked : Bool) → length old ≡ length states
    → IsPass (map plain_state states) number old mid more
    → marked ≡ leads_on mid (number - 1) (plain_state state)
    → new ≡ mark_if marked mid (number - 1)
    → IsPass (map plain_state states) (number - 1) old new (more || marked)
pass_at states number state some below is old mid new more marked as_many pass leads put =
    let next : suc (number - 1) ≡ number = omega (arith, some) in
    let within : number - 1 < length states = omega (arith, some, below) in
    pass_on (map plain_state states) (number - 1) (plain_state state) old mid new more marked
    (slice_get-map plain_state states (number - 1)
    ∙ ap (option_map plain_state)
    (slice_get_read states (length states) (number - 1) state refl within is))
    (as_many ∙ sym (length-map states plain_state))
    (subst (λ (n : ℕ). IsPass (map plain_state states) n old mid more) (sym next) pass)
    (sym leads) put

-- the states of the code end where these do
pub ends_of_plain : (states : List CodeState)
    → map (λ state. state.ends) states ≡ map (λ state. state.ends) (map plain_state states)
ends_of_plain [] = refl
ends_of_plain (state ∷ states) = ap (λ marks. state.ends ∷ marks) (ends_of_plain states)
