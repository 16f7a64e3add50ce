-- What is right of a decider that runs stays so at each step of the machine.
use Rattle.std.proofs.Common.{◌≡◌, ◌<◌, List, [], ◌∷◌, ◌++◌, ℕ, length, map, take, inl, inr, refl, sym, ap, subst, ◌∙◌, arith}
use Rattle.std.proofs.Common.{append-nil}
use Rattle.cd_sets.specs.declared.question.Question.{Question}
use Rattle.cd_model.specs.AllOf.{AllOf, AnyOf}
use Rattle.cd_model.specs.Formula.{Graph}
use Rattle.cd_model.specs.Thing.{Thing}
use Rattle.cd_rules.specs.Family.{AsksNodes}
use Rattle.cd_rules.proofs.Among.{of_each}
use Rattle.cd_model.proofs.Ones.{each_weaker, one_on_right}
use Rattle.cd_elements.specs.declared.shape.ElementId.{ElementId}
use Rattle.cd_elements.specs.Table.{element_at}
use Rattle.cd_rules.specs.Machine.{Work, State, state, frame, IsWitness, IsDone, Works, NotIn, all_questions}
use Rattle.cd_rules.specs.Machine.{Step, works, finds, leaves}
use Rattle.cd_rules.specs.Right.{IsRight, IsWorkOf, Differ}
use Rattle.cd_rules.specs.Weight.{frames_weight, IsFurther}
use Rattle.cd_rules.proofs.FirstQuestion.{first_kept}
use Rattle.cd_rules.proofs.QuestionsOnce.{in_neither}
use Rattle.cd_rules.proofs.RunsAreRight.{step_right, right_at_first}
use Rattle.cd_empty.specs.declared.decider.Decider.{Decider}
use Rattle.cd_empty.specs.declared.frame.Frame.{Frame}
use Rattle.cd_verdicts.specs.declared.verdict.Verdict.TheVariants.{Inhabited}
use Rattle.cd_empty.specs.Inner.Doing.{IsUnknown}
use Rattle.cd_empty.specs.Inner.Fit.{IsFit}
use Rattle.cd_empty.specs.Inner.PlainFrame.{plain_work, plain_frame, state_of, settled, known}
use Rattle.cd_empty.specs.Inner.Running.{IsRunning, Keeps, KeepsKnown, IsStepped, RunsOn}
use Rattle.cd_empty.specs.Kept.{IsSound, table, kept, witnesses}
use Rattle.cd_verdicts.specs.Verdicts.{family}
use Rattle.cd_empty.proofs.ElementsKept.{known_witnesses, witness_more}
use Rattle.cd_verdicts.proofs.QuestionsDiffer.{differ_on_left, differ_apart}
use Rattle.cd_empty.proofs.SoundDeciders.{same_known, fit_again}
use Rattle.cd_verdicts.proofs.VerdictsFound.{asked}
use Rattle.cd_verdicts.proofs.WitnessesOfVerdicts.{inhabited, not_empty, not_inhabited, not_asked, differ_by_verdicts}

-- a step that adds no witness and no question leaves less to do
pub less_by_work : (before after : State) → IsFurther before after → after.witnesses ≡ before.witnesses → after.list ≡ before.list
    → frames_weight after.frames < frames_weight before.frames
less_by_work before after (inl more) same alike = let count = ap length same in absurd (omega arith)
less_by_work before after (inr (inl (_, more))) same alike = let count = ap length alike in absurd (omega arith)
less_by_work before after (inr (inr (_, _, less))) same alike = less

module _ (graph : Graph) where
  -- where the same is known, the state is the same
  pub same_state : (before after : Decider) (frames : List Frame) → IsSound graph before → KeepsKnown before after
      → state_of after frames ≡ state_of before frames
  same_state before after frames is same =
      let found = known_witnesses graph before after is same in
      let listed = same.list in
      λ i. state (found i) (listed i) (map plain_frame frames)

  pub fits_again : (before after : Decider) (frames : List Frame) → KeepsKnown before after → AllOf (IsFit graph (table before)) frames
      → AllOf (IsFit graph (table after)) frames
  fits_again before after frames same = each_weaker (IsFit graph (table before)) (IsFit graph (table after))
      (λ frame. fit_again graph before after frame same) frames

  pub running_on : (before after : Decider) (frames : List Frame) → IsRunning graph before frames → IsSound graph after
      → KeepsKnown before after → IsRunning graph after frames
  running_on before after frames running sound same = record {
    sound = sound;
    right = subst (λ (settled : List Question). IsRight graph settled (state_of after frames)) (sym (ap family same.kept))
        (subst (IsRight graph (settled before)) (sym (same_state before after frames running.sound same)) running.right);
    fit = fits_again before after frames same running.fit;
  }

  -- a step keeps what is right, and a question that is the first
  pub runs_on : (before after : Decider) (frames more : List Frame) → IsRunning graph before frames → IsSound graph after
      → Keeps before after → IsStepped graph before after frames more → RunsOn graph before after frames more
  runs_on before after frames more running sound keeps stepped = record {
    running = record {
      sound = sound;
      right = subst (λ (settled : List Question). IsRight graph settled (state_of after more)) (sym keeps.settled)
          (step_right graph (settled before) (state_of before frames) (state_of after more) stepped.step running.right);
      fit = stepped.fit;
    };
    first = λ question. first_kept graph (settled before) question (state_of before frames) (state_of after more)
        stepped.step running.right;
  }

  -- runs one after the other
  pub runs_not : (decider : Decider) (frames : List Frame) → IsRunning graph decider frames → RunsOn graph decider decider frames frames
  runs_not decider frames running = record { running = running; first = λ question is. is }

  pub runs_then : (first second third : Decider) (frames more others : List Frame) → RunsOn graph first second frames more
      → RunsOn graph second third more others → RunsOn graph first third frames others
  runs_then first second third frames more others one other = record {
    running = other.running;
    first = λ question is. other.first question (one.first question is);
  }

  -- a step from the same state
  pub stepped_from : (first before after : Decider) (start frames more : List Frame) → settled before ≡ settled first
      → state_of before frames ≡ state_of first start → IsStepped graph before after frames more
      → IsStepped graph first after start more
  stepped_from first before after start frames more same alike stepped = record {
    step = subst (λ (now : State). Step graph (settled first) now (state_of after more)) alike
        (subst (λ (settled : List Question). Step graph settled (state_of before frames) (state_of after more)) same stepped.step);
    fit = stepped.fit;
  }

  -- at first, where nothing is listed
  pub runs_at_first : (decider : Decider) → IsSound graph decider → decider.list ≡ [] → IsRunning graph decider []
  runs_at_first decider is start = record {
    sound = is;
    right = subst (λ (list : List Question). IsRight graph (settled decider) (state (witnesses decider) list [])) (sym start)
        (right_at_first graph (settled decider) (witnesses decider) is.witnesses
        (subst (λ (settled : List Question). Differ (settled ++ inhabited (table decider) (kept decider)))
        (sym (append-nil (settled decider))) (differ_by_verdicts (table decider) (kept decider) is.once)));
    fit = tt;
  }

  -- a question of which nothing is known is new
  pub unknown_is_new : (decider : Decider) (frames : List Frame) (question : Question) → IsUnknown decider question
      → NotIn (all_questions (settled decider) (state_of decider frames)) question
  unknown_is_new decider frames question unknown =
      in_neither (settled decider ++ decider.list) (inhabited (table decider) (kept decider)) question
      (in_neither (settled decider) decider.list question (not_empty (table decider) question (kept decider) unknown.0) unknown.1)
      (not_inhabited (table decider) question (kept decider) unknown.0)

  module _ (decider : Decider) (last : Frame) (frames : List Frame) (running : IsRunning graph decider (last ∷ frames)) where
    -- what is left to do for the question of the last frame is enough
    pub last_works : IsWorkOf graph (known decider) last.question (plain_work last)
    last_works = running.right.frames.4

    -- that question is in the list, so it asks nodes of the graph and has no verdict
    last_is_listed : AnyOf (λ other. other ≡ last.question) decider.list
    last_is_listed = subst (AnyOf (λ other. other ≡ last.question)) (sym running.right.frames.2)
        (one_on_right (λ other. other ≡ last.question) running.right.frames.0 (last.question ∷ running.right.frames.1) (inl refl))

    pub last_asks : AsksNodes (length graph) last.question
    last_asks = of_each (AsksNodes (length graph)) decider.list last.question running.right.asks last_is_listed

    pub last_has_no_verdict : NotIn (asked (kept decider)) last.question
    last_has_no_verdict = not_asked (table decider) last.question (kept decider)
        (of_each (NotIn (settled decider)) decider.list last.question (differ_apart (settled decider) decider.list
        (differ_on_left (settled decider ++ decider.list) (inhabited (table decider) (kept decider)) running.right.once)) last_is_listed)
        (λ there. of_each (NotIn (settled decider ++ decider.list)) (inhabited (table decider) (kept decider)) last.question
        (differ_apart (settled decider ++ decider.list) (inhabited (table decider) (kept decider)) running.right.once) there
        (one_on_right (λ other. other ≡ last.question) (settled decider) decider.list last_is_listed))

  module _ (before after : Decider) (first : Frame) (frames : List Frame) (running : IsRunning graph before (first ∷ frames))
      (same : KeepsKnown before after) where
    others_fit : AllOf (IsFit graph (table after)) frames
    others_fit = fits_again before after frames same running.fit.1

    -- one thing was done for the last frame
    pub stepped_by_work : (last : Frame) → Works (known after) (plain_work first) (plain_work last) → IsFit graph (table after) last
        → last.question ≡ first.question → last.place ≡ first.place → IsStepped graph before after (first ∷ frames) (last ∷ frames)
    stepped_by_work last done fit alike at = record {
      step = subst (Step graph (settled before) (state_of before (first ∷ frames))) same_but_work
          (works (witnesses before) before.list first.place first.question (plain_work first) (plain_work last)
          (map plain_frame frames) (subst (λ known. Works known (plain_work first) (plain_work last)) (same_known before after same) done));
      fit = (fit, others_fit);
    }
      where
        same_but_work : state (witnesses before) before.list (frame first.place first.question (plain_work last) ∷ map plain_frame frames)
            ≡ state_of after (last ∷ frames)
        same_but_work =
            let found = sym (known_witnesses graph before after running.sound same) in
            let listed = sym same.list in
            let question = sym alike in
            let place = sym at in
            λ i. state (found i) (listed i) (frame (place i) (question i) (plain_work last) ∷ map plain_frame frames)

    -- nothing was left to do for it
    pub stepped_by_end : (last : Work) → last ≡ plain_work first → IsDone last → IsStepped graph before after (first ∷ frames) frames
    stepped_by_end last stays done = record {
      step = subst (Step graph (settled before) (state_of before (first ∷ frames))) (sym (same_state before after frames running.sound same))
          (leaves (witnesses before) before.list (plain_frame first) (map plain_frame frames) (subst IsDone stays done));
      fit = others_fit;
    }

    -- the state where the frame is as it was
    pub same_with_frame : (last : Frame) → plain_work last ≡ plain_work first → last.question ≡ first.question → last.place ≡ first.place
        → state_of after (last ∷ frames) ≡ state_of before (first ∷ frames)
    same_with_frame last stays alike at =
        let found = known_witnesses graph before after running.sound same in
        let listed = same.list in
        λ i. state (found i) (listed i) (frame (at i) (alike i) (stays i) ∷ map plain_frame frames)

    -- an element was found of its question, and is kept
    pub stepped_by_element : (more : Decider) (question : Question) (place : ℕ) (id : ElementId) → question ≡ first.question
        → place ≡ first.place → IsWitness graph (first.question, element_at (table after) id) → table more ≡ table after
        → kept more ≡ kept after ++ (question, Inhabited id) ∷ [] → more.list ≡ take place after.list
        → IsStepped graph before more (first ∷ frames) frames
    stepped_by_element more question place id alike at is same_table one_more cut = record {
      step = subst (Step graph (settled before) (state_of before (first ∷ frames))) cut_state
          (finds (witnesses before) before.list (plain_frame first) (map plain_frame frames) (element_at (table after) id) is);
      fit = subst (λ (table : List Thing). AllOf (IsFit graph table) frames) (sym same_table) others_fit;
    }
      where
        found : witnesses before ++ (first.question, element_at (table after) id) ∷ [] ≡ witnesses more
        found =
            let same_found = known_witnesses graph before after running.sound same in
            (λ i. sym same_found i ++ (sym alike i, element_at (table after) id) ∷ [])
            ∙ sym (witness_more after more question id same_table one_more)

        listed : take first.place before.list ≡ more.list
        listed = (λ i. take (sym at i) (sym same.list i)) ∙ sym cut

        cut_state : state (witnesses before ++ (first.question, element_at (table after) id) ∷ []) (take first.place before.list)
            (map plain_frame frames) ≡ state_of more frames
        cut_state = λ i. state (found i) (listed i) (map plain_frame frames)
