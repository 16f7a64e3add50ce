-- What is so of a run after one thing was done for the last frame, by what was done.
use Rattle.std.proofs.Common.{◌≡◌, List, [], ◌∷◌, ◌++◌, length, take, sym, ap, subst, ◌∙◌, arith, length-append}
use Rattle.cd_sets.specs.declared.question.Question.{Question}
use Rattle.cd_model.specs.Formula.{Graph}
use Rattle.cd_rules.specs.Family.{AsksNodes}
use Rattle.cd_elements.specs.declared.shape.ElementId.{ElementId}
use Rattle.cd_elements.specs.Table.{element_at}
use Rattle.cd_rules.specs.Machine.{IsWitness, NotIn}
use Rattle.cd_rules.specs.Right.{IsRight, HasFirst}
use Rattle.cd_rules.proofs.WorkFalls.{step_further}
use Rattle.cd_empty.specs.declared.decider.Decider.{Decider}
use Rattle.cd_empty.specs.declared.doing.Doing.TheVariants as doing
use Rattle.cd_empty.specs.declared.frame.Frame.{Frame}
use Rattle.cd_verdicts.specs.declared.verdict.Verdict.TheVariants.{Inhabited}
use Rattle.cd_empty.specs.declared.went.Went.{Went}
use Rattle.cd_empty.specs.declared.went.Went.TheVariants.{Worked, Opened, Found, Done}
use Rattle.cd_empty.specs.Inner.Doing.{IsDoing}
use Rattle.cd_empty.specs.Inner.PlainFrame.{state_of, settled}
use Rattle.cd_empty.specs.Inner.Running.{IsRunning, Keeps, KeepsKnown, HasGone, IsStepped, RunsOn, IsOpened}
use Rattle.cd_empty.specs.Kept.{IsSound, table, kept, witnesses}
use Rattle.cd_verdicts.specs.Verdicts.{family}
use Rattle.cd_empty.proofs.ElementsKept.{sound_with_one, witness_more, keeps_with_one, keeps_then, keeps_known, known_witnesses}
use Rattle.cd_empty.proofs.RunningDeciders.{less_by_work, fits_again, runs_on, last_asks, last_has_no_verdict}
use Rattle.cd_empty.proofs.RunningDeciders.{stepped_by_work, stepped_by_end, same_with_frame, stepped_by_element}
use Rattle.cd_verdicts.proofs.VerdictsFound.{asked}

-- the last frame was worked at, and stands now as this one
module _ (graph : Graph) (before now : Decider) (first last : Frame) (rest frames : List Frame) (begins : frames ≡ first ∷ rest)
    (running : IsRunning graph before frames) (sound : IsSound graph now) (same : KeepsKnown before now)
    (question : last.question ≡ first.question) (place : last.place ≡ first.place) where
  runs_first : IsRunning graph before (first ∷ rest)
  runs_first = subst (IsRunning graph before) begins running

  same_found : witnesses now ≡ witnesses before
  same_found = known_witnesses graph before now runs_first.sound same

  -- where a step leaves the witnesses and the list as they were
  by_less : (more : List Frame) → IsStepped graph before now (first ∷ rest) more
      → RunsOn graph before now frames more × HasGone before now frames more Worked
  by_less more stepped =
      subst (λ (frames : List Frame). RunsOn graph before now frames more × HasGone before now frames more Worked) (sym begins) (
        runs_on graph before now (first ∷ rest) more runs_first sound (keeps_known before now same) stepped,
        (
          same_found,
          same.list,
          less_by_work (state_of before (first ∷ rest)) (state_of now more)
              (step_further graph (settled before) (state_of before (first ∷ rest)) (state_of now more) stepped.step) same_found same.list,
        ),
      )

  pub gone_by_work : (more : List Frame) → more ≡ last ∷ rest → IsDoing graph now first last doing.Worked
      → RunsOn graph before now frames more × HasGone before now frames more Worked
  gone_by_work more goes_on (done, fit) =
      subst (λ (more : List Frame). RunsOn graph before now frames more × HasGone before now frames more Worked) (sym goes_on)
      (by_less (last ∷ rest) (stepped_by_work graph before now first rest runs_first same last done fit question place))

  pub gone_by_end : IsDoing graph now first last doing.Nothing → RunsOn graph before now frames rest × HasGone before now frames rest Worked
  gone_by_end (stays, done) = by_less rest (stepped_by_end graph before now first rest runs_first same _ stays.0 done)

  -- it stays, as it wants a question
  module _ (more : List Frame) (goes_on : more ≡ last ∷ rest) (wanted : Question)
      (wants : IsDoing graph now first last (doing.Wants wanted)) where
    same_last : state_of now (last ∷ rest) ≡ state_of before (first ∷ rest)
    same_last = same_with_frame graph before now first rest runs_first same last wants.0.0 question place

    pub still_runs : IsRunning graph now more
    still_runs = subst (IsRunning graph now) (sym goes_on) (record {
      sound = sound;
      right = subst (λ (settled : List Question). IsRight graph settled (state_of now (last ∷ rest))) (sym (ap family same.kept))
          (subst (IsRight graph (settled before)) (sym same_last) runs_first.right);
      fit = (wants.0.1, fits_again graph before now rest same runs_first.fit.1);
    })

    same_start : state_of before frames ≡ state_of now more
    same_start = ap (state_of before) begins ∙ sym same_last ∙ ap (state_of now) (sym goes_on)

    pub gone_by_question : (after : Decider) (others : List Frame) (went : Went) → IsSound graph after → Keeps now after
        → IsStepped graph now after more others → IsOpened graph now after wanted went
        → RunsOn graph before after frames others × HasGone before after frames others went
    gone_by_question after others went is keeps stepped opened =
        let runs = runs_on graph now after more others still_runs is keeps stepped in (
          record {
            running = runs.running;
            first = λ question has. runs.first question (subst (HasFirst question) same_start has);
          },
          goes went opened,
        )
      where
        goes : (went : Went) → IsOpened graph now after wanted went → HasGone before after frames others went
        goes Worked opened = absurd opened
        goes Opened (found, listed) =
            let count = ap length listed in
            let longer = length-append now.list (wanted ∷ []) in
            let counted = ap length same.list in (found ∙ same_found, omega arith)
        goes Found (e, is, found, listed) =
            let count = ap length found in
            let longer = length-append (witnesses now) ((wanted, e) ∷ []) in
            let counted = ap length same_found in omega arith
        goes Done opened = absurd opened

  -- an element of its question was found
  pub has_no_verdict : NotIn (asked (kept now)) last.question
  has_no_verdict = subst (NotIn (asked (kept now))) (sym question)
      (subst (λ kept. NotIn (asked kept) first.question) (sym same.kept) (last_has_no_verdict graph before first rest runs_first))

  module _ (after : Decider) (id : ElementId) (found : IsDoing graph now first last (doing.Found id)) (same_table : table after ≡ table now)
      (alike : after.facts ≡ now.facts) (more : kept after ≡ kept now ++ (last.question, Inhabited id) ∷ [])
      (cut : after.list ≡ take last.place now.list) where
    pub still_sound : IsSound graph after
    still_sound = sound_with_one now after last.question id same_table more graph alike has_no_verdict
        (subst (AsksNodes (length graph)) (sym question) (last_asks graph before first rest runs_first)) found.0
        (subst (λ (question : Question). IsWitness graph (question, element_at (table now) id)) (sym question) found.1) sound

    pub still_keeps : Keeps before after
    still_keeps = keeps_then before now after (keeps_known before now same) (keeps_with_one now after last.question id same_table more)

    pub gone_by_element : RunsOn graph before after frames rest × HasGone before after frames rest Found
    gone_by_element =
        let count = ap length (witness_more now after last.question id same_table more) in
        let longer = length-append (witnesses now) ((last.question, element_at (table now) id) ∷ []) in
        let counted = ap length same_found in
        let stepped = stepped_by_element graph before now first rest runs_first same after last.question last.place id question place
        found.1 same_table more cut in
        subst (λ (frames : List Frame). RunsOn graph before after frames rest × HasGone before after frames rest Found) (sym begins)
        (runs_on graph before after (first ∷ rest) rest runs_first still_sound still_keeps stepped, omega arith)
