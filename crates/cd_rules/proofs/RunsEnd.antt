-- Each run of states that are right ends, as long as their questions are among those of some list.
use Rattle.std.proofs.Common.{◌<◌, ◌≤◌, ◌+◌, ◌++◌, ℕ, zero, suc, List, length, map, inl, inr, ap}
use native.Mathlib.Omega.{arith}
use Rattle.std.proofs.lemmas.List.{length-append, length-map}
use Rattle.cd_sets.specs.declared.question.Question.{Question}
use Rattle.cd_model.specs.Formula.{Graph}
use Rattle.cd_rules.specs.Family.{AreAmong}
use Rattle.cd_rules.specs.Machine.{State, all_questions}
use Rattle.cd_rules.specs.Right.{IsRight}
use Rattle.cd_rules.specs.Weight.{frames_weight, IsFurther, Ends, ends}
use Rattle.cd_rules.proofs.RunsAreRight.{step_right}
use Rattle.cd_rules.proofs.ShorterLists.{no_longer}
use Rattle.cd_rules.proofs.WorkFalls.{step_further}

-- what is so of the number before
abbrev OneBefore : (ℕ → Type 0) → ℕ → Type 0
OneBefore fact zero = Unit {0}
OneBefore fact (suc n) = fact n

module _ (graph : Graph) (settled all : List Question) where
  -- so many questions are those of witnesses, and of the list
  bounded : (now : State) → IsRight graph settled now → AreAmong (all_questions settled now) all
      → length now.list + length now.witnesses ≤ length all
  bounded now right among =
      let whole = no_longer (all_questions settled now) all right.once among in
      let both = length-append (settled ++ now.list) (map (λ witness. witness.0) now.witnesses) in
      let listed = length-append settled now.list in
      let found = length-map now.witnesses (λ witness. witness.0) in omega arith

  -- where so many witnesses and so many questions may still come, and so much is left to do
  abbrev EndsBy : (witnesses questions left : ℕ) → Type 0
  EndsBy witnesses questions left = (now : State) → IsRight graph settled now
      → length all < witnesses + length now.witnesses → length all < questions + length now.list
      → frames_weight now.frames < left → Ends graph settled all now

  -- each next state has fewer of one, however many of those that come after it
  ends_by_next : (witnesses questions left : ℕ) → OneBefore (λ fewer. (questions left : ℕ) → EndsBy fewer questions left) witnesses
      → OneBefore (λ fewer. (left : ℕ) → EndsBy witnesses fewer left) questions → OneBefore (EndsBy witnesses questions) left
      → EndsBy witnesses questions left
  ends_by_next witnesses questions zero fewer_witnesses fewer_questions less_left now right more longer less = absurd (omega arith)
  ends_by_next witnesses questions (suc left) fewer_witnesses fewer_questions less_left now right more longer less =
      ends now (λ next step among. let next_right = step_right graph settled now next step right in
      by_case witnesses questions fewer_witnesses fewer_questions less_left next next_right (bounded next next_right among)
      (step_further graph settled now next step) more longer)
    where
      by_case : (witnesses questions : ℕ) → OneBefore (λ fewer. (questions left : ℕ) → EndsBy fewer questions left) witnesses
          → OneBefore (λ fewer. (left : ℕ) → EndsBy witnesses fewer left) questions → EndsBy witnesses questions left
          → (next : State) → IsRight graph settled next → length next.list + length next.witnesses ≤ length all
          → IsFurther now next → length all < witnesses + length now.witnesses → length all < questions + length now.list
          → Ends graph settled all next
      by_case zero questions _ _ _ next right most (inl further) more longer = absurd (omega arith)
      by_case (suc witnesses) questions fewer _ _ next right most (inl further) more longer =
          fewer (suc (length all)) (suc (frames_weight next.frames)) next right (omega arith) (omega arith) (omega arith)
      by_case witnesses zero _ _ _ next right most (inr (inl further)) more longer = absurd (omega arith)
      by_case witnesses (suc questions) _ fewer _ next right most (inr (inl (same, further))) more longer =
          let count = ap length same in fewer (suc (frames_weight next.frames)) next right (omega arith) (omega arith) (omega arith)
      by_case witnesses questions _ _ fewer next right most (inr (inr (same, alike, less_left))) more longer =
          let count = ap length same in let list = ap length alike in fewer next right (omega arith) (omega arith) (omega arith)

  ends_by_left : (witnesses questions : ℕ) → OneBefore (λ fewer. (questions left : ℕ) → EndsBy fewer questions left) witnesses
      → OneBefore (λ fewer. (left : ℕ) → EndsBy witnesses fewer left) questions → (left : ℕ) → EndsBy witnesses questions left
  ends_by_left witnesses questions fewer_witnesses fewer_questions zero =
      ends_by_next witnesses questions zero fewer_witnesses fewer_questions tt
  ends_by_left witnesses questions fewer_witnesses fewer_questions (suc left) =
      ends_by_next witnesses questions (suc left) fewer_witnesses fewer_questions
      (ends_by_left witnesses questions fewer_witnesses fewer_questions left)

  ends_by_questions : (witnesses : ℕ) → OneBefore (λ fewer. (questions left : ℕ) → EndsBy fewer questions left) witnesses
      → (questions left : ℕ) → EndsBy witnesses questions left
  ends_by_questions witnesses fewer_witnesses zero = ends_by_left witnesses zero fewer_witnesses tt
  ends_by_questions witnesses fewer_witnesses (suc questions) =
      ends_by_left witnesses (suc questions) fewer_witnesses (ends_by_questions witnesses fewer_witnesses questions)

  ends_by : (witnesses questions left : ℕ) → EndsBy witnesses questions left
  ends_by zero = ends_by_questions zero tt
  ends_by (suc witnesses) = ends_by_questions (suc witnesses) (ends_by witnesses)

  pub runs_end : (now : State) → IsRight graph settled now → Ends graph settled all now
  runs_end now right = ends_by (suc (length all)) (suc (length all)) (suc (frames_weight now.frames)) now right
      (omega arith) (omega arith) (omega arith)
