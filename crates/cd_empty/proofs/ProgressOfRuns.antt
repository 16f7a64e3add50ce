-- How far a run went, from how far its parts went.
use Rattle.std.proofs.Common.{◌≡◌, ◌<◌, List, [], length, Result, Ok, Err, OnOk, refl, ap, subst, ◌∙◌, arith}
use Rattle.cd_sets.specs.declared.question.Question.{Question}
use Rattle.cd_model.specs.Formula.{Graph}
use Rattle.cd_rules.specs.Right.{HasFirst}
use Rattle.cd_empty.specs.declared.decider.Decider.{Decider}
use Rattle.cd_empty.specs.declared.frame.Frame.{Frame}
use Rattle.cd_empty.specs.declared.went.Went.{Went}
use Rattle.cd_empty.specs.declared.went.Went.TheVariants.{Worked, Opened, Found, Done}
use Rattle.cd_empty.specs.Inner.PlainFrame.{state_of}
use Rattle.cd_empty.specs.Inner.Running.{HasGone, HasStopped, RunsOn}
use Rattle.cd_empty.specs.Kept.{witnesses}

-- work that was done before counts for nothing
pub stopped_after_work : (before now after : Decider) (frames some more : List Frame) (went : Went)
    → witnesses now ≡ witnesses before → now.list ≡ before.list → (went ≡ Worked → ⊥) → HasGone now after some more went
    → HasStopped before after frames more went
stopped_after_work before now after frames some more Worked same alike other gone = other refl
stopped_after_work before now after frames some more Opened same alike other (found, longer) =
    let count = ap length alike in (found ∙ same, omega arith)
stopped_after_work before now after frames some more Found same alike other gone = let count = ap length same in omega arith
stopped_after_work before now after frames some more Done same alike other gone = gone

-- a run that stopped neither at an element nor at its end stopped at a question
pub stopped_at_question : (before after : Decider) (frames more : List Frame) (went : Went) → (went ≡ Found → ⊥) → (went ≡ Done → ⊥)
    → HasStopped before after frames more went → (witnesses after ≡ witnesses before) × (length before.list < length after.list)
stopped_at_question before after frames more Worked not_found not_done stopped = absurd stopped
stopped_at_question before after frames more Opened not_found not_done stopped = stopped
stopped_at_question before after frames more Found not_found not_done stopped = absurd (not_found refl)
stopped_at_question before after frames more Done not_found not_done stopped = absurd (not_done refl)

-- a question that is the first stays so up to the end
pub first_at_end : {T E : Type 0} (result : Result T E) (graph : Graph) (before after : Decider) (frames more : List Frame)
    (question : Question) → HasFirst question (state_of before frames) → OnOk result (RunsOn graph before after frames more)
    → OnOk result (more ≡ []) → OnOk result (HasFirst question (state_of after []))
first_at_end (Ok one) graph before after frames more question has ran end =
    subst (λ (frames : List Frame). HasFirst question (state_of after frames)) end (ran.first question has)
first_at_end (Err one) graph before after frames more question has ran end = tt
