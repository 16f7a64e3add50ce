-- What is so of a decider that runs.
use Rattle.std.specs.Prelude.{◌≡◌, ◌<◌, ◌++◌, List, [], ◌∷◌, length}
use Rattle.cd_sets.specs.declared.question.Question.{Question}
use Rattle.cd_model.specs.AllOf.{AllOf}
use Rattle.cd_model.specs.Formula.{Graph}
use Rattle.cd_model.specs.Thing.{Thing}
use Rattle.cd_rules.specs.Machine.{IsWitness, Step}
use Rattle.cd_rules.specs.Right.{IsRight, HasFirst}
use Rattle.cd_rules.specs.Weight.{frames_weight}
use Rattle.cd_empty.specs.declared.decider.Decider.{Decider}
use Rattle.cd_empty.specs.declared.frame.Frame.{Frame}
use Rattle.cd_empty.specs.declared.went.Went.{Went}
use Rattle.cd_empty.specs.declared.went.Went.TheVariants.{Worked, Opened, Found, Done}
use Rattle.cd_verdicts.specs.declared.verdict.Verdict.{Verdict}
use Rattle.cd_empty.specs.Inner.Fit.{IsFit}
use Rattle.cd_empty.specs.Inner.PlainFrame.{state_of, settled}
use Rattle.cd_empty.specs.Kept.{IsSound, table, kept, witnesses}

-- the state is right, and each frame fits
pub record IsRunning (graph : Graph) (decider : Decider) (frames : List Frame) : Type 0 where
  pub sound : IsSound graph decider
  pub right : IsRight graph (settled decider) (state_of decider frames)
  pub fit : AllOf (IsFit graph (table decider)) frames

-- what is there stays, and what is settled to have no element is the same
pub record Keeps (before after : Decider) : Type 0 where
  pub table : (more : List Thing) × (table after ≡ table before ++ more)
  pub kept : (more : List (Question × Verdict)) × (kept after ≡ kept before ++ more)
  pub settled : settled after ≡ settled before

-- what is known stays the same
pub record KeepsKnown (before after : Decider) : Type 0 where
  pub table : (more : List Thing) × (table after ≡ table before ++ more)
  pub kept : kept after ≡ kept before
  pub list : after.list ≡ before.list

-- how far it went
abbrev pub HasGone : (before after : Decider) (frames more : List Frame) → Went → Type 0
HasGone before after frames more Worked = (witnesses after ≡ witnesses before)
    × (after.list ≡ before.list)
    × (frames_weight (state_of after more).frames < frames_weight (state_of before frames).frames)
HasGone before after frames more Opened = (witnesses after ≡ witnesses before)
    × (length before.list < length after.list)
HasGone before after frames more Found = length (witnesses before) < length (witnesses after)
HasGone before after frames more Done = (more ≡ [])

-- the same, where work alone is no end
abbrev pub HasStopped : (before after : Decider) (frames more : List Frame) → Went → Type 0
HasStopped before after frames more Worked = ⊥
HasStopped before after frames more went = HasGone before after frames more went

-- one step of the machine was made, and each frame fits
pub record IsStepped (graph : Graph) (before after : Decider) (frames more : List Frame)
    : Type 0 where
  pub step : Step graph (settled before) (state_of before frames) (state_of after more)
  pub fit : AllOf (IsFit graph (table after)) more

-- the state is right again, and a question that is the first stays so
pub record RunsOn (graph : Graph) (before after : Decider) (frames more : List Frame)
    : Type 0 where
  pub running : IsRunning graph after more
  pub first : (question : Question) → HasFirst question (state_of before frames)
      → HasFirst question (state_of after more)

-- one more element is kept, of this question
abbrev pub HasFound : Graph → (before after : Decider) → Question → Type 0
HasFound graph before after question = (e : Thing) × IsWitness graph (question, e)
    × (witnesses after ≡ witnesses before ++ (question, e) ∷ []) × (after.list ≡ before.list)

-- an element of the question was found, or it is the last one of the list
abbrev pub IsOpened : Graph → (before after : Decider) → Question → Went → Type 0
IsOpened graph before after question Found = HasFound graph before after question
IsOpened graph before after question Opened = (witnesses after ≡ witnesses before)
    × (after.list ≡ before.list ++ question ∷ [])
IsOpened graph before after question _ = ⊥
