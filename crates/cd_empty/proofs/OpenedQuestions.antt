-- A new question gets an element, or it is assumed to have none and gets a frame.
use Rattle.std.proofs.Common.{◌≡◌, ℕ, zero, suc, List, [], ◌∷◌, ◌++◌, ◌⊎◌, Some, None, length, map, inl, inr, refl, sym, ap, subst, ◌∙◌}
use Rattle.std.proofs.Common.{slice_get}
use Rattle.std.proofs.lemmas.Option.{none-some, same_Some}
use Rattle.cd_sets.specs.declared.question.Question.{Question}
use Rattle.cd_model.specs.AllOf.{AllOf, AnyOf}
use Rattle.cd_model.specs.Formula.{Graph}
use Rattle.cd_model.specs.Thing.{Thing}
use Rattle.cd_rules.specs.BasicSets.{HasNoBasic}
use Rattle.cd_rules.specs.Family.{AsksNodes}
use Rattle.cd_rules.specs.PartialConjuncts.{Partial, partial_conjuncts}
use Rattle.cd_rules.proofs.ClausesByKind.{accounts_for_clauses, partial_conjuncts_are}
use Rattle.cd_rules.specs.Machine.{Witness, state, frame, work, NotIn, Step, opens, knows}
use Rattle.cd_rules.specs.Right.{HasFirst}
use Rattle.cd_empty.specs.declared.decider.Decider.{Decider}
use Rattle.cd_empty.specs.declared.frame.Frame.{Frame}
use Rattle.cd_empty.specs.declared.went.Went.{Went}
use Rattle.cd_empty.specs.declared.went.Went.TheVariants.{Worked, Opened, Found, Done}
use Rattle.cd_empty.specs.Inner.Doing.{IsUnknown}
use Rattle.cd_empty.specs.Inner.Fit.{IsFit}
use Rattle.cd_empty.specs.Inner.PlainFrame.{plain_frame, state_of, settled}
use Rattle.cd_empty.specs.Inner.Running.{IsRunning, Keeps, HasFound, IsOpened, IsStepped}
use Rattle.cd_empty.specs.Kept.{table, witnesses}
use Rattle.cd_empty.proofs.RunningDeciders.{unknown_is_new, fits_again}

-- what stands at a place is there
there_at : (questions : List Question) (place : ℕ) (question : Question) → slice_get questions place ≡ Some question
    → AnyOf (λ other. other ≡ question) questions
there_at [] place question at = absurd (none-some question at)
there_at (one ∷ questions) zero question at = inl (same_Some one question at)
there_at (one ∷ questions) (suc place) question at = inr (there_at questions place question at)

-- a question that is not there is added
pub is_added : (old new : List Question) (place : ℕ) (question : Question) → NotIn old question → slice_get new place ≡ Some question
    → (new ≡ old) ⊎ (new ≡ old ++ question ∷ []) → new ≡ old ++ question ∷ []
is_added old new place question none at (inl same) =
    absurd (none (subst (AnyOf (λ other. other ≡ question)) same (there_at new place question at)))
is_added old new place question none at (inr added) = added

module _ (graph : Graph) where
  -- the question is assumed to have no element
  pub stepped_by_question : (before after : Decider) (question : Question) (conjuncts : List Partial) (first : Frame) (frames : List Frame)
      → IsRunning graph before frames → IsUnknown before question → AsksNodes (length graph) question → HasNoBasic graph question
      → conjuncts ≡ partial_conjuncts graph question
      → plain_frame first ≡ frame (length before.list) question (work conjuncts None [] []) → IsFit graph (table before) first
      → table after ≡ table before → witnesses after ≡ witnesses before → after.list ≡ before.list ++ question ∷ []
      → IsStepped graph before after frames (first ∷ frames)
  stepped_by_question before after question conjuncts first frames running unknown asks basic are plain fit same found listed = record {
    step = subst (Step graph (settled before) (state_of before frames)) opened
        (opens (state_of before frames) question (partial_conjuncts graph question) (unknown_is_new graph before frames question unknown) asks
        (partial_conjuncts_are graph question)
        (accounts_for_clauses graph (settled before ++ (before.list ++ question ∷ [])) question basic));
    fit = subst (λ (table : List Thing). AllOf (IsFit graph table) (first ∷ frames)) (sym same) (fit, running.fit);
  }
    where
      opened : state (witnesses before) (before.list ++ question ∷ [])
          (frame (length before.list) question (work (partial_conjuncts graph question) None [] []) ∷ map plain_frame frames)
          ≡ state_of after (first ∷ frames)
      opened =
          let found_same = sym found in
          let listed_same = sym listed in
          let conjuncts_same = sym are in
          let its_frame = ap (λ (conjuncts : List Partial). frame (length before.list) question (work conjuncts None [] [])) conjuncts_same ∙ sym plain in
          λ i. state (found_same i) (listed_same i) (its_frame i ∷ map plain_frame frames)

  -- an element of it is kept
  pub stepped_by_basic : (before after : Decider) (question : Question) (frames : List Frame) → IsRunning graph before frames
      → IsUnknown before question → Keeps before after → HasFound graph before after question
      → IsStepped graph before after frames frames
  stepped_by_basic before after question frames running unknown keeps (e, is, found, listed) = record {
    step = subst (Step graph (settled before) (state_of before frames)) known
        (knows (state_of before frames) (question, e) (unknown_is_new graph before frames question unknown) is);
    fit = fits_again graph before over frames (record { table = keeps.table; kept = refl; list = refl }) running.fit;
  }
    where
      -- what was known, over the longer table
      over : Decider
      over = record after { verdicts = before.verdicts; list = before.list }

      known : state (witnesses before ++ (question, e) ∷ []) before.list (map plain_frame frames) ≡ state_of after frames
      known =
          let found_same = sym found in
          let listed_same = sym listed in
          λ i. state (found_same i) (listed_same i) (map plain_frame frames)

  -- the first question of a run is the first of the list, or has an element
  pub has_first : (before after : Decider) (question : Question) (went : Went) (frames : List Frame) → before.list ≡ []
      → IsOpened graph before after question went → HasFirst question (state_of after frames)
  has_first before after question Worked frames start opened = absurd opened
  has_first before after question Done frames start opened = absurd opened
  has_first before after question Opened frames start (found, listed) =
      inr ([], listed ∙ ap (λ list. list ++ question ∷ []) start)
  has_first before after question Found frames start (e, is, found, listed) =
      inl (subst (AnyOf (λ (witness : Witness). witness.0 ≡ question)) (sym found) (last_one (witnesses before)))
    where
      last_one : (all : List Witness) → AnyOf (λ (witness : Witness). witness.0 ≡ question) (all ++ (question, e) ∷ [])
      last_one [] = inl refl
      last_one (one ∷ all) = inr (last_one all)
