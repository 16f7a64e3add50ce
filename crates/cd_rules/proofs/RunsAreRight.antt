-- What each step keeps all do; what a state is at first, and what is so at last.
use Rattle.std.proofs.Common.{List, [], ◌∷◌, length, sym, subst}
use Rattle.cd_sets.specs.declared.question.Question.{Question}
use Rattle.cd_model.specs.AllOf.{AllOf}
use Rattle.cd_model.specs.Formula.{Graph}
use Rattle.cd_model.proofs.Covered.{each_parts}
use Rattle.cd_rules.specs.Family.{AsksNodes}
use Rattle.cd_model.proofs.Ones.{each_of_lists}
use Rattle.cd_rules.specs.Machine.{Witness, State, state, IsWitness, all_questions, Step, opens, knows, works, finds, leaves, Steps, no_step, one_more}
use Rattle.cd_rules.specs.Right.{Differ, AreFrames, IsRight}
use Rattle.cd_rules.proofs.FramesKept.{frames_kept, cut_to_place}
use Rattle.cd_rules.proofs.QuestionsOnce.{once_kept}

module _ (graph : Graph) (settled : List Question) where
  witnesses_kept : (before after : State) → Step graph settled before after → AllOf (IsWitness graph) before.witnesses
      → AllOf (IsWitness graph) after.witnesses
  witnesses_kept _ _ (opens before question conjuncts new asks of accounts) are = are
  witnesses_kept _ _ (knows before witness new is) are = each_of_lists (IsWitness graph) before.witnesses (witness ∷ []) are (is, tt)
  witnesses_kept _ _ (works witnesses list place question before after frames step) are = are
  witnesses_kept _ _ (finds witnesses list last frames e is) are =
      each_of_lists (IsWitness graph) witnesses ((last.question, e) ∷ []) are (is, tt)
  witnesses_kept _ _ (leaves witnesses list last frames is_done) are = are

  asks_kept : (before after : State) → Step graph settled before after → AreFrames graph settled before.list before.frames
      → AllOf (AsksNodes (length graph)) before.list → AllOf (AsksNodes (length graph)) after.list
  asks_kept _ _ (opens before question conjuncts new asks of accounts) are each =
      each_of_lists (AsksNodes (length graph)) before.list (question ∷ []) each (asks, tt)
  asks_kept _ _ (knows before witness new is) are each = each
  asks_kept _ _ (works witnesses list place question before after frames step) are each = each
  asks_kept _ _ (finds witnesses list last frames e is) (before, done, list_is, place_is, left, refuted, are) each =
      subst (AllOf (AsksNodes (length graph))) (sym (cut_to_place last.place list before last.question done list_is place_is))
      (each_parts (AsksNodes (length graph)) before (last.question ∷ done) (subst (AllOf (AsksNodes (length graph))) list_is each)).0
  asks_kept _ _ (leaves witnesses list last frames is_done) are each = each

  pub step_right : (before after : State) → Step graph settled before after → IsRight graph settled before → IsRight graph settled after
  step_right before after step is = record {
    frames = frames_kept graph settled before after step is.frames;
    witnesses = witnesses_kept before after step is.witnesses;
    asks = asks_kept before after step is.frames is.asks;
    once = once_kept settled graph before after step is.frames is.once;
  }

  pub steps_right : (before after : State) → Steps graph settled before after → IsRight graph settled before → IsRight graph settled after
  steps_right _ _ (no_step now) is = is
  steps_right _ _ (one_more before now next steps step) is = step_right now next step (steps_right before now steps is)

  -- steps after steps
  pub steps_on : (before now next : State) → Steps graph settled before now → Steps graph settled now next → Steps graph settled before next
  steps_on before _ _ first (no_step now) = first
  steps_on before _ _ first (one_more now later next steps step) = one_more before later next (steps_on before now later first steps) step

  -- at first nothing is listed
  pub right_at_first : (witnesses : List Witness) → AllOf (IsWitness graph) witnesses → Differ (all_questions settled (state witnesses [] []))
      → IsRight graph settled (state witnesses [] [])
  right_at_first witnesses are once = record { frames = tt; witnesses = are; asks = tt; once = once }
