-- A decider stays sound, and a frame fit, where its table is longer and what is known is the same.
use Rattle.std.proofs.Common.{◌≡◌, List, ◌++◌, length, map, sym, subst}
use Rattle.std.specs.Option.{option_map}
use Rattle.cd_sets.specs.declared.question.Question.{Question}
use Rattle.cd_model.specs.AllOf.{AllOf}
use Rattle.cd_model.specs.Formula.{Graph}
use Rattle.cd_model.specs.Thing.{Thing, Pairs}
use Rattle.cd_facts.specs.Facts.{Fact, AreRight}
use Rattle.cd_rules.specs.Machine.{IsWitness}
use Rattle.cd_rules.specs.Right.{Differ, IsWorkOf}
use Rattle.cd_normal.specs.PlainClause.{plain_clause}
use Rattle.cd_rules.specs.Family.{AsksNodes, IsClosed}
use Rattle.cd_tasks.specs.PlainTask.{plain_task}
use Rattle.cd_empty.specs.declared.decider.Decider.{Decider}
use Rattle.cd_empty.specs.declared.frame.Frame.{Frame}
use Rattle.cd_verdicts.specs.declared.verdict.Verdict.{Verdict}
use Rattle.cd_empty.specs.Inner.Fit.{IsFit, IsFunctionSoFar}
use Rattle.cd_empty.specs.Inner.PlainFrame.{plain_work, known}
use Rattle.cd_empty.specs.Inner.Running.{KeepsKnown}
use Rattle.cd_empty.specs.Inner.Working.{IsReady, AddsElements}
use Rattle.cd_empty.specs.Kept.{IsSound, IsNamed, table, kept}
use Rattle.cd_verdicts.specs.Witnesses.{witnesses_in}
use Rattle.cd_verdicts.specs.Verdicts.{family}
use Rattle.cd_empty.proofs.LongerTables.{pairs_longer, pairs_same, verdicts_longer, witnesses_same, facts_longer}

-- the parts of soundness, over what a decider keeps
record AreSound (graph : Graph) (table : List Thing) (kept : List (Question × Verdict)) (facts : List Fact) : Type 0 where
  asks : AllOf (λ one. AsksNodes (length graph) one.0) kept
  once : Differ (map (λ one. one.0) kept)
  named : AllOf (λ one. IsNamed table one.1) kept
  witnesses : AllOf (IsWitness graph) (witnesses_in table kept)
  facts_right : AreRight graph table facts
  closed : IsClosed graph (family kept)

parts_of_sound : (graph : Graph) (decider : Decider) → IsSound graph decider
    → AreSound graph (table decider) (kept decider) decider.facts
parts_of_sound graph decider sound = record {
  asks = sound.asks;
  once = sound.once;
  named = sound.named;
  witnesses = sound.witnesses;
  facts_right = sound.facts;
  closed = sound.closed;
}

sound_of_parts : (graph : Graph) (decider : Decider) → AreSound graph (table decider) (kept decider) decider.facts
    → IsSound graph decider
sound_of_parts graph decider parts = record {
  asks = parts.asks;
  once = parts.once;
  named = parts.named;
  witnesses = parts.witnesses;
  facts = parts.facts_right;
  closed = parts.closed;
}

parts_longer : (graph : Graph) (table more : List Thing) (kept : List (Question × Verdict)) (facts others : List Fact)
    → AreSound graph table kept facts → AreRight graph (table ++ more) others → AreSound graph (table ++ more) kept others
parts_longer graph table more kept facts others sound right = record {
  asks = sound.asks;
  once = sound.once;
  named = verdicts_longer table more kept sound.named;
  witnesses = subst (AllOf (IsWitness graph)) (sym (witnesses_same table more kept sound.named)) sound.witnesses;
  facts_right = right;
  closed = sound.closed;
}

-- where the facts are right again
pub sound_again : (graph : Graph) (before after : Decider) → KeepsKnown before after → AreRight graph (table after) after.facts
    → IsSound graph before → IsSound graph after
sound_again graph before after keeps right sound =
    let grown = keeps.table.1 in
    let parts = parts_longer graph (table before) keeps.table.0 (kept before) before.facts after.facts
    (parts_of_sound graph before sound) (subst (λ (table : List Thing). AreRight graph table after.facts) grown right) in
    sound_of_parts graph after
    (subst (λ (table : List Thing). AreSound graph table (kept after) after.facts) (sym grown)
    (subst (λ (kept : List (Question × Verdict)). AreSound graph (table before ++ keeps.table.0) kept after.facts) (sym keeps.kept) parts))

-- and where only elements are added
pub sound_with_more : (graph : Graph) (before after : Decider) → AddsElements before after → IsSound graph before
    → IsSound graph after
sound_with_more graph before after adds sound = sound_again graph before after adds.known right sound
  where
    right : AreRight graph (table after) after.facts
    right = subst (AreRight graph (table after)) (sym adds.facts)
        (subst (λ (table : List Thing). AreRight graph table before.facts) (sym adds.known.table.1)
        (facts_longer (table before) adds.known.table.0 graph before.facts sound.facts))

-- what is known is the same
pub same_known : (before after : Decider) → KeepsKnown before after → known after ≡ known before
same_known before after keeps = λ i. family (keeps.kept i) ++ keeps.list i

-- a frame still fits
fit_longer : (graph : Graph) (table more : List Thing) (frame : Frame) → IsFit graph table frame → IsFit graph (table ++ more) frame
fit_longer graph table more frame fit = record {
  conjuncts = fit.conjuncts;
  named = pairs_longer table more frame.pairs.items fit.named;
  function = subst (λ (pairs : Pairs). IsFunctionSoFar graph (option_map plain_clause frame.clause) pairs
      (map plain_task frame.later) (map plain_task frame.branches)) (sym (pairs_same table more frame.pairs.items fit.named)) fit.function;
}

pub fit_again : (graph : Graph) (before after : Decider) (frame : Frame) → KeepsKnown before after
    → IsFit graph (table before) frame → IsFit graph (table after) frame
fit_again graph before after frame keeps fit = subst (λ (table : List Thing). IsFit graph table frame) (sym keeps.table.1)
    (fit_longer graph (table before) keeps.table.0 frame fit)

-- so all stays as it has to be
pub ready_again : (graph : Graph) (before after : Decider) (frame : Frame) → KeepsKnown before after → IsSound graph after
    → IsReady graph before frame → IsReady graph after frame
ready_again graph before after frame keeps sound ready = record {
  sound = sound;
  work = subst (λ (known : List Question). IsWorkOf graph known frame.question (plain_work frame))
      (sym (same_known before after keeps)) ready.work;
  fit = fit_again graph before after frame keeps ready.fit;
}
