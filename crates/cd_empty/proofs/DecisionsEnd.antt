-- A run of the decider that is at its end: its list can be settled, and then the question that was asked has a verdict.
use Rattle.std.proofs.Common.{◌≡◌, List, [], ◌++◌, length, inl, inr, refl, sym, subst}
use Rattle.cd_sets.specs.declared.question.Question.{Question}
use Rattle.cd_model.specs.AllOf.{AllOf, AnyOf}
use Rattle.cd_model.specs.Formula.{Graph}
use Rattle.cd_facts.specs.Facts.{AreRight}
use Rattle.cd_rules.specs.Family.{AsksNodes, IsClosed}
use Rattle.cd_model.proofs.Ones.{each_of_lists, one_on_left, one_on_right}
use Rattle.cd_rules.specs.Machine.{IsWitness, NotIn}
use Rattle.cd_rules.specs.Right.{Differ, IsRight, HasFirst}
use Rattle.cd_rules.proofs.FramesKept.{closed_at_last}
use Rattle.cd_empty.specs.declared.decider.Decider.{Decider}
use Rattle.cd_verdicts.specs.declared.verdict.Verdict.{Verdict}
use Rattle.cd_empty.specs.Inner.PlainFrame.{settled, state_of}
use Rattle.cd_empty.specs.Kept.{IsSound, IsNamed, table, kept}
use Rattle.cd_verdicts.specs.Witnesses.{witnesses_in}
use Rattle.cd_verdicts.specs.Verdicts.{family, without_elements}
use Rattle.cd_verdicts.proofs.SettledLists.{asked_settled, family_settled, witnesses_settled, each_settled, each_verdict, witness_is_asked, can_be_settled}
use Rattle.cd_verdicts.proofs.VerdictsFound.{asked}

-- without verdicts and facts a decider is sound
pub sound_at_first : (graph : Graph) (decider : Decider) → kept decider ≡ [] → decider.facts ≡ [] → IsSound graph decider
sound_at_first graph decider none no_facts = record {
  asks = subst (AllOf (λ one. AsksNodes (length graph) one.0)) (sym none) tt;
  once = subst (λ kept. Differ (asked kept)) (sym none) tt;
  named = subst (AllOf (λ one. IsNamed (table decider) one.1)) (sym none) tt;
  witnesses = subst (λ kept. AllOf (IsWitness graph) (witnesses_in (table decider) kept)) (sym none) tt;
  facts = subst (AreRight graph (table decider)) (sym no_facts) tt;
  closed = subst (λ kept. IsClosed graph (family kept)) (sym none) tt;
}

module _ (graph : Graph) (decider : Decider) (sound : IsSound graph decider)
    (right : IsRight graph (settled decider) (state_of decider [])) where
  pub can_settle : Differ (asked (kept decider) ++ decider.list)
  can_settle = can_be_settled (table decider) (kept decider) decider.list sound.once right.once

  -- with the list settled the decider is sound
  pub sound_settled : (verdicts : List (Question × Verdict)) → verdicts ≡ kept decider ++ without_elements decider.list
      → IsSound graph (record decider { verdicts = verdicts })
  sound_settled verdicts same = record {
    asks = subst (AllOf (λ one. AsksNodes (length graph) one.0)) (sym same)
        (each_of_lists (λ one. AsksNodes (length graph) one.0) (kept decider) (without_elements decider.list) sound.asks
        (each_settled (AsksNodes (length graph)) decider.list right.asks));
    once = subst (λ verdicts. Differ (asked verdicts)) (sym same)
        (subst Differ (sym (asked_settled (kept decider) decider.list)) can_settle);
    named = subst (AllOf (λ one. IsNamed (table decider) one.1)) (sym same)
        (each_of_lists (λ one. IsNamed (table decider) one.1) (kept decider) (without_elements decider.list) sound.named
        (each_verdict (IsNamed (table decider)) decider.list tt));
    witnesses = subst (λ verdicts. AllOf (IsWitness graph) (witnesses_in (table decider) verdicts)) (sym same)
        (subst (AllOf (IsWitness graph)) (sym (witnesses_settled (table decider) (kept decider) decider.list)) sound.witnesses);
    facts = sound.facts;
    closed = subst (λ verdicts. IsClosed graph (family verdicts)) (sym same)
        (subst (IsClosed graph) (sym (family_settled (kept decider) decider.list))
        (closed_at_last graph (settled decider) decider.list sound.closed right.frames));
  }

-- a question with a witness, or the first of the list, has a verdict then
pub first_is_asked : (decider : Decider) (question : Question) → HasFirst question (state_of decider [])
    → AnyOf (λ other. other ≡ question) (asked (kept decider) ++ decider.list)
first_is_asked decider question (inl witness) = one_on_left (λ other. other ≡ question) (asked (kept decider)) decider.list
    (witness_is_asked (table decider) (kept decider) question witness)
first_is_asked decider question (inr (rest, same)) = one_on_right (λ other. other ≡ question) (asked (kept decider)) decider.list
    (subst (AnyOf (λ other. other ≡ question)) (sym same) (inl refl))

pub never_without : (decider : Decider) (question : Question) (verdicts : List (Question × Verdict))
    → HasFirst question (state_of decider []) → verdicts ≡ kept decider ++ without_elements decider.list
    → NotIn (asked verdicts) question → ⊥
never_without decider question verdicts first same none =
    none (subst (λ verdicts. AnyOf (λ other. other ≡ question) (asked verdicts)) (sym same)
    (subst (AnyOf (λ other. other ≡ question)) (sym (asked_settled (kept decider) decider.list)) (first_is_asked decider question first)))
