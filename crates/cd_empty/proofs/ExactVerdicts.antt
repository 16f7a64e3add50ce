-- Verdicts are exact where the elements that are kept are in their questions and the questions without one are a closed family.
use Rattle.std.proofs.Common.{◌≡◌, List, [], ◌∷◌, ◌++◌, inl, inr, refl, subst, length}
use Rattle.cd_sets.specs.declared.question.Question.{Question}
use Rattle.cd_model.specs.AllOf.{AllOf}
use Rattle.cd_model.specs.BuiltIns.{built_ins}
use Rattle.cd_model.specs.Formula.{Graph}
use Rattle.cd_model.specs.Thing.{Thing}
use Rattle.cd_rules.specs.Machine.{IsWitness}
use Rattle.cd_rules.specs.Family.{IsOfFamily, IsClosed, AsksNodes}
use Rattle.cd_rules.proofs.ClosedStays.{closed_stays}
use Rattle.cd_rules.proofs.Subsumption.{subsumes_own}
use Rattle.cd_rules.proofs.NoMember.{element_out, value_out}
use Rattle.cd_empty.specs.declared.decider.Decider.{Decider}
use Rattle.cd_verdicts.specs.declared.verdict.Verdict.{Verdict}
use Rattle.cd_verdicts.specs.declared.verdict.Verdict.TheVariants.{Empty, Inhabited}
use Rattle.cd_empty.specs.Kept.{IsSound, IsNamed, table, kept}
use Rattle.cd_verdicts.specs.Witnesses.{witnesses_in}
use Rattle.cd_verdicts.specs.Verdicts.{HasNoElement, HasNoValue, IsExact, IsKept, family}
use Rattle.cd_empty.proofs.Growing.{grows_then}

-- a fact of each question with a verdict is one of each without element
pub each_of_family : (fact : Question → Type 0) (kept : List (Question × Verdict)) → AllOf (λ one. fact one.0) kept
    → AllOf fact (family kept)
each_of_family fact [] each = tt
each_of_family fact ((question, Empty) ∷ kept) each = (each.0, each_of_family fact kept each.1)
each_of_family fact ((question, Inhabited id) ∷ kept) each = each_of_family fact kept each.1

-- what holds of each verdict holds of one that is kept
pub of_kept : (fact : Question → Verdict → Type 0) (kept : List (Question × Verdict)) (question : Question) (verdict : Verdict)
    → AllOf (λ one. fact one.0 one.1) kept → IsKept kept question verdict → fact question verdict
of_kept fact [] question verdict each is = elim is [ ]
of_kept fact (one ∷ kept) question verdict each (inl same) =
    subst (λ (one : Question × Verdict). fact one.0 one.1) same each.0
of_kept fact (one ∷ kept) question verdict each (inr later) = of_kept fact kept question verdict each.1 later

module _ (graph : Graph) (begins : (more : Graph) × (graph ≡ built_ins ++ more)) where
  -- no element and no value is in a question of a closed family, since it stays closed in longer graphs
  none_in : (family : List Question) → AllOf (AsksNodes (length graph)) family → IsClosed graph family
      → (question : Question) → IsOfFamily question family → HasNoElement graph question × HasNoValue graph question
  none_in family asks closed question there = (
    λ is element asking. element_out graph begins family closed is element question asking (subsumes_own family question there),
    λ more interfaces v value asking.
        value_out (graph ++ more) (grows_then built_ins graph (graph ++ more) begins (more, refl)) family
        (closed_stays graph more family asks closed) interfaces v value question asking (subsumes_own family question there),
  )

  each_exact : (table : List Thing) (kept : List (Question × Verdict)) → AllOf (λ one. IsNamed table one.1) kept
      → AllOf (IsWitness graph) (witnesses_in table kept)
      → ((question : Question) → IsOfFamily question (family kept) → HasNoElement graph question × HasNoValue graph question)
      → AllOf (λ one. IsExact graph table one.0 one.1) kept
  each_exact table [] named witnesses none = tt
  each_exact table ((question, Empty) ∷ kept) named witnesses none = (
    none question (inl refl),
    each_exact table kept named.1 witnesses (λ other there. none other (inr there)),
  )
  each_exact table ((question, Inhabited id) ∷ kept) named witnesses none = (
    (named.0, witnesses.0.0, witnesses.0.1),
    each_exact table kept named.1 witnesses.1 none,
  )

  -- so all verdicts of a sound decider are exact
  pub all_exact : (decider : Decider) → IsSound graph decider → AllOf (λ one. IsExact graph (table decider) one.0 one.1) (kept decider)
  all_exact decider sound = each_exact (table decider) (kept decider) sound.named sound.witnesses
      (none_in (family (kept decider)) (each_of_family (AsksNodes (length graph)) (kept decider) sound.asks) sound.closed)
