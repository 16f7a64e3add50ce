-- A decider that keeps one more element is sound, and what it kept stays.
use Rattle.std.proofs.Common.{◌≡◌, List, [], ◌∷◌, ◌++◌, refl, sym, ap, subst, ◌∙◌, length, append-nil}
use Rattle.cd_sets.specs.declared.question.Question.{Question}
use Rattle.cd_model.specs.AllOf.{AllOf}
use Rattle.cd_model.specs.Formula.{Graph}
use Rattle.cd_model.specs.Thing.{Thing}
use Rattle.cd_rules.specs.Family.{AsksNodes, IsClosed}
use Rattle.cd_model.proofs.Ones.{each_of_lists}
use Rattle.cd_elements.specs.declared.shape.ElementId.{ElementId}
use Rattle.cd_elements.specs.Table.{Names, element_at}
use Rattle.cd_facts.specs.Facts.{AreRight}
use Rattle.cd_rules.specs.Machine.{IsWitness, NotIn}
use Rattle.cd_rules.specs.Right.{Differ}
use Rattle.cd_empty.specs.declared.decider.Decider.{Decider}
use Rattle.cd_verdicts.specs.declared.verdict.Verdict.{Verdict}
use Rattle.cd_verdicts.specs.declared.verdict.Verdict.TheVariants.{Inhabited}
use Rattle.cd_empty.specs.Inner.Running.{Keeps, KeepsKnown}
use Rattle.cd_empty.specs.Kept.{IsSound, IsNamed, table, kept, witnesses}
use Rattle.cd_verdicts.specs.Witnesses.{witnesses_in}
use Rattle.cd_verdicts.specs.Verdicts.{family}
use Rattle.cd_empty.proofs.Growing.{grows_not, grows_then}
use Rattle.cd_empty.proofs.LongerTables.{witnesses_same}
use Rattle.cd_verdicts.proofs.QuestionsDiffer.{differ_joined}
use Rattle.cd_empty.proofs.SoundDeciders.{sound_again, sound_with_more}
use Rattle.cd_verdicts.proofs.VerdictsFound.{asked}
use Rattle.cd_verdicts.proofs.WitnessesOfVerdicts.{one_witness_more, none_empty_more, one_asked_more}

module _ (before after : Decider) (question : Question) (id : ElementId) (same : table after ≡ table before)
    (more : kept after ≡ kept before ++ (question, Inhabited id) ∷ []) where
  pub sound_with_one : (graph : Graph) → after.facts ≡ before.facts → NotIn (asked (kept before)) question
      → AsksNodes (length graph) question → Names (table before) id → IsWitness graph (question, element_at (table before) id)
      → IsSound graph before → IsSound graph after
  sound_with_one graph alike new asks named is sound = sound_again graph with_one after
      (record { table = ([], same ∙ sym (append-nil (table before))); kept = more; list = refl })
      (subst (AreRight graph (table after)) (sym alike) (subst (λ (table : List Thing). AreRight graph table before.facts) (sym same) sound.facts))
      (record {
        asks = each_of_lists (λ (one : Question × Verdict). AsksNodes (length graph) one.0) (kept before) last sound.asks (asks, tt);
        once = subst Differ (sym (one_asked_more (kept before) question (Inhabited id)))
            (differ_joined (asked (kept before)) (question ∷ []) sound.once ((λ there. there), tt) (new, tt));
        named = each_of_lists (λ (one : Question × Verdict). IsNamed (table before) one.1) (kept before) last sound.named (named, tt);
        witnesses = subst (AllOf (IsWitness graph)) (sym (one_witness_more (table before) (kept before) question id))
            (each_of_lists (IsWitness graph) (witnesses before) ((question, element_at (table before) id) ∷ []) sound.witnesses (is, tt));
        facts = sound.facts;
        closed = subst (IsClosed graph) (sym (none_empty_more (kept before) question id)) sound.closed;
      })
    where
      last : List (Question × Verdict)
      last = (question, Inhabited id) ∷ []

      with_one : Decider
      with_one = record before { verdicts = kept before ++ last; list = after.list }

  pub witness_more : witnesses after ≡ witnesses before ++ (question, element_at (table before) id) ∷ []
  witness_more = ap (λ (table : List Thing). witnesses_in table (kept after)) same
      ∙ ap (witnesses_in (table before)) more ∙ one_witness_more (table before) (kept before) question id

  pub keeps_with_one : Keeps before after
  keeps_with_one = record {
    table = ([], same ∙ sym (append-nil (table before)));
    kept = ((question, Inhabited id) ∷ [], more);
    settled = ap family more ∙ none_empty_more (kept before) question id;
  }

-- what is there stays
pub keeps_all : (decider : Decider) → Keeps decider decider
keeps_all decider = record { table = grows_not (table decider); kept = grows_not (kept decider); settled = refl }

pub keeps_then : (first second third : Decider) → Keeps first second → Keeps second third → Keeps first third
keeps_then first second third one other = record {
  table = grows_then (table first) (table second) (table third) one.table other.table;
  kept = grows_then (kept first) (kept second) (kept third) one.kept other.kept;
  settled = other.settled ∙ one.settled;
}

-- where what is known is the same
pub keeps_known : (before after : Decider) → KeepsKnown before after → Keeps before after
keeps_known before after same = record {
  table = same.table;
  kept = ([], same.kept ∙ sym (append-nil (kept before)));
  settled = ap family same.kept;
}

-- then the elements that are kept are the same
pub known_witnesses : (graph : Graph) (before after : Decider) → IsSound graph before → KeepsKnown before after
    → witnesses after ≡ witnesses before
known_witnesses graph before after sound same = ap (λ (table : List Thing). witnesses_in table (kept after)) same.table.1
    ∙ ap (witnesses_in (table before ++ same.table.0)) same.kept
    ∙ witnesses_same (table before) same.table.0 (kept before) sound.named

-- a decider stays sound where only elements are added to its table, and whatever its list is
pub sound_over_more : (graph : Graph) (before after : Decider) → IsSound graph before
    → (more : List Thing) × (table after ≡ table before ++ more) → kept after ≡ kept before → after.list ≡ before.list
    → after.facts ≡ before.facts → IsSound graph after
sound_over_more graph before after is grown same listed alike = sound_with_more graph before after
    (record { known = record { table = grown; kept = same; list = listed }; facts = alike }) is

pub sound_with_list : (graph : Graph) (decider : Decider) (list : List Question) → IsSound graph decider
    → IsSound graph (record decider { list = list })
sound_with_list graph decider list is = record {
  asks = is.asks;
  once = is.once;
  named = is.named;
  witnesses = is.witnesses;
  facts = is.facts;
  closed = is.closed;
}
