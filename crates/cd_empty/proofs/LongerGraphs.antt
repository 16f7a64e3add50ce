-- A decider that is sound for a graph is sound for a longer one.
use Rattle.std.proofs.Common.{◌≡◌, ◌≤◌, ◌<◌, ℕ, true, false, List, [], ◌∷◌, ◌++◌, sym, subst, arith, length, length-append, append-nil}
use Rattle.std.proofs.Common.{Result, Ok, Err, OnOk, OnErr}
use Rattle.cd_sets.specs.declared.question.Question.{Question}
use Rattle.cd_model.specs.AllOf.{AllOf}
use Rattle.cd_model.specs.Formula.{Graph, IsGraph}
use Rattle.cd_model.specs.Membership.{answers}
use Rattle.cd_model.specs.Thing.{Thing}
use Rattle.cd_model.proofs.Extending.{kept_elements}
use Rattle.cd_elements.specs.Table.{element_at}
use Rattle.cd_facts.specs.Facts.{AreRight}
use Rattle.cd_facts.proofs.FactsKept.{right_in_more}
use Rattle.cd_rules.specs.Machine.{Witness, IsWitness}
use Rattle.cd_rules.specs.Family.{AsksNodes}
use Rattle.cd_rules.proofs.ClosedStays.{closed_stays}
use Rattle.cd_model.proofs.Ones.{each_weaker, each_of_two}
use Rattle.cd_empty.specs.declared.decider.Decider.{Decider}
use Rattle.cd_verdicts.specs.declared.verdict.Verdict.{Verdict}
use Rattle.cd_verdicts.specs.declared.verdict.Verdict.TheVariants.{Empty, Inhabited}
use Rattle.cd_empty.specs.Kept.{IsSound, table, kept}
use Rattle.cd_verdicts.specs.Witnesses.{witnesses_in}
use Rattle.cd_verdicts.specs.Verdicts.{family}
use Rattle.cd_empty.proofs.ExactVerdicts.{each_of_family}
use Rattle.cd_empty.proofs.Growing.{Grows, grows_not}

-- a question of nodes is one of more nodes
asks_more : (count more : ℕ) → count ≤ more → (question : Question) → AsksNodes count question → AsksNodes more question
asks_more count more larger question asks = (
  each_weaker (λ id. id.0 < count) (λ id. id.0 < more) (λ id below. omega arith) question.pos asks.0,
  each_weaker (λ id. id.0 < count) (λ id. id.0 < more) (λ id below. omega arith) question.neg asks.1,
)

module _ (graph more : Graph) (sound : IsGraph graph) where
  -- an element of a question of nodes is one of it in the longer graph
  still_witness : (witness : Witness) → AsksNodes (length graph) witness.0 → IsWitness graph witness
      → IsWitness (graph ++ more) witness
  still_witness witness asks is = (
    is.0,
    (
      each_of_two (λ id. id.0 < length graph) (λ id. answers graph witness.1 id true) (λ id. answers (graph ++ more) witness.1 id true)
          (λ id below inside. (kept_elements graph more sound witness.1 id true below).0 inside) witness.0.pos asks.0 is.1.0,
      each_of_two (λ id. id.0 < length graph) (λ id. answers graph witness.1 id false) (λ id. answers (graph ++ more) witness.1 id false)
          (λ id below outside. (kept_elements graph more sound witness.1 id false below).0 outside) witness.0.neg asks.1 is.1.1,
    ),
  )

  still_witnesses : (all : List Thing) (verdicts : List (Question × Verdict)) → AllOf (λ one. AsksNodes (length graph) one.0) verdicts
      → AllOf (IsWitness graph) (witnesses_in all verdicts) → AllOf (IsWitness (graph ++ more)) (witnesses_in all verdicts)
  still_witnesses all [] asks each = tt
  still_witnesses all ((question, Empty) ∷ verdicts) asks each = still_witnesses all verdicts asks.1 each
  still_witnesses all ((question, Inhabited id) ∷ verdicts) asks each =
      (still_witness (question, element_at all id) asks.0 each.0, still_witnesses all verdicts asks.1 each.1)

  pub still_sound : (decider : Decider) → IsSound graph decider → IsSound (graph ++ more) decider
  still_sound decider is = record {
    asks = each_weaker (λ one. AsksNodes (length graph) one.0) (λ one. AsksNodes (length (graph ++ more)) one.0)
        (λ one. asks_more (length graph) (length (graph ++ more)) (omega (arith, length-append graph more)) one.0) (kept decider) is.asks;
    once = is.once;
    named = is.named;
    witnesses = still_witnesses (table decider) (kept decider) is.asks is.witnesses;
    facts = subst (λ table. AreRight (graph ++ more) table decider.facts) (append-nil (table decider))
        (right_in_more graph more (table decider) [] decider.facts sound is.facts);
    closed = closed_stays graph more (family (kept decider)) (each_of_family (AsksNodes (length graph)) (kept decider) is.asks) is.closed;
  }

-- what a call left of a graph, which put formulas after it or left it as it was, is the graph and more
pub graph_grows : {T E : Type 0} (graph batch other : Graph) (result : Result T E) → OnOk result (other ≡ graph ++ batch)
    → OnErr result (other ≡ graph) → Grows graph other
graph_grows graph batch other (Ok one) added kept = (batch, added)
graph_grows graph batch other (Err one) added kept = subst (Grows graph) (sym kept) (grows_not graph)

-- so a decider is sound for that
pub sound_extended : (graph other : Graph) (decider : Decider) → IsGraph graph → Grows graph other → IsSound graph decider
    → IsSound other decider
sound_extended graph other decider sound (more, same) is =
    subst (λ other. IsSound other decider) (sym same) (still_sound graph more sound decider is)
