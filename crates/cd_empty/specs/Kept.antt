-- What a decider keeps.
use Rattle.std.specs.Prelude.{List, length, map}
use Rattle.cd_sets.specs.declared.question.Question.{Question}
use Rattle.cd_model.specs.Thing.{Thing}
use Rattle.cd_model.specs.AllOf.{AllOf}
use Rattle.cd_model.specs.Formula.{Graph}
use Rattle.cd_elements.specs.Elements as elements
use Rattle.cd_elements.specs.Table.{Names}
use Rattle.cd_facts.specs.Facts.{AreRight}
use Rattle.cd_rules.specs.Machine.{Witness, IsWitness}
use Rattle.cd_rules.specs.Right.{Differ}
use Rattle.cd_rules.specs.Family.{AsksNodes, IsClosed}
use Rattle.cd_empty.specs.declared.decider.Decider.{Decider}
use Rattle.cd_verdicts.specs.declared.verdict.Verdict.{Verdict}
use Rattle.cd_verdicts.specs.declared.verdict.Verdict.TheVariants.{Empty, Inhabited}
use Rattle.cd_verdicts.specs.Verdicts.{family}
use Rattle.cd_verdicts.specs.Witnesses.{witnesses_in}

-- its elements, and the questions that are settled, with their verdicts
abbrev pub table : Decider → List Thing
table decider = elements.table decider.elements

abbrev pub kept : Decider → List (Question × Verdict)
kept decider = decider.verdicts

abbrev pub witnesses : Decider → List Witness
witnesses decider = witnesses_in (table decider) (kept decider)

-- a verdict has an element of the table
abbrev pub IsNamed : List Thing → Verdict → Type 0
IsNamed table Empty = Unit {0}
IsNamed table (Inhabited id) = Names table id

-- A decider is sound for a graph where all that is settled asks nodes of the graph, one time each;
-- where the elements that are kept are of the table and in their questions; where the facts are
-- right; and where the questions without elements are a closed family
pub record IsSound (graph : Graph) (decider : Decider) : Type 0 where
  pub asks : AllOf (λ one. AsksNodes (length graph) one.0) (kept decider)
  pub once : Differ (map (λ one. one.0) (kept decider))
  pub named : AllOf (λ one. IsNamed (table decider) one.1) (kept decider)
  pub witnesses : AllOf (IsWitness graph) (witnesses decider)
  pub facts : AreRight graph (table decider) decider.facts
  pub closed : IsClosed graph (family (kept decider))
