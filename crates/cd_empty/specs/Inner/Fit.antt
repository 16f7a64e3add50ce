-- What is so of a frame of the code beside what is so of those of the machine.
use Rattle.std.specs.Prelude.{List, ◌∷◌, Option, Some, length, map}
use Rattle.std.specs.Option.{option_map}
use Rattle.cd_model.specs.AllOf.{AllOf}
use Rattle.cd_model.specs.Formula.{Graph}
use Rattle.cd_model.specs.Thing.{Thing, Pairs}
use Rattle.cd_elements.specs.declared.shape.ElementId.{ElementId}
use Rattle.cd_elements.specs.Table.{Names, IsResult, pairs_of}
use Rattle.cd_normal.specs.ConjunctsGoOn.{IsOfNodes}
use Rattle.cd_normal.specs.Partials.{partials}
use Rattle.cd_normal.specs.PlainClause.{plain_clause}
use Rattle.cd_rules.specs.Clauses.{Clause, Arrows}
use Rattle.cd_rules.specs.MadeForTasks.{IsFunctionBut, arrows_of}
use Rattle.cd_rules.specs.Tasks.{Task}
use Rattle.cd_tasks.specs.PlainTask.{plain_task}
use Rattle.cd_empty.specs.declared.frame.Frame.{Frame}

-- a pair of a function is made of elements of the table
abbrev pub IsPairNamed : List Thing → ElementId × Option ElementId → Type 0
IsPairNamed table pair = Names table pair.0 × IsResult table pair.1

-- where a clause of functions is begun, the function of these pairs is in it, but for the arrows of
-- the tasks that are not done
abbrev pub IsFunctionSoFar : Graph → Option Clause → Pairs → (later branches : List Task) → Type 0
IsFunctionSoFar graph (Some (Arrows wanted refused)) pairs later branches =
    AllOf (λ branch. IsFunctionBut graph wanted refused (arrows_of (branch ∷ later)) pairs) branches
IsFunctionSoFar graph clause pairs later branches = Unit {0}

pub record IsFit (graph : Graph) (table : List Thing) (frame : Frame) : Type 0 where
  pub conjuncts : AllOf (IsOfNodes (length graph)) (partials frame.conjuncts)
  pub named : AllOf (IsPairNamed table) frame.pairs.items
  pub function : IsFunctionSoFar graph (option_map plain_clause frame.clause)
      (pairs_of table frame.pairs.items) (map plain_task frame.later)
      (map plain_task frame.branches)
