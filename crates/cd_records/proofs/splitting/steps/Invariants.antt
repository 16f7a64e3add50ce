use Rattle.std.proofs.Common.{◌++◌, List, drop, map}
use Rattle.cd_empty.specs.Seen.{graph_of}
use Rattle.cd_products.specs.Inner.After.{IsAfter}
use Rattle.cd_records.specs.Inner.Leaving.{AreSteps, Choice}
use Rattle.cd_records.specs.Inner.Plain.{plain_choice}
use Rattle.cd_records.proofs.splitting.steps.Given as goal

-- the choices so far, and what those that are left become, are all
abbrev pub invariant-loop-choice : goal.invariant-loop-choice
invariant-loop-choice l = record {
  after : IsAfter l.fn.world l.world;
  steps : (rest : List Choice)
      → AreSteps (graph_of l.fn.world) l.question (map plain_choice (drop l.choice-index l.choices)) rest
      → AreSteps (graph_of l.fn.world) l.question (map plain_choice l.choices)
      (map plain_choice l.all.items ++ rest);
}
