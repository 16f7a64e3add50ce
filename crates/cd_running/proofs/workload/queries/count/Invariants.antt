use Rattle.std.proofs.Common.{◌≤◌}
use Rattle.cd_model.specs.StandsFor.{StandsFor}
use Rattle.cd_empty.specs.Seen.{graph_of}
use Rattle.cd_running.specs.Queries.{Answered}
use Rattle.cd_running.specs.Inner.Asking.{query_type}
use Rattle.cd_running.proofs.workload.queries.count.Given as goal

-- the queries so far are answered, of which no more are answered with yes
abbrev pub invariant-loop-number : goal.invariant-loop-number
invariant-loop-number l =
    StandsFor (graph_of l.world) l.wanted (query_type 99) × Answered l.number l.yes × (l.yes ≤ l.number)
