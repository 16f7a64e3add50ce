use Rattle.std.proofs.Common.{[], drop}
use Rattle.cd_model.specs.AllOf.{AllOf}
use Rattle.cd_resolved.specs.Resolved.{function_of}
use Rattle.cd_empty.specs.Seen.{graph_of}
use Rattle.cd_check.specs.Inner.Giving.{PromiseKept}
use Rattle.cd_check.specs.Inner.Programs.{IsSoundFunction}
use Rattle.cd_check.specs.Inner.Promises.{IsPromised}
use Rattle.cd_check.specs.Inner.Ready.{IsAfter, scope_of, program_of, names_seen}
use Rattle.cd_check.proofs.program.check_functions.Given as goal

-- what is asked of all is asked of the rest, and where the rest keep what they promise, all do
abbrev pub invariant-loop-one : goal.invariant-loop-one
invariant-loop-one l = IsAfter l.base [] l.fn.world l.world
    × AllOf (IsPromised (scope_of l.base) (graph_of l.fn.world)) (drop l.one-index l.functions)
    × AllOf (IsSoundFunction (program_of l.base) (names_seen l.base [])) (drop l.one-index l.functions)
    × (AllOf (λ one. PromiseKept l.base (graph_of l.fn.world) [] (function_of one) one) (drop l.one-index l.functions)
    → AllOf (λ one. PromiseKept l.base (graph_of l.fn.world) [] (function_of one) one) l.functions)
