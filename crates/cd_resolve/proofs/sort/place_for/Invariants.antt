use Rattle.std.proofs.Common.{◌≡◌, ◌++◌, take, drop}
use Rattle.cd_graph.specs.PlainFormula.{plain_named}
use Rattle.cd_resolve.specs.Inner.Leaves.{inserted}
use Rattle.cd_resolve.specs.Inner.PlainState.{plain_one}
use Rattle.cd_resolve.proofs.sort.place_for.Given as goal

-- the field belongs among what is left
abbrev pub invariant-loop-index : goal.invariant-loop-index
invariant-loop-index l = inserted (plain_one l.field) (plain_named l.sorted)
    ≡ plain_named (take l.index l.sorted) ++ inserted (plain_one l.field) (plain_named (drop l.index l.sorted))
