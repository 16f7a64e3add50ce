use Rattle.std.proofs.Common.{◌≡◌}
use Rattle.cd_graph.specs.PlainFormula.{plain_named}
use Rattle.cd_resolve.specs.Inner.Leaves.{sorted_after, sorted}
use Rattle.cd_resolve.proofs.sort.sort.Given as goal

-- what is left, put among what was put, gives all in order
abbrev pub invariant-loop-field : goal.invariant-loop-field
invariant-loop-field l = sorted_after (plain_named l.all.items) (plain_named l.field-iterator.rest.items)
    ≡ sorted (plain_named l.fn.fields.items)
