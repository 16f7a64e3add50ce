use Rattle.std.proofs.Common.{◌≡◌, ◌++◌, map, drop}
use Rattle.cd_needs.specs.RecordType.{record_types}
use Rattle.cd_needs.proofs.needed.rests.Given as goal

-- the nodes so far, and those of the types that are left, are all
abbrev pub invariant-loop-fields : goal.invariant-loop-fields
invariant-loop-fields l = l.nodes.items ++ map (λ type. type.rest) (record_types (drop l.fields-index l.types))
    ≡ map (λ type. type.rest) (record_types l.fn.types)
