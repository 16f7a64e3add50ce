use Rattle.std.proofs.Common.{◌≡◌, [], map, drop}
use Rattle.cd_graph.specs.PlainFormula.{plain_named}
use Rattle.cd_program.specs.Expr.{fields_of}
use Rattle.cd_program.specs.PlainExpr.{plain_field}
use Rattle.cd_forms.specs.Inner.Sorting.{sorted_over, typed_fields}
use Rattle.cd_forms.proofs.sorting.fields_in_order.Given as goal

-- the fields that are left, inserted among those so far, are all in order
abbrev pub invariant-loop-index : goal.invariant-loop-index
invariant-loop-index l = sorted_over (plain_named l.named.items)
    (typed_fields (fields_of (map plain_field (drop l.index l.fields))) (drop l.index l.parts))
    ≡ sorted_over [] (typed_fields (fields_of (map plain_field l.fields)) l.parts)
