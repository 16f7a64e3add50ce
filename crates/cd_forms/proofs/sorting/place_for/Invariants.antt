use Rattle.std.proofs.Common.{◌≡◌, ◌++◌, take, drop}
use Rattle.cd_model.specs.SortedFields.{inserted}
use Rattle.cd_graph.specs.PlainFormula.{plain_field, plain_named}
use Rattle.cd_forms.proofs.sorting.place_for.Given as goal

-- the field belongs among what is left
abbrev pub invariant-loop-index : goal.invariant-loop-index
invariant-loop-index l = inserted (l.label, plain_field l.fn.field) (plain_named l.sorted)
    ≡ plain_named (take l.index l.sorted)
    ++ inserted (l.label, plain_field l.fn.field) (plain_named (drop l.index l.sorted))
