use Rattle.std.proofs.Common.{◌≡◌, map, drop}
use Rattle.std.specs.List.{list_all}
use Rattle.cd_model.specs.Types.{field_of}
use Rattle.cd_graph.specs.PlainFormula.{plain_named}
use Rattle.cd_asking.specs.Inner.Shapes.{in_field, item_at, labels, in_named}
use Rattle.cd_asking.specs.Inner.Asked.{held}
use Rattle.cd_asking.proofs.shape.in_named.Given as goal

-- it depends on the labels that are left
abbrev pub invariant-loop-label : goal.invariant-loop-label
invariant-loop-label l =
    list_all (λ label. in_field (item_at (map held l.fields) label) (field_of (plain_named l.type_is.named) l.type_is.rest label))
    (labels (plain_named (drop l.label-index l.label-items)))
    ≡ in_named (map held l.fields) (plain_named l.type_is.named) l.type_is.rest
