use Rattle.std.proofs.Common.{◌≡◌, map, drop}
use Rattle.cd_graph.specs.PlainFormula.{plain_named}
use Rattle.cd_asking.specs.Inner.Shapes.{in_rest}
use Rattle.cd_asking.specs.Inner.Asked.{held}
use Rattle.cd_asking.proofs.shape.in_rest.Given as goal

-- it depends on the fields that are left
abbrev pub invariant-loop-field : goal.invariant-loop-field
invariant-loop-field l =
    in_rest (map held (drop l.field-index l.fields)) (plain_named l.type_is.named) l.type_is.rest
    ≡ in_rest (map held l.fields) (plain_named l.type_is.named) l.type_is.rest
