use Rattle.std.proofs.Common.{◌≡◌, drop}
use Rattle.std.specs.Str.{chars}
use Rattle.cd_graph.specs.PlainFormula.{plain_named}
use Rattle.cd_asking.specs.Inner.Shapes.{is_named}
use Rattle.cd_asking.proofs.shape.is_named.Given as goal

-- it is among the labels that are left
abbrev pub invariant-loop-field : goal.invariant-loop-field
invariant-loop-field l = is_named (plain_named (drop l.field-index l.field-items)) (chars l.label) ≡ is_named (plain_named l.type_is.named) (chars l.label)
