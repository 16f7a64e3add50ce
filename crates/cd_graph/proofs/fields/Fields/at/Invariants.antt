use Rattle.std.proofs.Common.{◌≡◌, drop}
use Rattle.cd_graph.specs.PlainFormula.{plain_named}
use Rattle.cd_model.specs.Types.{field_of}
use Rattle.cd_graph.proofs.fields.Fields.at.Given as goal

-- what is left says of the label what all fields say
abbrev pub invariant-loop-field : goal.invariant-loop-field
invariant-loop-field l = field_of (plain_named (drop l.field-index l.field-items)) l.self.rest l.label
    ≡ field_of (plain_named l.self.named) l.self.rest l.label
