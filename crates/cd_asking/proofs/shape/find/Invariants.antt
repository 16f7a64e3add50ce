use Rattle.std.proofs.Common.{◌≡◌, map, drop}
use Rattle.std.specs.Str.{chars}
use Rattle.cd_asking.specs.Inner.Shapes.{item_at}
use Rattle.cd_asking.specs.Inner.Asked.{held}
use Rattle.cd_asking.proofs.shape.find.Given as goal

-- it stands among the fields that are left
abbrev pub invariant-loop-field : goal.invariant-loop-field
invariant-loop-field l = item_at (map held (drop l.field-index l.fields)) (chars l.label) ≡ item_at (map held l.fields) (chars l.label)
