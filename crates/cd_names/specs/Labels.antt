-- Records in which no label is written twice.
use Rattle.std.specs.Prelude.{◌≡◌, false, bytes_eq}
use Rattle.cd_syntax.specs.Name.{Name}
use Rattle.cd_program.specs.Expr.{Fields, NoField, AField}

abbrev pub LacksLabel : Name → Fields → Type 0
LacksLabel label NoField = Unit {0}
LacksLabel label (AField other at e rest) = (bytes_eq other label ≡ false) × LacksLabel label rest

abbrev pub LabelsDiffer : Fields → Type 0
LabelsDiffer NoField = Unit {0}
LabelsDiffer (AField label at e rest) = LacksLabel label rest × LabelsDiffer rest
