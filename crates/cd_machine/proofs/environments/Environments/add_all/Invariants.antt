use Rattle.std.proofs.Common.{◌≡◌, ◌<◌, ◌++◌, length}
use Rattle.cd_model.specs.AllOf.{AllOf}
use Rattle.cd_cells.specs.declared.values.Values.{Values}
use Rattle.cd_code.specs.Compiled.{ArePartsOf}
use Rattle.cd_machine.specs.Inner.Nodes.{parts_at, Longer}
use Rattle.cd_machine.proofs.environments.Environments.add_all.Given as goal

-- what is left, before what was added
abbrev pub invariant-loop-part : goal.invariant-loop-part
invariant-loop-part l = record {
  within : l.env.0 < length l.self;
  is : l.left ++ parts_at l.self l.env.0 ≡ l.fn.parts ++ parts_at l.fn.self l.fn.around.0;
  grows : Longer l.fn.self l.self;
  left : (values : Values) → ArePartsOf values l.fn.parts → ArePartsOf values l.left;
  each : (values : Values) → AllOf (ArePartsOf values) l.fn.self → ArePartsOf values l.fn.parts → AllOf (ArePartsOf values) l.self;
}

abbrev pub decreases-loop-part : goal.decreases-loop-part
decreases-loop-part l = length l.left
