use Rattle.cd_model.proofs.BuiltInsStand.{built_in_stands}
use Rattle.cd_model.proofs.laws.built_ins_stand.Goals as goal

pub returns : goal.returns
returns c = built_in_stands
