use Rattle.std.proofs.Common.{◌∙◌}
use Rattle.cd_syntax.proofs.SameNames.{same_names}
use Rattle.cd_asking.proofs.shape.is_same.Goals as goal

-- equal texts have equal characters, and unequal ones unequal characters
pub returns : goal.returns
returns c = c.eq.ensures ∙ same_names c.args.one.now c.args.other.now c.utf8.one c.utf8.other
