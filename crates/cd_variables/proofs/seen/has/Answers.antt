use Rattle.std.proofs.Common.{ap, ◌∙◌, is_some}
use Rattle.cd_variables.proofs.NamesFound.{found_is_has}
use Rattle.cd_variables.proofs.seen.has.Goals as goal

-- a name has a first place where it is among the names
pub returns : goal.returns
returns c = c.is_some.ensures ∙ ap is_some c.find.ensures ∙ found_is_has c.args.names.now c.args.name.now
