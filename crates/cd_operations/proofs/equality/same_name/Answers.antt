use Rattle.std.proofs.Common.{◌∙◌, ap₂, bytes_eq}
use Rattle.cd_syntax.proofs.SameNames.{same_names}
use Rattle.cd_operations.proofs.equality.same_name.Goals as goal

pub returns : goal.returns
returns c = c.eq.ensures ∙ same_names _ _ c.name_of.utf8 c.name_of-2.utf8 ∙ ap₂ bytes_eq c.name_of.ensures c.name_of-2.ensures
