use Rattle.std.proofs.Common.{◌∙◌}
use Rattle.cd_syntax.proofs.SameNames.{same_names}
use Rattle.cd_taking.proofs.fields.is_text.Goals as goal

-- equal texts have equal characters, and unequal ones unequal characters
pub returns : goal.returns
returns c = c.eq.ensures ∙ same_names c.args.name.now c.args.text.now c.utf8.name c.utf8.text
