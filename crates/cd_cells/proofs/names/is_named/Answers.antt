use Rattle.std.proofs.Common.{ap, ◌∙◌, bytes_eq}
use Rattle.std.specs.Str.{chars}
use Rattle.cd_syntax.proofs.SameNames.{same_names}
use Rattle.cd_cells.proofs.names.is_named.Goals as goal

pub returns : goal.returns
returns c =
    c.eq.ensures ∙ same_names _ _ c.name_of.utf8 c.utf8.text ∙ ap (λ name. bytes_eq name (chars c.args.text.now)) c.name_of.ensures
