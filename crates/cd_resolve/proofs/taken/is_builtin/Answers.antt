use Rattle.std.proofs.Common.{◌∙◌, ap, is_some}
use Rattle.cd_tables.specs.Rows.{row_of}
use Rattle.cd_tables.specs.Words.{type_names}
use Rattle.cd_resolve.specs.Inner.BuiltinNames.{is_builtin as is_builtin_name}
use Rattle.cd_resolve.proofs.taken.is_builtin.Goals as goal

pub returns : goal.returns
unfolding is_builtin_name
returns c =
    c.is_some.ensures ∙ ap is_some (c.type_name.ensures ∙ ap (row_of type_names) c.as_str.ensures)
