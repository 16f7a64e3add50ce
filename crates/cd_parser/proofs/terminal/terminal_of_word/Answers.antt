use Rattle.std.proofs.Common.{◌∙◌, sym}
use Rattle.cd_parser.proofs.TypeNames.{named_type}
use Rattle.cd_parser.proofs.terminal.terminal_of_word.Goals as goal

pub returns-then-is_type_name : goal.returns-then-is_type_name
returns-then-is_type_name c = named_type c.args.name.now (sym c.is_type_name.ensures ∙ c.if-is_type_name.true)
