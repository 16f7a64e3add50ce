use Rattle.std.proofs.Common.{◌∙◌, ap}
use Rattle.cd_grammar.specs.Listed.{automaton}
use Rattle.cd_parser.proofs.Beginning.{first_shift, no_other}
use Rattle.cd_parser.proofs.reader.first_state.Goals as goal

pub returns-in-Shift : goal.returns-in-Shift
returns-in-Shift c =
    first_shift c.args.goal c.in-Shift.field-0 c.in-Shift.to
    (c.in-Shift.ensures ∙ ap (automaton.action 0) c.terminal_of_goal.ensures)

pub returns-in_default : goal.returns-in_default
returns-in_default c =
    absurd (no_other c.args.goal c.action_at.result
    (c.action_at.ensures ∙ ap (automaton.action 0) c.terminal_of_goal.ensures) c.in_default.not-Shift)
