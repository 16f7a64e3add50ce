use Rattle.std.proofs.Common.{◌≡◌}
use Rattle.cd_lr.specs.Weights.{left_over}
use Rattle.cd_lr.specs.Validator.{state_weight}
use Rattle.cd_grammar.specs.Tables.{tables}
use Rattle.cd_parser.specs.PlainSteps.{plain_state}
use Rattle.cd_parser.specs.Reading.{Comes}
use Rattle.cd_parser.proofs.reader.read.Given as goal

-- the automaton comes to this state
abbrev pub invariant-loop-state : goal.invariant-loop-state
invariant-loop-state g l =
    Comes l.fn.goal l.fn.most l.fn.tokens (plain_state g.P.Parts.plain l.state) × (l.state.tokens.now ≡ l.fn.tokens)

abbrev pub decreases-loop-state : goal.decreases-loop-state
decreases-loop-state g l = left_over (state_weight tables) tables.top (plain_state g.P.Parts.plain l.state)
