-- The actions of the code as plain data.
use Rattle.cd_lr.specs.Automaton as machine
use Rattle.cd_grammar.specs.declared.table.Action.{Action}
use Rattle.cd_grammar.specs.declared.table.Action.TheVariants as action

abbrev pub plain_action : Action → machine.Action
plain_action (action.Shift opens state) = machine.Shift opens state
plain_action (action.Reduce rule) = machine.Reduce rule
plain_action action.Accept = machine.Accept
plain_action action.Refuse = machine.Refuse
