-- The steps of the code as plain data.
use Rattle.std.specs.Prelude.{List, [], ◌∷◌, drop, map}
use Rattle.cd_lr.specs.Automaton as machine
use Rattle.cd_grammar.specs.Language.{Entry, Read, Placed}
use Rattle.cd_grammar.specs.Parts as parts
use Rattle.cd_parser.specs.PlainStacks.{plain_stack}
use Rattle.cd_parser.specs.declared.state.State.{State}
use Rattle.cd_parser.specs.declared.machine.Outcome.{Outcome}
use Rattle.cd_parser.specs.declared.machine.Outcome.TheVariants as outcome

-- the tokens that are left
abbrev pub rest_of : {P : Type 0} → State P → List Entry
rest_of state = map Read (drop state.index state.tokens.now)

abbrev pub plain_state : {P : Type 0} → (P → parts.Part) → State P → machine.Config Entry Placed
plain_state plain state =
    record { stack = plain_stack plain state.stack.items; rest = rest_of state }

-- where all is accepted one part was read, or the tokens end too soon
abbrev pub accepted : List (machine.Cell Placed) → machine.Next Entry Placed
accepted (cell ∷ []) = machine.Done cell.value
accepted _ = machine.Wrong

-- what a step led to, with the state after it
abbrev pub plain_outcome : {P : Type 0} → (P → parts.Part) → Outcome → State P
    → machine.Next Entry Placed
plain_outcome plain outcome.On state = machine.On (plain_state plain state)
plain_outcome plain outcome.Accept state = accepted (plain_stack plain state.stack.items)
plain_outcome plain outcome.Wrong state = machine.Wrong
plain_outcome plain outcome.TooDeep state = machine.TooDeep
