-- The stack of the code as plain data, where `plain` makes plain data of a part.
use Rattle.std.specs.Prelude.{ℕ, List, ◌∷◌, map, reverse}
use Rattle.cd_lr.specs.Automaton as machine
use Rattle.cd_lr.specs.Automaton.{state_of, room_of}
use Rattle.cd_grammar.specs.Language.{Placed}
use Rattle.cd_grammar.specs.Listed.{automaton, the_grammar}
use Rattle.cd_grammar.specs.Parts as parts
use Rattle.cd_parser.specs.declared.cell.Cell.{Cell}

abbrev pub plain_value : {P : Type 0} → (P → parts.Part) → Cell P → Placed
plain_value plain cell = (cell.span, plain cell.part)

abbrev pub plain_cell : {P : Type 0} → (P → parts.Part) → Cell P → machine.Cell Placed
plain_cell plain cell =
    record { state = cell.state; room = cell.room; value = plain_value plain cell }

-- the top one first
abbrev pub plain_stack : {P : Type 0} → (P → parts.Part) → List (Cell P)
    → List (machine.Cell Placed)
plain_stack plain cells = reverse (map (plain_cell plain) cells)

-- what a rule made is put where its left side leads
abbrev pub put : (most rule : ℕ) → Placed → List (machine.Cell Placed)
    → List (machine.Cell Placed)
put most rule value stack = record {
  state = automaton.goto (state_of stack) (the_grammar.left rule);
  room = room_of most stack;
  value = value;
} ∷ stack
