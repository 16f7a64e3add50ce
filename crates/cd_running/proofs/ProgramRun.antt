-- The run of the automaton over the tokens of the workload's program is computed, and makes the program.
use Rattle.std.proofs.Common.{◌≡◌, refl, List, [], ◌∷◌, Some}
use Rattle.cd_syntax.specs.TypeTree.{Declaration}
use Rattle.cd_tables.specs.Rows.{row_of}
use Rattle.cd_grammar.specs.declared.goal.Goal.TheVariants as goal
use Rattle.cd_grammar.specs.Parts.{AProgram}
use Rattle.cd_grammar.specs.Language.{IsProgram}
use Rattle.cd_grammar.specs.TreesAt.{declared_at}
use Rattle.cd_grammar.proofs.Runs.{ending, made, written}
use Rattle.cd_running.specs.Inner.WorkProgram.{log_type, entry_type, work_program}
use Rattle.cd_running.proofs.ProgramTokens.{program_tokens}

-- the run makes the types and the function of the program
abbrev types : List Declaration
types = declared_at "Log" 5 log_type ∷ declared_at "Entry" 30 entry_type ∷ []

program_is_made : made (ending goal.ProgramText 1000 1000 program_tokens) ≡ Some (AProgram types work_program.functions)
unfolding row_of
program_is_made = refl

pub tokens_write_program : IsProgram 1000 program_tokens work_program
tokens_write_program = (
  types,
  refl,
  written goal.ProgramText 1000 1000 program_tokens (AProgram types work_program.functions) program_is_made,
)
