use Rattle.std.proofs.Common.{◌∙◌, ap, ap₂, reverse, List, ◌++◌}
use Rattle.cd_moves.specs.Automaton.{Move}
use Rattle.cd_moves.specs.declared.moves.Moves.{Moves as CodeMoves}
use Rattle.cd_matching.specs.PlainPattern.{plain_regular}
use Rattle.cd_moves.specs.Inner.Rows.{plain_rows, rows_back}
use Rattle.cd_moves.proofs.LastPart.{rows_turned}
use Rattle.cd_kernel.proofs.copies.plan_of.Goals as goal

-- the rows were made from the last one on
pub returns : goal.returns
returns c = record {
  start = c.in_ok-start.ensures;
  rows = ap plain_rows c.reverse.ensures.items ∙ rows_turned c.add_states.new.rows.items
      ∙ ap reverse (c.in_ok-add_states.ensures
      ∙ ap₂ (λ (before : List CodeMoves) (row : List Move).
      plain_rows before ++ rows_back (plain_regular c.args.is.now) 0 row) c.new-rows.ensures.items
      c.in_ok-end.ensures);
}
