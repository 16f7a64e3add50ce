use Rattle.std.proofs.Common.{length, []}
use Rattle.cd_lex.specs.Inner.Reading.{IsReadTo}
use Rattle.cd_lex.proofs.next_token.read_lexeme.Given as goal

-- blanks and comments are read
abbrev pub invariant-loop-kind : goal.invariant-loop-kind
invariant-loop-kind l = IsReadTo l.end l.fn.joined l.fn.cursor [] l.joined l.cursor

abbrev pub decreases-loop-kind : goal.decreases-loop-kind
decreases-loop-kind l = length l.cursor
