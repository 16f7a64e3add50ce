use Rattle.std.proofs.Common.{length}
use Rattle.cd_lex.specs.declared.run.Run.TheVariants.{Quoted}
use Rattle.cd_lex.specs.Inner.Quoted.{Means}
use Rattle.cd_lex.specs.Inner.Runs.{EndsRun}
use Rattle.cd_lex.proofs.quoted.read_quoted.Given as goal

abbrev pub invariant-loop-c : goal.invariant-loop-c
invariant-loop-c l =
    Means l.quote l.fn.cursor l.buffer l.cursor × EndsRun (Quoted l.quote) l.cursor

abbrev pub decreases-loop-c : goal.decreases-loop-c
decreases-loop-c l = length l.cursor
