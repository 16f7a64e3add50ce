use Rattle.std.proofs.Common.{subst}
use Rattle.std.specs.Str.{chars}
use Rattle.cd_lex.specs.Inner.Quoted.{Means}
use Rattle.cd_lex.proofs.Quoting.{run_read}
use Rattle.cd_lex.proofs.quoted.take_plain.Goals as goal

pub returns-then-take_this : goal.returns-then-take_this
returns-then-take_this c =
    let run = c.take_run-text.ensures in
    subst (Means 34 c.args.cursor.now (chars c.take_run-text.result.now)) c.if-take_this.ensures
    (run_read 34 c.args.cursor.now _ _ run.run run.rest)
