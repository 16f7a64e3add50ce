use Rattle.std.proofs.Common.{subst, sym, ap, ◌∙◌}
use Rattle.cd_lex.specs.Inner.Prefixes.{after}
use Rattle.cd_lex.specs.Inner.Runs.{belongs, EndsRun}
use Rattle.cd_lex.proofs.Runs.{ends}
use Rattle.cd_lex.proofs.cursor.Cursor.take_run.Goals as goal

pub returns-clause-ends : goal.returns-clause-ends
returns-clause-ends c =
    subst (EndsRun c.args.run) (sym (c.split.ensures.rest ∙ ap
    (after (belongs c.args.run)) c.self.view_is)) (ends c.args.run c.args.self.now)
