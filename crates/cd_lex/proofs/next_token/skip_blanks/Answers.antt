use Rattle.std.proofs.Common.{◌∙◌, ap, sym, length}
use Rattle.std.specs.Prelude.{◌&&◌, ◌==◌}
use Rattle.cd_lex.proofs.Blanks.{past_bytes, never_joined, blanks_skipped, fewer}
use Rattle.cd_lex.proofs.next_token.skip_blanks.Goals as goal

pub returns-then-joined-clause-read : goal.returns-then-joined-clause-read
returns-then-joined-clause-read c =
    blanks_skipped _ _ _ c.take_run-blanks.ensures.run c.take_run-blanks.ensures.rest _ _
    (c.is_empty.ensures ∙ ap (λ b. b && (length c.take_run-blanks.result.now == 0))
    (sym c.if-joined.true)
    ∙ past_bytes c.args.joined c.take_run-blanks.result.now c.take_run-blanks.utf8)

pub returns-then-joined-clause-fewer : goal.returns-then-joined-clause-fewer
returns-then-joined-clause-fewer c = fewer _ _ c.take_run-blanks.ensures.rest

pub returns-else-joined-clause-read : goal.returns-else-joined-clause-read
returns-else-joined-clause-read c =
    blanks_skipped _ _ _ c.take_run-blanks.ensures.run c.take_run-blanks.ensures.rest _ _
    (never_joined _ _ c.if-joined.false)

pub returns-else-joined-clause-fewer : goal.returns-else-joined-clause-fewer
returns-else-joined-clause-fewer c = fewer _ _ c.take_run-blanks.ensures.rest
