use Rattle.std.proofs.Common.{sym, ◌∙◌}
use Rattle.cd_lex.proofs.Quoting.{run_read, ended, escape_read, backslash_stops}
use Rattle.cd_lex.proofs.quoted.read_quoted.Goals as goal

pub loop-c-init : goal.loop-c-init
loop-c-init c = (
  run_read c.args.quote c.args.cursor.now _ _ (c.set.ensures ∙ c.take_run.ensures.run)
      c.take_run.ensures.rest,
  c.take_run.ensures.ends,
)

pub returns-in_default : goal.returns-in_default
returns-in_default c =
    ended _ _ _ _ c.loop-c.invariant.0 (sym c.again-ahead.ensures ∙ c.in_default.ensures)

pub loop-c-preserved : goal.loop-c-preserved
loop-c-preserved c =
    let at = sym c.again-ahead.ensures ∙ c.in-Some.ensures in
    let backslash = backslash_stops _ _ _ _ c.loop-c.invariant.1 at c.if-c-quote.false in
    let run = c.take_run-run.ensures in (
      escape_read _ _ _ _ _ _ _ _ _ _ _ c.loop-c.invariant.0 at backslash c.in-Means.ensures
          run.run run.rest c.in_ok-push-in-Means.ensures,
      run.ends,
    )
