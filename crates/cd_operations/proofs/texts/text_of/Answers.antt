use Rattle.cd_operations.proofs.TextWritten.{written_on, written_end}
use Rattle.cd_operations.proofs.texts.text_of.Goals as goal

pub loop-c-preserved : goal.loop-c-preserved
loop-c-preserved c =
    written_on _ _ _ _ _ _ _ _ _ _ _ c.loop-c.invariant c.in-Some.ensures.steps c.in_ok-letter.ensures.grows c.in_ok-letter.ensures.is
    c.in_ok-made-2.ensures.grows c.in_ok-made-2.ensures.is

pub returns-clause-is : goal.returns-clause-is
returns-clause-is c = written_end _ _ _ _ _ c.utf8.text c.loop-c.invariant c.in-None.ensures.steps.0
