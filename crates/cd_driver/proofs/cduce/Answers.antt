use Rattle.cd_driver.specs.Command.{texts}
use Rattle.cd_driver.proofs.Concluding.{ends, ends_at_once, headline}
use Rattle.cd_driver.proofs.Causing.{cause}
use Rattle.cd_driver.proofs.cduce.Goals as goal

pub returns-in-Ok-clause-complete : goal.returns-in-Ok-clause-complete
returns-in-Ok-clause-complete g c =
    let encountered = rw c.in-Ok.is at c.answer.ensures.answer in
    ends (texts c.args.words.now) _ _ _ _ c.in-Ok.message c.deliver.result encountered.0 encountered.1 encountered.2 c.deliver.ensures.output c.deliver.ensures.errors

pub returns-in-Ok-clause-headline : goal.returns-in-Ok-clause-headline
returns-in-Ok-clause-headline g c =
    let encountered = rw c.in-Ok.is at c.answer.ensures.answer in
    headline _ _ _ _ (ends (texts c.args.words.now) _ _ _ _ c.in-Ok.message c.deliver.result encountered.0 encountered.1 encountered.2 c.deliver.ensures.output c.deliver.ensures.errors)

pub returns-in-Ok-clause-cause : goal.returns-in-Ok-clause-cause
returns-in-Ok-clause-cause g c =
    let encountered = rw c.in-Ok.is at c.answer.ensures.answer in
    cause _ _ _ _ (ends (texts c.args.words.now) _ _ _ _ c.in-Ok.message c.deliver.result encountered.0 encountered.1 encountered.2 c.deliver.ensures.output c.deliver.ensures.errors)

pub returns-in-Err-clause-complete : goal.returns-in-Err-clause-complete
returns-in-Err-clause-complete g c =
    let encountered = rw c.in-Err.is at c.answer.ensures.answer in
    ends_at_once (texts c.args.words.now) _ _ encountered.0 encountered.1
