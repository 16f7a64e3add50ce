use Rattle.cd_driver.specs.Command.{texts, Sub, SubTypes, Member, Check, Work}
use Rattle.cd_driver.proofs.Commands.{answers_usage, answers_at_once, answers_command}
use Rattle.cd_driver.proofs.Commands.{among_one, reads_files, answers_run, reads_run}
use Rattle.cd_driver.proofs.answer.answer.Goals as goal

pub returns-in-None-clause-answer : goal.returns-in-None-clause-answer
returns-in-None-clause-answer g c = answers_usage (texts c.args.words.now) _ c.in-None.ensures c.usage.result c.usage.ensures

pub returns-in-Some-Sub-clause-answer : goal.returns-in-Some-Sub-clause-answer
returns-in-Some-Sub-clause-answer g c =
    answers_at_once (texts c.args.words.now) _ (Sub c.in-Some-Sub.first.now c.in-Some-Sub.second.now)
    (rw c.in-Some-Sub.field-0-is at c.in-Some-Sub.ensures) c.sub.result c.sub.ensures

pub returns-in-Some-SubTypes-clause-answer : goal.returns-in-Some-SubTypes-clause-answer
returns-in-Some-SubTypes-clause-answer g c =
    answers_command (texts c.args.words.now) _ _ (SubTypes c.in-Some-SubTypes.file.now c.in-Some-SubTypes.first.now c.in-Some-SubTypes.second.now)
    (rw c.in-Some-SubTypes.field-0-is at c.in-Some-SubTypes.ensures) c.sub_types.result c.sub_types.ensures.answer

pub returns-in-Some-SubTypes-clause-files : goal.returns-in-Some-SubTypes-clause-files
returns-in-Some-SubTypes-clause-files g c =
    reads_files (texts c.args.words.now) _ _
    (SubTypes c.in-Some-SubTypes.file.now c.in-Some-SubTypes.first.now c.in-Some-SubTypes.second.now)
    (rw c.in-Some-SubTypes.field-0-is at c.in-Some-SubTypes.ensures)
    (among_one _ _ c.in-Some-SubTypes.file.now c.sub_types.ensures.read)

pub returns-in-Some-Member-clause-answer : goal.returns-in-Some-Member-clause-answer
returns-in-Some-Member-clause-answer g c =
    answers_command (texts c.args.words.now) _ _ (Member c.in-Some-Member.file.now c.in-Some-Member.document.now c.in-Some-Member.text.now)
    (rw c.in-Some-Member.field-0-is at c.in-Some-Member.ensures) c.member.result c.member.ensures.answer

pub returns-in-Some-Member-clause-files : goal.returns-in-Some-Member-clause-files
returns-in-Some-Member-clause-files g c =
    reads_files (texts c.args.words.now) _ _ (Member c.in-Some-Member.file.now c.in-Some-Member.document.now c.in-Some-Member.text.now)
    (rw c.in-Some-Member.field-0-is at c.in-Some-Member.ensures) c.member.ensures.read

pub returns-in-Some-Check-clause-answer : goal.returns-in-Some-Check-clause-answer
returns-in-Some-Check-clause-answer g c =
    answers_command (texts c.args.words.now) _ _ (Check c.in-Some-Check.file.now)
    (rw c.in-Some-Check.field-0-is at c.in-Some-Check.ensures) c.check.result c.check.ensures.answer

pub returns-in-Some-Check-clause-files : goal.returns-in-Some-Check-clause-files
returns-in-Some-Check-clause-files g c =
    reads_files (texts c.args.words.now) _ _ (Check c.in-Some-Check.file.now)
    (rw c.in-Some-Check.field-0-is at c.in-Some-Check.ensures)
    (among_one _ _ c.in-Some-Check.file.now c.check.ensures.read)

pub returns-in-Some-Run-clause-answer : goal.returns-in-Some-Run-clause-answer
returns-in-Some-Run-clause-answer g c =
    answers_run (texts c.args.words.now) _ _ c.in-Some-Run.units c.in-Some-Run.file.now c.in-Some-Run.document.now
    (rw c.in-Some-Run.field-0-is at c.in-Some-Run.ensures) c.run.result c.run.ensures.answer

pub returns-in-Some-Run-clause-files : goal.returns-in-Some-Run-clause-files
returns-in-Some-Run-clause-files g c =
    reads_run (texts c.args.words.now) _ _ c.in-Some-Run.units c.in-Some-Run.file.now c.in-Some-Run.document.now
    (rw c.in-Some-Run.field-0-is at c.in-Some-Run.ensures) c.run.ensures.read

pub work-requires : goal.work-requires
work-requires g c = record {
  most = (rw c.in-Some-Work.field-0-is at c.in-Some-Work.ensures).2.most;
}

pub returns-in-Some-Work-clause-answer : goal.returns-in-Some-Work-clause-answer
returns-in-Some-Work-clause-answer g c =
    answers_at_once (texts c.args.words.now) _ (Work c.in-Some-Work.size)
    (rw c.in-Some-Work.field-0-is at c.in-Some-Work.ensures) c.work.result c.work.ensures
