use Rattle.cd_tasks.proofs.Odometers.{skipped}
use Rattle.cd_tasks.proofs.odometer.Odometer.skip.Goals as goal

-- what begins with the word that was visited is left out
pub returns-clause-rest : goal.returns-clause-rest
returns-clause-rest c =
    let self = c.args.self.now in
    skipped self.next self.last self.members self.word.items
