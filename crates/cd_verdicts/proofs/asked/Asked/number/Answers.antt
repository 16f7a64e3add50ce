use Rattle.cd_verdicts.proofs.Numbering.{stands_where_equal}
use Rattle.cd_verdicts.proofs.asked.Asked.number.Goals as goal

-- an equal question stands at the number
pub returns-clause-found : goal.returns-clause-found
returns-clause-found c =
    let stored = c.in_ok-number.ensures.stored in
    stands_where_equal c.insert_full.new.self.keys c.args.question stored.0 c.in_ok-number.number stored.1 stored.2
