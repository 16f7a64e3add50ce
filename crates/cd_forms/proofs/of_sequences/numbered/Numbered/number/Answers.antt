use Rattle.cd_forms.proofs.SameQuestions.{stored_is}
use Rattle.cd_forms.proofs.of_sequences.numbered.Numbered.number.Goals as goal

-- an equal question stands at the number
pub returns-clause-found : goal.returns-clause-found
returns-clause-found c =
    let stored = c.in_ok-number.ensures.stored in
    stored_is c.insert_full.new.self.keys c.in_ok-number.number c.args.question stored.0 stored.1
    stored.2
