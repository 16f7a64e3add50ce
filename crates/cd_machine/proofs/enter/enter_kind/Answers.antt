use Rattle.cd_machine.proofs.enter.enter_kind.Goals as goal

pub returns-in-Apply-clause-within : goal.returns-in-Apply-clause-within
returns-in-Apply-clause-within c = c.enter_apply.ensures.within c.args.values.now c.args.environments.now c.requires.env
