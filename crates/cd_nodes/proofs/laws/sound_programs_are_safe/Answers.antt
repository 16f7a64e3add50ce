use Rattle.cd_nodes.proofs.laws.sound_programs_are_safe.Goals as goal

pub returns : goal.returns
returns c program typed made none within constants places = c.accepted_programs_are_safe.ensures program
    (c.sound_programs_are_accepted.ensures program typed made none within constants places)
