use Rattle.cd_nodes.proofs.laws.sound_programs_are_accepted.Goals as goal

pub returns : goal.returns
returns c program typed made none within constants places =
    c.typed_programs_are_accepted.ensures program typed made none within places
    (c.programs_have_typed_patterns.ensures program made none constants)
