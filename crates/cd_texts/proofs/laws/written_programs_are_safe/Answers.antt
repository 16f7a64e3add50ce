use Rattle.cd_texts.proofs.laws.written_programs_are_safe.Goals as goal

pub returns : goal.returns
returns c text tokens depth program scalars lexes written typed none = c.accepted_programs_are_safe.ensures program
    (c.written_programs_are_accepted.ensures text tokens depth program scalars lexes written typed none)
