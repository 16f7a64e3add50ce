use Rattle.cd_texts.proofs.laws.written_programs_stay_within.Goals as goal

pub returns : goal.returns
returns c text tokens depth program scalars lexes written typed none kept keeps within =
    c.values_come_within.ensures kept program keeps
    (c.written_programs_are_accepted.ensures text tokens depth program scalars lexes written typed none) within
