use Rattle.cd_texts.proofs.laws.written_programs_are_accepted.Goals as goal

pub returns : goal.returns
returns c text tokens depth program scalars lexes written typed none =
    c.sound_programs_are_accepted.ensures program typed
    (c.trees_are_well_made.ensures.programs text tokens depth program lexes written) none
    (c.constants_are_elements.ensures text tokens depth program scalars lexes written)
    (c.constants_of_patterns_are_in_range.ensures text tokens depth program scalars lexes written)
    (c.places_differ.ensures.functions text tokens depth program lexes written)
