use Rattle.cd_safety.proofs.AcceptedPrograms.{program_accepted}
use Rattle.cd_safety.proofs.laws.typed_programs_are_accepted.Goals as goal

pub returns : goal.returns
returns c program typed made none within places patterns =
    program_accepted program none c.captured_names_are_bound.ensures typed made within places patterns
