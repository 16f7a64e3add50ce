use Rattle.cd_program.specs.PlainProgram.{plain_program}
use Rattle.cd_resolved.proofs.SoundParts.{declarations_sound}
use Rattle.cd_resolved.proofs.resolving.resolve_program.Goals as goal

pub declare-requires-clause-sound : goal.declare-requires-clause-sound
declare-requires-clause-sound c = declarations_sound (plain_program c.args.program.now) c.requires.well_made c.requires.sound
