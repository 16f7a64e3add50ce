use Rattle.std.specs.Str.{chars}
use Rattle.cd_program.specs.PlainProgram.{plain_program}
use Rattle.cd_checking.proofs.resolved.Goals as goal

-- what a text writes
pub resolve_program-requires-clause-sound : goal.resolve_program-requires-clause-sound
resolve_program-requires-clause-sound c = c.requires.read.1.sound

pub resolve_program-requires-clause-places : goal.resolve_program-requires-clause-places
resolve_program-requires-clause-places c =
    let reads = c.requires.read.1 in
    c.places_differ.ensures.functions (chars c.requires.read.0) reads.tokens 1000 (plain_program c.args.program.now) reads.spelled reads.written

pub resolve_program-requires-clause-starts : goal.resolve_program-requires-clause-starts
resolve_program-requires-clause-starts c =
    let reads = c.requires.read.1 in
    c.places_differ.ensures.patterns (chars c.requires.read.0) reads.tokens 1000 (plain_program c.args.program.now) reads.spelled reads.written
