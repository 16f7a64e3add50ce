use Rattle.std.specs.Str.{chars}
use Rattle.cd_running.proofs.Characters.{characters_scalar}
use Rattle.cd_driver.proofs.laws.typed_programs_stay_within.Goals as goal

pub returns : goal.returns
returns c = λ text program utf8 reads typed.
    c.written_programs_stay_within.ensures (chars text) reads.tokens 1000 program (characters_scalar text utf8)
    reads.spelled reads.written typed reads.sound
