use Rattle.std.specs.Str.{chars}
use Rattle.cd_operations.proofs.CharactersPushed.{ArePut}
use Rattle.cd_operations.proofs.texts.characters.Given as goal

-- the characters so far are put
abbrev pub invariant-loop-c : goal.invariant-loop-c
invariant-loop-c l = ArePut l.fn.values (chars l.fn.text) l.fn.done.0 l.values l.made.0 l.c-iterator.rest.now
