use Rattle.std.specs.Iterator.Adapters.{rev_source}
use Rattle.std.specs.Str.Iter.{chars_rest}
use Rattle.cd_taking.proofs.TextFromEnd.{IsPaired}
use Rattle.cd_taking.proofs.constants.characters.Given as goal

-- the characters so far are pairs
abbrev pub invariant-loop-c : goal.invariant-loop-c
invariant-loop-c l = IsPaired l.fn.values l.fn.text l.values l.made.0 (chars_rest (rev_source l.c-iterator))
