use Rattle.std.specs.Iterator.Adapters.{rev_source}
use Rattle.std.specs.Str.Iter.{chars_rest}
use Rattle.cd_operations.proofs.TextWritten.{IsWritten}
use Rattle.cd_operations.proofs.texts.text_of.Given as goal

-- the characters so far are pairs
abbrev pub invariant-loop-c : goal.invariant-loop-c
invariant-loop-c l = IsWritten l.fn.values l.fn.text l.values l.made.0 (chars_rest (rev_source l.c-iterator))
