use Rattle.std.specs.Str.{chars}
use Rattle.cd_notation.proofs.Lettering.{HaveLetters}
use Rattle.cd_notation.proofs.items.letters.Given as goal

-- the characters so far are on the items
abbrev pub invariant-loop-c : goal.invariant-loop-c
invariant-loop-c l = HaveLetters l.fn.values l.fn.items (chars l.fn.text) l.values l.items l.c-iterator.rest.now
