use Rattle.std.proofs.Common.{take}
use Rattle.cd_forms.specs.Inner.Letters.{AreLetters}
use Rattle.cd_forms.proofs.letters.Letters.nodes_of.Given as goal

-- the nodes so far are those of the characters so far
abbrev pub invariant-loop-c : goal.invariant-loop-c
invariant-loop-c l = AreLetters l.first l.self (take l.c-index l.text) l.ids.items
