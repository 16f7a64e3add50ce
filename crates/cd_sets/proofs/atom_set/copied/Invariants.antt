use Rattle.cd_sets.specs.Atoms.{texts}
use Rattle.std.proofs.Common.{◌≡◌, take}
use Rattle.cd_sets.proofs.atom_set.copied.Given as goal

-- the names so far
abbrev pub invariant-loop-name : goal.invariant-loop-name
invariant-loop-name l = texts l.all.items ≡ texts (take l.name-index l.names.items)
