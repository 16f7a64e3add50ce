use Rattle.std.proofs.Common.{◌≡◌, drop}
use Rattle.cd_sets.specs.Atoms.{is_listed, texts}
use Rattle.cd_sets.proofs.atom_set.is_among.Given as goal

-- none so far is the name
abbrev pub invariant-loop-each : goal.invariant-loop-each
invariant-loop-each l = is_listed (texts (drop l.each-index l.names.items)) l.name ≡ is_listed (texts l.names.items) l.name
