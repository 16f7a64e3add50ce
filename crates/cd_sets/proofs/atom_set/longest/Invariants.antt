use Rattle.std.proofs.Common.{◌≤◌, take, length, string_bytes}
use Rattle.std.specs.List.{All}
use Rattle.cd_sets.proofs.atom_set.longest.Given as goal

-- none so far is longer
abbrev pub invariant-loop-name : goal.invariant-loop-name
invariant-loop-name l = All (λ name. length (string_bytes name) ≤ l.longest) (take l.name-index l.names.items)
