use Rattle.std.proofs.Common.{◌≡◌, ◌++◌, map, drop}
use Rattle.cd_placed.specs.Patterns.{start_of}
use Rattle.cd_resolved.specs.Inner.PlainParts.{trees_of}
use Rattle.cd_resolved.proofs.starts.starts_of.Given as goal

-- where those so far begin, and where those to come do, are all
abbrev pub invariant-loop-pattern : goal.invariant-loop-pattern
invariant-loop-pattern l = l.starts.items ++ map start_of (trees_of (drop l.pattern-index l.patterns)) ≡ map start_of (trees_of l.patterns)
