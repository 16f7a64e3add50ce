use Rattle.std.proofs.Common.{◌≡◌, ◌++◌, take, drop}
use Rattle.std.specs.Option.{option_map}
use Rattle.cd_sets.specs.Counting.{next_digits}
use Rattle.cd_sets.proofs.subsets.count_on.Given as goal

-- the digits that were passed are final, and the count is carried on over those that are left
abbrev pub invariant-loop-index : goal.invariant-loop-index
invariant-loop-index l = next_digits l.fn.digits ≡ option_map (λ rest. take l.index l.digits ++ rest) (next_digits (drop l.index l.digits))
