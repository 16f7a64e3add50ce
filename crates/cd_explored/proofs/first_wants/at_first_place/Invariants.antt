use Rattle.std.proofs.Common.{◌≡◌, length}
use Rattle.cd_explored.specs.Inner.Wanted.{AreFirst}
use Rattle.cd_explored.proofs.first_wants.at_first_place.Given as goal

-- so many variables are wanted
abbrev pub invariant-loop-variable : goal.invariant-loop-variable
invariant-loop-variable l = record {
  first : AreFirst l.wants l.variable;
  count : length l.wants ≡ l.variable;
}
