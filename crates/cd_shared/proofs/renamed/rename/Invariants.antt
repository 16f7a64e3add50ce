use Rattle.std.proofs.Common.{◌≡◌, length}
use Rattle.std.specs.Option.{option_map}
use Rattle.cd_shared.specs.Equation.{plain_equations}
use Rattle.cd_shared.specs.Shared.{class_in, renamed_equation}
use Rattle.cd_shared.proofs.GoneOver.{GoneOver}
use Rattle.cd_shared.proofs.renamed.rename.Given as goal

-- those that were gone over are renamed, and the others are as they were
abbrev pub invariant-loop-number : goal.invariant-loop-number
invariant-loop-number l = record {
  many : length l.equations.items ≡ length l.fn.equations.items;
  gone : GoneOver (option_map (renamed_equation (class_in l.classes)))
      (plain_equations l.fn.equations.items) (plain_equations l.equations.items) l.number;
}
