use Rattle.std.proofs.Common.{map, ap, subst, ◌∙◌}
use Rattle.cd_program.specs.PlainProgram.{plain_program}
use Rattle.cd_placed.specs.Patterns.{start_of}
use Rattle.cd_resolved.specs.Inner.Numbers.{AreNumbers}
use Rattle.cd_resolved.specs.Inner.PlainParts.{trees_of}
use Rattle.cd_resolved.proofs.found.find.Goals as goal

pub returns : goal.returns
returns c = record {
  program_is = ap plain_program c.in_ok-functions.ensures;
  starts = subst (λ patterns. AreNumbers (map start_of patterns) c.in_ok-starts.starts)
      (ap trees_of c.as_slice-2.ensures.value ∙ c.requires.patterns) c.in_ok-starts.ensures;
}
