use Rattle.std.proofs.Common.{rules}
use Rattle.cd_sets.proofs.Numbering.{same_members}
use Rattle.cd_sets.proofs.char_set.CharSet.contains.Goals as goal

pub returns : goal.returns
returns c = rw (← c.self.view_is, same_members c.self.inside.numbers.items c.args.value c.self.invariant c.ranges.value.0) (search rules)
