use Rattle.std.proofs.Common.{sym, ap, ◌∙◌}
use Rattle.cd_syntax.specs.PlainTree.{plain}
use Rattle.cd_cells.specs.Slots.{slot_at}
use Rattle.cd_placed.specs.Patterns.{all_patterns, start_of}
use Rattle.cd_resolved.specs.Resolved.{program_of}
use Rattle.cd_resolved.proofs.NumbersFound.{once_starts, not_none, right_number}
use Rattle.cd_resolved.proofs.resolved.Resolved.pattern_number.Goals as goal

pub unreachable-requires : goal.unreachable-requires
unreachable-requires c =
    let all = all_patterns (program_of c.args.self.now) in
    not_none start_of all c.args.self.now.starts (once_starts all c.requires.resolved.starts_differ) c.requires.resolved.starts
    (plain c.args.pattern.now) c.requires.pattern
    (ap (slot_at c.args.self.now.starts) (sym c.start.ensures) ∙ sym c.get.ensures ∙ c.in-None.is)

pub returns : goal.returns
returns c =
    let all = all_patterns (program_of c.args.self.now) in
    right_number start_of all c.args.self.now.starts (once_starts all c.requires.resolved.starts_differ) c.requires.resolved.starts
    (plain c.args.pattern.now) c.requires.pattern c.in-Some.number
    (ap (slot_at c.args.self.now.starts) (sym c.start.ensures) ∙ sym c.get.ensures ∙ c.in-Some.is)
