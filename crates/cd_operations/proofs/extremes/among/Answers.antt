use Rattle.std.proofs.Common.{true, false}
use Rattle.cd_cells.specs.Table.{table}
use Rattle.cd_operations.proofs.Seeking.{seeking_starts, seeks_on, seeks_none, seeking_ends}
use Rattle.cd_operations.proofs.extremes.among.Goals as goal

pub loop-item-init : goal.loop-item-init
loop-item-init c =
    seeking_starts (table c.args.values.now) c.args.wanted c.args.first c.args.others
    c.requires.first c.requires.others

pub loop-item-preserved : goal.loop-item-preserved
loop-item-preserved c =
    seeks_on (table c.args.values.now) c.args.wanted _ _ _ _ c.loop-item.invariant
    c.in-Some.item c.in-Some.rest c.in-Some-number_at.next c.better-best.result c.in-Some.ensures
    c.in-Some-number_at.ensures.0 c.in-Some-number_at.ensures.1 c.better-best.ensures

pub returns-in_default-number_at : goal.returns-in_default-number_at
returns-in_default-number_at c =
    seeks_none (table c.args.values.now) c.args.wanted _ _ _ _ c.loop-item.invariant
    c.in-Some.item c.in-Some.rest c.in-Some.ensures c.in_default-number_at.ensures

pub returns-then-is_nil : goal.returns-then-is_nil
returns-then-is_nil c = (
  c.loop-item.invariant.best_at,
  seeking_ends (table c.args.values.now) c.args.wanted _ _ _ _ c.loop-item.invariant true
      c.in_default.ensures c.if-is_nil.ensures,
)

pub returns : goal.returns
returns c =
    seeking_ends (table c.args.values.now) c.args.wanted _ _ _ _ c.loop-item.invariant false
    c.in_default.ensures c.if-is_nil.ensures
