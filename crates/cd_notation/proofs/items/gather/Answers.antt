use Rattle.std.proofs.Common.{arith}
use Rattle.cd_notation.proofs.Gathering.{gathers_on, gathered, gathering_starts, top_within, end_within}
use Rattle.cd_notation.proofs.items.gather.Goals as goal

pub loop-items-init : goal.loop-items-init
loop-items-init c = gathering_starts c.args.values.now c.args.from c.args.items.now c.args.end.0

pub pair-requires-clause-first : goal.pair-requires-clause-first
pair-requires-clause-first c =
    top_within _ _ _ _ _ _ _ _ _ c.loop-items.invariant c.requires.items c.requires.end (omega (arith, c.loop-items-test.true, c.len.ensures)) c.in-Some.ensures

pub pair-requires-clause-second : goal.pair-requires-clause-second
pair-requires-clause-second c = end_within _ _ _ _ _ _ _ c.loop-items.invariant c.requires.items c.requires.end

pub loop-items-preserved : goal.loop-items-preserved
loop-items-preserved c =
    gathers_on _ _ _ _ _ _ _ _ _ _ _ c.in_ok-end.ensures.grows c.in_ok-end.ensures.added c.in_ok-end.ensures.number
    (omega (arith, c.loop-items-test.true, c.len.ensures)) c.in-Some.ensures c.loop-items.invariant

pub returns-clause-pairs : goal.returns-clause-pairs
returns-clause-pairs c = gathered _ _ _ _ _ _ _ c.loop-items.invariant (omega (arith, c.loop-items-test.false, c.len.ensures))
