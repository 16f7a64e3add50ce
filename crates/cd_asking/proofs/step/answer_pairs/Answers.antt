use Rattle.std.proofs.Common.{◌≡◌, arith, sym, ap, ◌∙◌}
use Rattle.cd_graph.specs.Nodes.{nodes}
use Rattle.cd_cells.specs.Table.{names}
use Rattle.cd_asking.specs.Inner.Tasks.{paired}
use Rattle.cd_asking.specs.Inner.Asked.{set_at}
use Rattle.cd_asking.proofs.Kept.{grows_on, stays, still_within}
use Rattle.cd_asking.proofs.Stepping.{one_pair, runs_on, runs_end, runs_stop_at}
use Rattle.cd_asking.proofs.step.answer_pairs.Goals as goal
use Rattle.cd_asking.proofs.step.answer_pairs.Goals.{In_ok-next}

-- what the next pair answers
next_is : (c : In_ok-next) → set_at c.answer.new.self.sets c.in_ok-next.next
    ≡ paired (nodes c.args.graph.now) (set_at c.args.asker.now.sets c.args.pair.0) (set_at c.args.asker.now.sets c.args.pair.1) (set_at c.loop.asker.sets c.loop.last)
next_is c = one_pair (nodes c.args.graph.now) (names c.args.values.now) c.args.asker.now.sets c.loop.asker.sets c.answer.new.self.sets
    c.args.pair.0 c.args.pair.1 c.loop.last c.in_ok-next.next c.loop.invariant.0.0 c.requires.task.0 c.requires.task.1 c.in_ok-next.ensures.found.1

pub loop-preserved : goal.loop-preserved
loop-preserved c = (
  grows_on c.args.asker.now c.loop.asker c.answer.new.self c.loop.invariant.0 c.answer.ensures.grows,
  c.answer.ensures.right,
  c.in_ok-next.ensures.found.0,
  runs_on (nodes c.args.graph.now) (set_at c.args.asker.now.sets c.args.pair.0) (set_at c.args.asker.now.sets c.args.pair.1) c.args.count
      (set_at c.args.asker.now.sets c.args.answer) c.loop.counter (set_at c.loop.asker.sets c.loop.last) _ c.loop.invariant.3
      (next_is (goal.at.loop-preserved c).In_ok-next),
)

-- the next pair answers as the last one, and so do all that are left
pub returns-then-next-last-clause-step : goal.returns-then-next-last-clause-step
returns-then-next-last-clause-step c =
    let stay = stays c.loop.asker.sets c.answer.new.self.sets c.answer.ensures.grows.0 c.loop.last c.loop.invariant.2 in
    let same = ap (λ number. set_at c.answer.new.self.sets (record { 0 = number })) c.if-next-last.true in record {
      makes = stay ∙ runs_stop_at (nodes c.args.graph.now) (set_at c.args.asker.now.sets c.args.pair.0) (set_at c.args.asker.now.sets c.args.pair.1)
          c.args.count (set_at c.args.asker.now.sets c.args.answer) c.loop.counter (set_at c.loop.asker.sets c.loop.last) c.loop.invariant.3 c.loop-test.true
          (sym (next_is (goal.at.returns-then-next-last-clause-step c).In_ok-next) ∙ same ∙ stay);
      falls = omega arith;
      numbers = still_within c.loop.asker.sets c.answer.new.self.sets c.answer.ensures.grows.0 c.loop.last.0 c.loop.invariant.2;
    }

pub returns-clause-step : goal.returns-clause-step
returns-clause-step c = record {
  makes = runs_end (nodes c.args.graph.now) (set_at c.args.asker.now.sets c.args.pair.0) (set_at c.args.asker.now.sets c.args.pair.1)
      c.args.count (set_at c.args.asker.now.sets c.args.answer) c.loop.counter (set_at c.loop.asker.sets c.loop.last) c.loop.invariant.3 (omega (arith, c.loop-test.false, c.loop.auto));
  falls = omega arith;
  numbers = c.loop.invariant.2;
}
