use Rattle.std.proofs.Common.{arith}
use Rattle.cd_forms.proofs.Marking.{pass_at}
use Rattle.cd_forms.proofs.of_sequences.ending.mark_more.Goals as goal

-- one state earlier is passed
pub loop-number-preserved : goal.loop-number-preserved
loop-number-preserved c =
    let before = c.loop-number.invariant in
    let below = before.below in record {
      below = omega (arith, below);
      pass = pass_at c.args.states.now c.loop-number.number c.index-states-number.result
          c.loop-number-test.true below c.index-states-number.is c.args.marks.now.items
          c.loop-number.marks.items c.mark_one-more.new.marks.items c.loop-number.more
          c.mark_one-more.result c.requires before.pass c.mark_one-more.ensures.leads
          c.mark_one-more.ensures.marked;
    }
