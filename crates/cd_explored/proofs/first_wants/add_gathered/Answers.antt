use Rattle.std.proofs.Common.{subst}
use Rattle.std.proofs.lemmas.List.{take_all}
use Rattle.cd_explored.specs.declared.want.Want.TheVariants.{Captures}
use Rattle.cd_explored.specs.Inner.Wanted.{AreGatheredBy}
use Rattle.cd_explored.proofs.GrowingWants.{grow_one, grow_then}
use Rattle.cd_explored.proofs.WantsGathered.{gathers_more, gathers_no_more}
use Rattle.cd_explored.proofs.first_wants.add_gathered.Goals as goal
use Rattle.cd_explored.proofs.first_wants.add_gathered.Goals.{in-Gathers+in_ok-number, in_default}

pub loop-step-preserved : goal.loop-step-preserved
loop-step-preserved c =
    let row = c.args.row.now in
    let k = c.loop-step.step-index in
    let old = c.loop-step.wants in
    let before = c.loop-step.invariant in
    elim c.match-step.branch [
      | in-Gathers+in_ok-number w ↦
          let new = w.number.new.self in
          let found = w.in_ok-number.ensures in
          let grow = grow_one (Captures w.in-Gathers.variable w.in-Gathers.next) old new found.grows in
          rw (w.wants-is) (record {
            gathered = gathers_more old new grow row k c.step-item.result c.loop-step-test.true
                c.step-item.is w.in-Gathers.variable w.in-Gathers.field-1 w.in-Gathers.next
                w.in_ok-number.field-0 w.in-Gathers.is found.found before.gathered;
            grow = grow_then c.args.wants.now old new before.grow grow;
          })
      | in_default w ↦ rw (w.wants-is) (record {
        gathered = gathers_no_more old row k c.step-item.result c.loop-step-test.true c.step-item.is
            w.in_default.not-Gathers before.gathered;
        grow = before.grow;
      })
    ]

pub returns-clause-gathered : goal.returns-clause-gathered
returns-clause-gathered c = subst (AreGatheredBy c.loop-step.wants)
    (take_all c.loop-step.step-index c.args.row.now c.loop-step-test.false) c.loop-step.invariant.gathered
