use Rattle.std.proofs.Common.{List, subst, sym, ◌∙◌}
use Rattle.std.proofs.lemmas.List.{take_all}
use Rattle.cd_explored.specs.declared.step.Step.{Step}
use Rattle.cd_explored.specs.Inner.Reached.{IsLedBy}
use Rattle.cd_explored.proofs.Reaching.{adds_more, whole_led, whole_unled}
use Rattle.cd_explored.proofs.reach.add_led.Goals as goal
use Rattle.cd_explored.proofs.reach.add_led.Goals.{in-Some+in_ok-add, in_default}

pub loop-step-preserved : goal.loop-step-preserved
loop-step-preserved c =
    let row = c.args.row.now in
    let step = c.step-item.result in
    let old = c.loop-step.all.items in
    let before = c.loop-step.invariant in
    elim c.match-led_to.branch [
      | in-Some+in_ok-add w ↦
          let leads = sym c.led_to.ensures ∙ w.in-Some.is in
          let put = w.in_ok-add.ensures in
          rw (w.marks-is, w.all-is) (record {
            marked = put.marked;
            more = adds_more (IsLedBy c.args.variable row) c.args.all.now.items old w.add.new.all.items
                w.in-Some.next before.more
                (step, (c.loop-step.step-index, c.loop-step-test.true, sym c.step-item.is), leads) put.grows;
            whole = whole_led c.args.variable row c.loop-step.step-index step c.loop-step-test.true
                c.step-item.is w.in-Some.next leads old w.add.new.all.items put.grows put.there before.whole;
          })
      | in_default w ↦ rw (w.marks-is, w.all-is) (record {
        marked = before.marked;
        more = before.more;
        whole = whole_unled c.args.variable row c.loop-step.step-index step c.loop-step-test.true
            c.step-item.is (sym c.led_to.ensures ∙ w.in_default.is) old before.whole;
      })
    ]

pub returns-clause-whole : goal.returns-clause-whole
returns-clause-whole c next led = c.loop-step.invariant.whole next
    (subst (λ (row : List Step). IsLedBy c.args.variable row next)
    (sym (take_all c.loop-step.step-index c.args.row.now c.loop-step-test.false)) led)
