use Rattle.std.proofs.Common.{◌≡◌, List, Some, subst, sym}
use Rattle.std.proofs.lemmas.Result.{on_ok_weaker}
use Rattle.cd_explored.specs.Inner.Reached.{rows_of}
use Rattle.cd_explored.specs.declared.step.Step.{Step}
use Rattle.std.specs.List.{slice_get}
use Rattle.cd_explored.proofs.RowsRead.{row_there, row_past, adds_at, led_at, led_nowhere}
use Rattle.cd_explored.proofs.reach.follow.Goals as goal

pub returns-in-Some-clause-more : goal.returns-in-Some-clause-more
returns-in-Some-clause-more c =
    let steps = c.args.steps.now in
    let there = row_there steps c.args.number c.in-Some.row.now c.in-Some.ensures.lookup.0 c.in-Some.ensures.lookup.1 in
    on_ok_weaker c.add_led.result
    (adds_at (rows_of steps) c.args.variable c.args.number c.as_slice.result.now c.args.all.now.items
    c.add_led.new.all.items
    (subst (λ (row : List Step). slice_get (rows_of steps) c.args.number ≡ Some row) (sym c.as_slice.ensures.value) there))
    c.add_led.ensures.more

pub returns-in-Some-clause-whole : goal.returns-in-Some-clause-whole
returns-in-Some-clause-whole c =
    let steps = c.args.steps.now in
    let there = row_there steps c.args.number c.in-Some.row.now c.in-Some.ensures.lookup.0 c.in-Some.ensures.lookup.1 in
    on_ok_weaker c.add_led.result
    (λ whole next led. whole next
    (led_at (rows_of steps) c.args.variable c.args.number c.as_slice.result.now next
    (subst (λ (row : List Step). slice_get (rows_of steps) c.args.number ≡ Some row) (sym c.as_slice.ensures.value) there) led))
    c.add_led.ensures.whole

pub returns-in-None-clause-whole : goal.returns-in-None-clause-whole
returns-in-None-clause-whole c next led = absurd (led_nowhere (rows_of c.args.steps.now) c.args.variable c.args.number next
    (row_past c.args.steps.now c.args.number c.in-None.ensures.lookup.3) led)
