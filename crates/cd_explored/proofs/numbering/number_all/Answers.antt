use Rattle.std.proofs.Common.{◌++◌, List, length, sym, subst, ◌∙◌, ap, append_assoc, arith}
use Rattle.std.specs.Vec.Iter.{into_iter_items}
use Rattle.cd_explored.specs.Inner.NumberedSteps.{AreNumbered}
use Rattle.cd_explored.specs.Inner.PlainSteps.{plain_places, steps_of, all_steps}
use Rattle.cd_explored.specs.declared.lead.Lead.{Lead}
use Rattle.cd_explored.specs.declared.step.Step.{Step as CodeStep}
use Rattle.cd_explored.proofs.StepsNumbered.{numbered_then}
use Rattle.cd_explored.proofs.numbering.number_all.Goals as goal

pub loop-lead-preserved : goal.loop-lead-preserved
loop-lead-preserved c =
    let steps = c.in-Some.ensures.steps in
    let left = into_iter_items c.next.new.self in
    let so_far = c.loop-lead.invariant.numbered in
    let more = c.in_ok-number.ensures in
    let old = plain_places c.args.places.now in
    let mid = plain_places c.loop-lead.places in
    let new = plain_places c.number.new.places in
    let these = steps_of c.in-Some.lead in record {
      can_next = tt;
      is_finite = tt;
      counted =
          let counted = c.loop-lead.invariant.counted in
          let fewer = ap length steps.0 in
          let one = steps.1 in omega arith;
      numbered = (
        so_far.0 ++ these,
        subst (λ (codes : List CodeStep). AreNumbered old new codes (so_far.0 ++ these))
            (sym more.1)
            (numbered_then old mid new c.loop-lead.steps.items more.0 so_far.0 these so_far.1
            more.2),
        append_assoc so_far.0 these (all_steps left)
            ∙ ap (λ (leads : List Lead). so_far.0 ++ all_steps leads) (sym steps.0) ∙ so_far.2,
      );
    }
