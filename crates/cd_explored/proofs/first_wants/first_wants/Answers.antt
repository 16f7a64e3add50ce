use Rattle.std.proofs.Common.{◌≡◌, List, Some, length, subst, ap, arith}
use Rattle.std.proofs.lemmas.List.{length-map}
use Rattle.std.proofs.lemmas.Option.{slice_get_within}
use Rattle.std.specs.List.{slice_get}
use Rattle.std.specs.declared.alloc.Global.{Global}
use Rattle.std.specs.declared.vec.Vec.{Vec}
use Rattle.cd_explored.specs.declared.step.Step.{Step}
use Rattle.cd_explored.specs.Inner.Reached.{rows_of}
use Rattle.cd_explored.specs.Inner.Wanted.{AreGatheredBy}
use Rattle.cd_explored.proofs.RowsRead.{view_at}
use Rattle.cd_explored.proofs.WantsGathered.{still_first, rows_more}
use Rattle.cd_explored.proofs.first_wants.first_wants.Goals as goal

pub loop-row-preserved : goal.loop-row-preserved
loop-row-preserved c =
    let steps = c.args.plan.now.explored.now.steps.items in
    let k = c.loop-row.row-index in
    let old = c.loop-row.wants in
    let new = c.add_gathered.new.wants in
    let put = c.in_ok-add_gathered.ensures in
    let row = c.row-item.result.items in
    let there = subst (λ (all : List (Vec Step Global)). slice_get (rows_of all) k ≡ Some row)
    c.as_slice-row-items.ensures.value
    (view_at (λ row. row.items) c.as_slice-row-items.result.now k c.row-item.result c.loop-row-test.true
    c.row-item.is) in
    record {
      first = still_first old new put.grow c.args.variables c.loop-row.invariant.first;
      gathered = rows_more old new put.grow (rows_of steps) k row there
          (subst (AreGatheredBy new) c.as_slice.ensures.value put.gathered) c.loop-row.invariant.gathered;
    }

pub returns-clause-gathered : goal.returns-clause-gathered
returns-clause-gathered c number row there =
    let steps = c.args.plan.now.explored.now.steps.items in
    let count = length-map steps (λ (row : Vec Step Global). row.items) in
    let same = ap length c.as_slice-row-items.ensures.value in
    c.loop-row.invariant.gathered number row
    (omega (arith, count, same, c.loop-row-test.false, slice_get_within (rows_of steps) number row there)) there
