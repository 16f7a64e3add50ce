use Rattle.std.proofs.Common.{[], get_or, sym, ap, ◌∙◌, append-nil}
use Rattle.std.specs.Option.{unwrap_or}
use Rattle.cd_explored.specs.Inner.Givers.{givers_of}
use Rattle.cd_explored.specs.Inner.Reached.{rows_of}
use Rattle.cd_explored.proofs.GiversFound.{givers_more}
use Rattle.cd_explored.proofs.RowsRead.{row_there, row_past}
use Rattle.cd_explored.proofs.givers.givers.Goals as goal
use Rattle.cd_explored.proofs.givers.givers.Goals.{in-Some+in_ok-add_givers, in_default}

pub loop-number-preserved : goal.loop-number-preserved
loop-number-preserved c =
    let steps = c.args.steps.now in
    let numbers = c.args.numbers.now in
    let k = c.loop-number.number-index in
    let number = get_or numbers k 0 in
    let total = givers_of c.args.variable (rows_of steps) numbers in
    elim c.match-get.branch [
      | in-Some+in_ok-add_givers w ↦ rw (w.all-is)
          (givers_more c.args.variable (rows_of steps) numbers k c.loop-number-test.true w.as_slice.result.now
          (ap (λ found. unwrap_or found []) (row_there steps number w.in-Some.row.now
          w.in-Some.ensures.lookup.0 w.in-Some.ensures.lookup.1) ∙ sym w.as_slice.ensures.value)
          c.loop-number.all.items w.add_givers.new.all.items total w.in_ok-add_givers.ensures
          c.loop-number.invariant)
      | in_default w ↦ rw (w.all-is)
          (givers_more c.args.variable (rows_of steps) numbers k c.loop-number-test.true []
          (ap (λ found. unwrap_or found []) (row_past steps number w.in_default.ensures.lookup.3))
          c.loop-number.all.items c.loop-number.all.items total (sym (append-nil c.loop-number.all.items))
          c.loop-number.invariant)
    ]
