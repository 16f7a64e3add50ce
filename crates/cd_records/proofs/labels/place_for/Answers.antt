use Rattle.std.proofs.Common.{◌∙◌, sym, arith}
use Rattle.cd_records.proofs.LabelsPlaced.{found_there, put_after, put_before, put_last}
use Rattle.cd_records.proofs.labels.place_for.Goals as goal

-- before the first that is above it
pub returns-in-Less : goal.returns-in-Less
returns-in-Less c = (
  omega (arith, c.loop-index-test.true),
  put_before c.args.label.now c.args.labels.now c.loop-index.index c.loop-index.invariant
      c.index-labels-index.result c.loop-index-test.true c.index-labels-index.is
      (sym c.compare.ensures ∙ c.in-Less.is),
)

-- it is there
pub returns-in-Equal : goal.returns-in-Equal
returns-in-Equal c = found_there c.args.label.now c.args.labels.now c.loop-index.index
    c.loop-index.invariant c.index-labels-index.result c.loop-index-test.true
    c.index-labels-index.is (sym c.compare.ensures ∙ c.in-Equal.is)
