use Rattle.std.proofs.Common.{length, sym, subst, ap, ◌∙◌}
use Rattle.cd_graph.specs.Nodes.{nodes}
use Rattle.cd_matching.specs.PlainKernel.{plain_nodes}
use Rattle.cd_filter.specs.Inner.Forming.{AreFormed}
use Rattle.cd_filter.proofs.Forming.{replaced}
use Rattle.cd_filter.proofs.RowsOf.{length_set}
use Rattle.cd_filter.proofs.batch.form_more.Goals as goal
use Rattle.cd_filter.proofs.batch.form_more.Goals.{then-not-is_there+in_ok-row, else-not-is_there}

-- a row in the place of another, or none
pub loop-number-preserved : goal.loop-number-preserved
loop-number-preserved c =
    let graph = nodes c.args.graph.now in
    let all = plain_nodes c.args.kernel.now.nodes.items in
    let rows = c.loop-number.rows.items in
    let number = c.loop-number.number in
    elim c.if-not-is_there.branch [
      | then-not-is_there+in_ok-row w ↦
          let same = ap (λ v. v.items) w.rows-is ∙ w.put.ensures in (
            subst (AreFormed graph all c.args.first) (sym same)
                (replaced graph all c.args.first rows c.loop-number.invariant.0 number
                w.in_ok-row.row w.in_ok-row.ensures),
            ap length same ∙ length_set rows number w.in_ok-row.row ∙ c.loop-number.invariant.1,
          )
      | else-not-is_there w ↦
          let same = ap (λ v. v.items) w.rows-is in (
            subst (AreFormed graph all c.args.first) (sym same) c.loop-number.invariant.0,
            ap length same ∙ c.loop-number.invariant.1,
          )
    ]
