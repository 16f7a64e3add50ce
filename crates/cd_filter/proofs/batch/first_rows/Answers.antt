use Rattle.std.proofs.Common.{length, sym, subst, ap, arith, [], ◌∷◌}
use Rattle.std.specs.Option.{IfSome}
use Rattle.std.proofs.lemmas.List.{length-append}
use Rattle.cd_graph.specs.Nodes.{nodes}
use Rattle.cd_matching.specs.PlainKernel.{plain_nodes}
use Rattle.cd_filter.specs.Inner.Forming.{IsFormed, AreFormed}
use Rattle.cd_filter.proofs.Forming.{pushed}
use Rattle.cd_filter.proofs.batch.first_rows.Goals as goal

-- a row more
pub loop-number-preserved : goal.loop-number-preserved
loop-number-preserved c =
    let graph = nodes c.args.graph.now in
    let all = plain_nodes c.args.kernel.now.nodes.items in
    let rows = c.loop-number.rows.items in
    let row = c.in_ok-row.row in
    let longer = ap length c.in_ok-push.ensures.items in (
      subst (AreFormed graph all c.args.first) (sym c.in_ok-push.ensures.items)
          (pushed graph all c.args.first rows c.loop-number.invariant.0 row
          (subst (λ number. IfSome row (IsFormed graph all c.args.first number))
          (sym c.loop-number.invariant.1) c.in_ok-row.ensures)),
      omega (arith, longer, length-append rows (row ∷ []), c.loop-number.invariant.1),
    )
