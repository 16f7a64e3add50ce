use Rattle.std.proofs.Common.{map, ap, ◌∙◌}
use Rattle.std.proofs.lemmas.Result.{IfOk-weaker}
use Rattle.cd_graph.specs.Nodes.{nodes}
use Rattle.cd_normal.specs.PlainClause.{plain_clause}
use Rattle.cd_products.proofs.ListedClauses.{are_clauses}
use Rattle.cd_rows.specs.Inner.PlainClauses.{row_clauses}
use Rattle.cd_rows.proofs.of_records.clauses_of.Goals as goal

pub returns : goal.returns
returns c = IfOk-weaker c.of_records.result _ _
    (λ found same. (
      map plain_clause c.in_ok-all.all.items,
      are_clauses (nodes c.args.graph.now) c.args.question.now c.in_ok-all.all.items
          c.in_ok-all.ensures.sound c.in_ok-all.ensures.complete,
      same ∙ ap (λ all. row_clauses (map plain_clause all)) c.as_slice.ensures.value,
    ))
    c.of_records.ensures
