use Rattle.std.proofs.Common.{map, ap, ◌∙◌}
use Rattle.std.proofs.lemmas.Result.{IfOk-weaker}
use Rattle.cd_graph.specs.Nodes.{nodes}
use Rattle.cd_normal.specs.PlainClause.{plain_clause}
use Rattle.cd_products.specs.Inner.ClauseBoxes.{pair_boxes}
use Rattle.cd_products.proofs.ListedClauses.{are_clauses}
use Rattle.cd_products.proofs.of_pairs.boxes_of_pairs.Goals as goal

pub returns : goal.returns
returns c = IfOk-weaker c.boxes_of.result _ _
    (λ boxes same. (
      map plain_clause c.in_ok-all.all.items,
      are_clauses (nodes c.args.graph.now) c.args.question.now c.in_ok-all.all.items
          c.in_ok-all.ensures.sound c.in_ok-all.ensures.complete,
      same ∙ ap (λ all. pair_boxes (map plain_clause all)) c.as_slice.ensures.value,
    ))
    c.boxes_of.ensures
