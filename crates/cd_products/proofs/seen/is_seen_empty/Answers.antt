use Rattle.std.proofs.Common.{sym, ◌∙◌}
use Rattle.cd_graph.specs.Nodes.{nodes}
use Rattle.cd_products.proofs.SeenEmpty.{contradicts_has_none}
use Rattle.cd_products.proofs.seen.is_seen_empty.Goals as goal

pub returns-then-contradicts_itself : goal.returns-then-contradicts_itself
returns-then-contradicts_itself c so = contradicts_has_none (nodes c.args.graph.now) c.args.question.now
    (sym c.contradicts_itself.ensures ∙ c.if-contradicts_itself.true)
