use Rattle.cd_graph.specs.Nodes.{nodes}
use Rattle.cd_products.proofs.SeenEmpty.{one_apart}
use Rattle.cd_products.proofs.seen.+share_nothing.Goals as goal

-- the first is apart from one of the others
pub returns-then-branch : goal.returns-then-branch
returns-then-branch t c so = one_apart (nodes c.args.graph.now) c.args.ids.now _ c.in-len1-up.len_at_least
    ((rw c.if-branch.true at c.in_ok-one_is_apart-in-len1-up.ensures) so)
