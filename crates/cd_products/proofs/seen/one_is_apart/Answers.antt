use Rattle.cd_graph.specs.Nodes.{nodes}
use Rattle.cd_empty.proofs.EachAt.{one_at}
use Rattle.cd_products.specs.Inner.Apart.{AreApart}
use Rattle.cd_products.proofs.seen.one_is_apart.Goals as goal

-- this one is
pub returns-then-branch : goal.returns-then-branch
returns-then-branch c so = one_at (AreApart (nodes c.args.graph.now) c.args.one) c.args.others.now c.loop-other.other-index _
    ((rw c.if-branch.true at c.in_ok-are_seen_apart.ensures) so) c.loop-other-test.true
