use Rattle.std.proofs.Common.{subst}
use Rattle.cd_model.specs.Formula.{Graph, IsWithin}
use Rattle.cd_empty.specs.Seen.{graph_of, table_of}
use Rattle.cd_operators.proofs.Missing.{missing}
use Rattle.cd_operators.proofs.need.outside.Goals as goal

-- all of the one node is seen to be in the other
pub returns-then-is_seen_within-clause-found : goal.returns-then-is_seen_within-clause-found
returns-then-is_seen_within-clause-found c =
    subst (λ (g : Graph). IsWithin g c.args.id c.args.needed) c.graph.ensures.graph
    (c.is_seen_within.ensures.elements c.if-is_seen_within.true)

-- the element of the verdict is in the one node and outside the other
pub returns-in-Inhabited-clause-found : goal.returns-in-Inhabited-clause-found
returns-in-Inhabited-clause-found c =
    missing (graph_of c.args.world.now) (table_of c.subtype.new.self) c.args.id c.args.needed c.in-Inhabited.element
    (rw c.in-Inhabited.is at c.in_ok-subtype.ensures.exact)
