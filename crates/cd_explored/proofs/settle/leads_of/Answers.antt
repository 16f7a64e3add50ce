use Rattle.std.proofs.Common.{◌≡◌, Some, refl, sym, subst}
use Rattle.std.proofs.lemmas.Result.{IfOk-weaker}
use Rattle.std.specs.List.{slice_get}
use Rattle.cd_matching.specs.PlainKernel.{plain_kernel, plain_node, plain_nodes}
use Rattle.cd_empty.specs.Seen.{graph_of, table_of}
use Rattle.cd_explored.specs.Inner.Exploring.{AreSettling}
use Rattle.cd_explored.specs.Inner.NodeSteps.{AreNodeSteps}
use Rattle.cd_explored.specs.Inner.PlainSteps.{plain_place, all_steps}
use Rattle.cd_explored.proofs.SettledPlaces.{node_there, settled_empty, settled_inhabited, settled_by_products}
use Rattle.cd_explored.proofs.settle.leads_of.Goals as goal
use Rattle.cd_explored.proofs.settle.leads_of.Goals.{After-index}

-- the node of the place
there : (c : After-index) → slice_get (plain_nodes c.args.base.now.kernel.now.nodes.items)
    c.args.place.now.number ≡ Some (plain_node c.index.result.now)
there c = node_there c.args.base.now.kernel.now.nodes.items c.args.place.now.number
    c.index.result.now c.requires.place.number c.index.ensures

pub returns-in-Empty-clause-steps : goal.returns-in-Empty-clause-steps
returns-in-Empty-clause-steps c =
    let graph = graph_of c.args.world.now in
    let kernel = plain_kernel c.args.base.now.kernel.now in
    let place = plain_place c.args.place.now in
    subst (λ leads. AreSettling graph kernel c.args.base.now.first place (all_steps leads))
    (sym c.new.ensures.items)
    (settled_empty graph kernel c.args.base.now.first place (table_of c.decide.new.self)
    c.in_ok-decide.field-0 c.in_ok-decide.ensures.exact c.in-Empty.is)

pub returns-then-has_products-clause-steps : goal.returns-then-has_products-clause-steps
returns-then-has_products-clause-steps c =
    let at = (goal.at.returns-then-has_products-clause-steps c).After-index in
    let graph = graph_of c.args.world.now in
    let kernel = plain_kernel c.args.base.now.kernel.now in
    IfOk-weaker c.steps_at.result _ _
    (λ leads are. settled_by_products graph kernel c.args.base.now.first (plain_place c.args.place.now)
    (plain_node c.index.result.now) (there at)
    ((rw c.if-has_products.true at c.has_products.ensures) refl) (all_steps leads.items)
    (are (plain_node c.index.result.now) (there at)))
    c.steps_at.ensures.steps

pub returns-in-Inhabited-clause-steps : goal.returns-in-Inhabited-clause-steps
returns-in-Inhabited-clause-steps c =
    let at = (goal.at.returns-in-Inhabited-clause-steps c).After-index in
    let graph = graph_of c.args.world.now in
    let kernel = plain_kernel c.args.base.now.kernel.now in
    let place = plain_place c.args.place.now in
    let node = plain_node c.index.result.now in
    IfOk-weaker c.steps_at-in-Inhabited.result _ _
    (λ leads are. settled_inhabited graph kernel c.args.base.now.first place
    (table_of c.decide.new.self) c.in_ok-decide.field-0 c.in_ok-decide.ensures.exact
    c.in-Inhabited.field-0 c.in-Inhabited.is node (there at) (all_steps leads.items)
    (subst (λ g. AreNodeSteps g kernel.nodes c.args.base.now.first place.question node
    (all_steps leads.items)) c.decide.ensures.graph (are node (there at))))
    c.steps_at-in-Inhabited.ensures.steps
