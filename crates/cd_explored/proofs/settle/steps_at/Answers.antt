use Rattle.std.proofs.Common.{◌≡◌, ◌<◌, ◌++◌, ℕ, Some, sym, subst, ◌∙◌, length}
use Rattle.std.proofs.lemmas.Option.{same_Some}
use Rattle.std.proofs.lemmas.Result.{IfOk-weaker}
use Rattle.std.specs.List.{slice_get}
use Rattle.cd_model.specs.AllOf.{AllOf}
use Rattle.cd_model.proofs.ByNumber.{all_got}
use Rattle.cd_matching.specs.Kernel.{IsSoundNode, leads_to, parts_of}
use Rattle.cd_matching.specs.PlainKernel.{plain_node, plain_nodes}
use Rattle.cd_empty.specs.Seen.{graph_of}
use Rattle.cd_explored.specs.Inner.NodeSteps.{AreNodeSteps}
use Rattle.cd_explored.specs.Inner.PlainSteps.{all_steps}
use Rattle.cd_explored.proofs.SettledPlaces.{node_there}
use Rattle.cd_explored.proofs.settle.steps_at.Goals as goal
use Rattle.cd_explored.proofs.settle.steps_at.Goals.{After-index}

-- the node of the place
there : (c : After-index) → slice_get (plain_nodes c.args.base.now.kernel.now.nodes.items)
    c.args.place.now.number ≡ Some (plain_node c.index.result.now)
there c = node_there c.args.base.now.kernel.now.nodes.items c.args.place.now.number
    c.index.result.now c.requires.place.number c.index.ensures

pub node_steps-requires-clause-there : goal.node_steps-requires-clause-there
node_steps-requires-clause-there c = there c

pub node_steps-requires-clause-sound : goal.node_steps-requires-clause-sound
node_steps-requires-clause-sound c =
    let nodes = plain_nodes c.args.base.now.kernel.now.nodes.items in
    all_got (IsSoundNode nodes (length c.args.base.now.kernel.now.variables.items)
    (λ id. id.0 < c.args.base.now.first)) nodes c.args.place.now.number
    (plain_node c.index.result.now) c.requires.accepted.sound.nodes (there c)

pub node_steps-requires-clause-parts : goal.node_steps-requires-clause-parts
node_steps-requires-clause-parts c =
    let nodes = plain_nodes c.args.base.now.kernel.now.nodes.items in
    all_got (λ node. AllOf (λ (number : ℕ). number < length nodes) (leads_to node ++ parts_of node))
    nodes c.args.place.now.number (plain_node c.index.result.now)
    c.requires.accepted.sound.parts (there c)

pub returns-clause-steps : goal.returns-clause-steps
returns-clause-steps c =
    let at = (goal.at.returns-clause-steps c).After-index in
    let nodes = plain_nodes c.args.base.now.kernel.now.nodes.items in
    IfOk-weaker c.node_steps.result _ _
    (λ leads are node is. subst (λ node. AreNodeSteps (graph_of c.args.world.now) nodes c.args.base.now.first
    c.args.place.now.question node (all_steps leads.items))
    (same_Some (plain_node c.index.result.now) node (sym (there at) ∙ is)) are)
    c.node_steps.ensures.steps
