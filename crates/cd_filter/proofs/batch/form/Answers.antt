use Rattle.std.proofs.Common.{◌≡◌, ℕ, List, length, Some, sym, subst, refl, ap, ◌∙◌, nat_lt, true}
use Rattle.std.specs.Prelude.{slice_index_or}
use Rattle.std.specs.List.{slice_get}
use Rattle.std.specs.Option.{option_map}
use Rattle.std.proofs.lemmas.Bool.{ltb-true}
use Rattle.std.proofs.lemmas.Option.{slice_get_read, slice_get-map}
use Rattle.std.proofs.lemmas.Result.{IfOk-weaker}
use Rattle.cd_graph.specs.Nodes.{nodes}
use Rattle.cd_matching.specs.PlainKernel.{plain_kernel, plain_node, plain_nodes}
use Rattle.cd_matching.specs.declared.kernel.KernelNode.{KernelNode}
use Rattle.cd_filter.proofs.Forming.{has_types, formed_right}
use Rattle.cd_filter.proofs.batch.form.Goals as goal

-- the node with this number
node_there : (all items : List KernelNode) → all ≡ items → (number : ℕ) (node : KernelNode)
    → true ≡ nat_lt number (length all) → node ≡ slice_index_or all number node
    → slice_get (plain_nodes items) number ≡ Some (plain_node node)
node_there all items same number node within is = subst
    (λ (xs : List KernelNode). slice_get (plain_nodes xs) number ≡ Some (plain_node node)) same
    (slice_get-map plain_node all number
    ∙ ap (option_map plain_node) (slice_get_read all (length all) number node refl
    (ltb-true number (length all) (sym within)) is))

pub form_node-requires : goal.form_node-requires
form_node-requires c = has_types (length (nodes c.args.graph.now)) (plain_kernel c.args.kernel.now)
    c.requires.sound c.args.number (plain_node c.in-Some.node.now)
    (node_there c.deref.result.now c.args.kernel.now.nodes.items c.deref.ensures.value
    c.args.number c.in-Some.node.now c.in-Some.ensures.lookup.0 c.in-Some.ensures.lookup.1)

pub returns-in-Some : goal.returns-in-Some
returns-in-Some c = IfOk-weaker c.form_node.result _ _
    (λ row is. formed_right (nodes c.args.graph.now) (plain_nodes c.args.kernel.now.nodes.items)
    c.args.first c.args.rows.now c.requires.formed c.args.number (plain_node c.in-Some.node.now)
    (node_there c.deref.result.now c.args.kernel.now.nodes.items c.deref.ensures.value
    c.args.number c.in-Some.node.now c.in-Some.ensures.lookup.0 c.in-Some.ensures.lookup.1) row is)
    c.form_node.ensures
