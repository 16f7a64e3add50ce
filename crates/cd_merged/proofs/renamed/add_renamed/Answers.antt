use Rattle.std.proofs.Common.{◌≡◌, ◌∙◌, ◌++◌, [], ◌∷◌, length, Some, None, refl, sym, ap}
use Rattle.std.specs.List.{slice_get}
use Rattle.std.proofs.lemmas.List.{append-nil, map-append}
use Rattle.std.proofs.lemmas.Option.{slice_get_past, slice_get_read}
use Rattle.cd_sets.specs.declared.node_id.NodeId.{NodeId}
use Rattle.cd_matching.specs.Kernel.{KernelNode}
use Rattle.cd_matching.specs.PlainKernel.{plain_node, plain_nodes}
use Rattle.cd_merged.proofs.renamed.add_renamed.Goals as goal

pub returns-in-None : goal.returns-in-None
returns-in-None c =
    let none : slice_get c.args.nodes.now c.args.first ≡ None =
    slice_get_past c.args.nodes.now c.args.first c.in-None.ensures.lookup.3 in
    rw none (sym (append-nil (plain_nodes c.args.all.now.items)))

pub returns-in_ok-push-in-Some : goal.returns-in_ok-push-in-Some
returns-in_ok-push-in-Some c =
    let there : slice_get c.args.nodes.now c.args.first ≡ Some c.in-Some.node.now =
    slice_get_read c.args.nodes.now (length c.args.nodes.now) c.args.first c.in-Some.node.now refl
    c.in-Some.ensures.lookup.3.0 c.in-Some.ensures.lookup.1 in
    rw there
    (ap plain_nodes c.in_ok-push-in-Some.ensures.items
    ∙ map-append plain_node c.args.all.now.items (c.in_ok-renamed-in-Some.field-0 ∷ [])
    ∙ ap (λ (image : KernelNode NodeId). plain_nodes c.args.all.now.items ++ image ∷ [])
    c.in_ok-renamed-in-Some.ensures)
