use Rattle.std.proofs.Common.{◌≡◌, ℕ, List, refl, sym, ap, ap₂, subst, ◌∙◌, map}
use Rattle.cd_matching.specs.PlainKernel.{plain_node, plain_nodes}
use Rattle.cd_merged.specs.Inner.Classes.{class_of, nodes_at, AreMerged}
use Rattle.cd_merged.specs.Merged.{renamed, IsFalling}
use Rattle.cd_merged.proofs.ClassesFound.{made_at, found_images}
use Rattle.cd_merged.proofs.merge.merged_nodes.Goals as goal

-- the first nodes of the classes are the images
pub returns : goal.returns
returns c = let nodes = c.args.nodes.now in
    let numbers = c.args.classes.now.numbers.items in
    let firsts = c.args.classes.now.firsts.items in
    let same : plain_nodes c.in_ok-merged.merged.items
    ≡ map (renamed (class_of numbers)) (nodes_at (plain_nodes nodes) firsts) =
    c.in_ok-merged.ensures
    ∙ ap₂ (λ (some others : List ℕ). map (renamed (class_of some))
    (plain_nodes (nodes_at nodes others))) c.as_slice-numbers.ensures.value
    c.as_slice.ensures.value
    ∙ ap (map (renamed (class_of numbers))) (made_at plain_node nodes firsts) in
    subst (AreMerged (plain_nodes nodes) numbers) (sym same)
    (found_images (plain_nodes nodes) numbers firsts (c.if-not-are_alike.ensures refl)
    (c.if-not-are_falling.ensures refl)
    (subst IsFalling (ap plain_nodes c.as_slice-2.ensures.value ∙ same)
    (c.if-not-are_falling-2.ensures refl)))
