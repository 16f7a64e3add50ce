-- Where a tree of the code begins.
use Rattle.std.proofs.Common.{◌≡◌, ap}
use Rattle.cd_syntax.specs.PlainTree.{plain, tree_layer, kind_layer, trees_layer, signs_layer, signed_layer, fields_layer}
use Rattle.cd_syntax.specs.PlainTree.{field_layer, declarations_layer, declaration_layer}
use Rattle.cd_syntax.specs.PlainTree.{regular_layer, regular_kind_layer, regulars_layer, rest_layer}
use Rattle.cd_syntax.specs.declared.type_tree.Tree.{Tree as CodeTree, fold_out-Tree}
use Rattle.cd_syntax.specs.declared.type_tree.RegKind.TheViews.{out-Tree}
use Rattle.cd_placed.specs.Patterns.{start_of}

pub tree_starts : (one : CodeTree) → start_of (plain one) ≡ (out-Tree one).span.from
tree_starts one = ap start_of (fold_out-Tree _ _ _ _ _ _ _ _ _ _ _ _ _
    regular_kind_layer rest_layer kind_layer declaration_layer declarations_layer field_layer fields_layer
    regular_layer regulars_layer signs_layer signed_layer tree_layer trees_layer one)
