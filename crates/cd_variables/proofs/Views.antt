-- Where a tree and an expression of the code begin, as plain data.
use Rattle.std.proofs.Common.{◌≡◌, ap}
use Rattle.cd_syntax.specs.PlainTree.{plain, plain_regular}
use Rattle.cd_syntax.specs.PlainTree.{tree_layer, kind_layer, trees_layer, signs_layer, signed_layer, fields_layer}
use Rattle.cd_syntax.specs.PlainTree.{field_layer, declarations_layer, declaration_layer}
use Rattle.cd_syntax.specs.PlainTree.{regular_layer, regular_kind_layer, regulars_layer, rest_layer}
use Rattle.cd_syntax.specs.declared.type_tree.Tree.{Tree as CodeTree, fold_out-Tree}
use Rattle.cd_syntax.specs.declared.type_tree.RegTree.{RegTree as CodeRegular, fold_out-RegTree}
use Rattle.cd_syntax.specs.declared.type_tree.RegKind.TheViews.{out-Tree, out-RegTree}
use Rattle.cd_variables.specs.VariableFaults.{begins, regular_begins}

pub tree_begins : (one : CodeTree) → begins (plain one) ≡ (out-Tree one).span.from
tree_begins one = ap begins (fold_out-Tree _ _ _ _ _ _ _ _ _ _ _ _ _
    regular_kind_layer rest_layer kind_layer declaration_layer declarations_layer field_layer fields_layer
    regular_layer regulars_layer signs_layer signed_layer tree_layer trees_layer one)

pub regular_starts : (one : CodeRegular)
    → regular_begins (plain_regular one) ≡ (out-RegTree one).span.from
regular_starts one = ap regular_begins (fold_out-RegTree _ _ _ _ _ _ _ _ _ _ _ _ _
    regular_kind_layer rest_layer kind_layer declaration_layer declarations_layer field_layer fields_layer
    regular_layer regulars_layer signs_layer signed_layer tree_layer trees_layer one)
