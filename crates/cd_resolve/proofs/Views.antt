-- What a sign, a field and a declaration of the code are as plain data.
use Rattle.std.proofs.Common.{◌≡◌, ℕ, ◌+◌, ◌<◌, List, ◌∷◌, length, get_or, drop, ap, sym, ◌∙◌}
use Rattle.std.proofs.lemmas.List.{at_drop_more}
use Rattle.cd_syntax.specs.PlainTree.{plain, plain_signed, plain_field, plain_declaration}
use Rattle.cd_syntax.specs.PlainTree.{tree_layer, kind_layer, trees_layer, signs_layer, signed_layer, fields_layer}
use Rattle.cd_syntax.specs.PlainTree.{field_layer, declarations_layer, declaration_layer}
use Rattle.cd_syntax.specs.PlainTree.{regular_layer, regular_kind_layer, regulars_layer, rest_layer}
use Rattle.cd_syntax.specs.declared.type_tree.SignedTree.{SignedTree as CodeSigned, fold_out-SignedTree}
use Rattle.cd_syntax.specs.declared.type_tree.FieldTree.{FieldTree as CodeField, fold_out-FieldTree}
use Rattle.cd_syntax.specs.declared.type_tree.Declaration.{Declaration as CodeDeclaration, fold_out-Declaration}
use Rattle.cd_syntax.specs.declared.type_tree.RegKind.TheViews.{out-SignedTree, out-FieldTree, out-Declaration}

pub signed_is : (one : CodeSigned) → plain_signed one ≡ record
    { kept = (out-SignedTree one).kept; tree = plain (out-SignedTree one).tree }
signed_is = fold_out-SignedTree _ _ _ _ _ _ _ _ _ _ _ _ _
    regular_kind_layer rest_layer kind_layer declaration_layer declarations_layer field_layer fields_layer
    regular_layer regulars_layer signs_layer signed_layer tree_layer trees_layer

pub field_is : (one : CodeField) → plain_field one ≡ record {
  label = (out-FieldTree one).label;
  at = (out-FieldTree one).at;
  optional = (out-FieldTree one).optional;
  tree = plain (out-FieldTree one).tree;
}
field_is = fold_out-FieldTree _ _ _ _ _ _ _ _ _ _ _ _ _
    regular_kind_layer rest_layer kind_layer declaration_layer declarations_layer field_layer fields_layer
    regular_layer regulars_layer signs_layer signed_layer tree_layer trees_layer

pub declaration_is : (one : CodeDeclaration) → plain_declaration one ≡ record
    { name = (out-Declaration one).name; at = (out-Declaration one).at; tree = plain (out-Declaration one).tree }
declaration_is = fold_out-Declaration _ _ _ _ _ _ _ _ _ _ _ _ _
    regular_kind_layer rest_layer kind_layer declaration_layer declarations_layer field_layer fields_layer
    regular_layer regulars_layer signs_layer signed_layer tree_layer trees_layer

-- a function of what is left of a list, where the next item is known
pub at_item : {X Y : Type 0} (F : List X → Y) (items : List X) (index : ℕ) (item : X) → item ≡ get_or items index item
    → index < length items
    → F (drop index items) ≡ F (item ∷ drop (index + 1) items)
at_item F items index item is more = at_drop_more F items index item more
    ∙ ap (λ next. F (next ∷ drop (index + 1) items)) (sym is)
