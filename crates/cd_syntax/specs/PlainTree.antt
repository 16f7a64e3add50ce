-- The trees of the code as plain data.
use Rattle.cd_syntax.specs.TypeTree.{Tree, tree, Kind, Builtin, Ints, Chars, Atom, Text, Tuple}
use Rattle.cd_syntax.specs.TypeTree.{Arrows, Union, Meet, Sequence, Record, Xml, Named, Where}
use Rattle.cd_syntax.specs.TypeTree.{Variable, Default, Trees, Signs, Fields, Declarations, Regular}
use Rattle.cd_syntax.specs.TypeTree.{regular, RegularKind, Nothing, Item, Seq, Alt, Repeat, Capture}
use Rattle.cd_syntax.specs.TypeTree.{Regulars, Signed, Field, Declaration, trees_of, signs_of}
use Rattle.cd_syntax.specs.TypeTree.{fields_of, declarations_of, regulars_of, Rest, Closed, Open}
use Rattle.cd_syntax.specs.TypeTree.{Typed}
use Rattle.cd_syntax.specs.declared.type_tree.RegKind.TheOpen as layer
use Rattle.cd_syntax.specs.declared.type_tree.Tree.{Tree as CodeTree, Tree-F, fold-Tree}
use Rattle.cd_syntax.specs.declared.type_tree.TreeKind.{TreeKind as CodeTreeKind, TreeKind-F}
use Rattle.cd_syntax.specs.declared.type_tree.TreeKind.{fold-TreeKind}
use Rattle.cd_syntax.specs.declared.type_tree.Trees.{Trees as CodeTrees, Trees-F, fold-Trees}
use Rattle.cd_syntax.specs.declared.type_tree.Signed.{Signed as CodeSigned, Signed-F, fold-Signed}
use Rattle.cd_syntax.specs.declared.type_tree.SignedTree.{SignedTree as CodeSignedTree}
use Rattle.cd_syntax.specs.declared.type_tree.SignedTree.{SignedTree-F, fold-SignedTree}
use Rattle.cd_syntax.specs.declared.type_tree.FieldTrees.{FieldTrees as CodeFieldTrees}
use Rattle.cd_syntax.specs.declared.type_tree.FieldTrees.{FieldTrees-F, fold-FieldTrees}
use Rattle.cd_syntax.specs.declared.type_tree.FieldTree.{FieldTree as CodeFieldTree, FieldTree-F}
use Rattle.cd_syntax.specs.declared.type_tree.FieldTree.{fold-FieldTree}
use Rattle.cd_syntax.specs.declared.type_tree.Declarations.{Declarations as CodeDeclarations}
use Rattle.cd_syntax.specs.declared.type_tree.Declarations.{Declarations-F, fold-Declarations}
use Rattle.cd_syntax.specs.declared.type_tree.Declaration.{Declaration as CodeDeclaration}
use Rattle.cd_syntax.specs.declared.type_tree.Declaration.{Declaration-F, fold-Declaration}
use Rattle.cd_syntax.specs.declared.type_tree.RegTree.{RegTree as CodeRegTree, RegTree-F}
use Rattle.cd_syntax.specs.declared.type_tree.RegTree.{fold-RegTree}
use Rattle.cd_syntax.specs.declared.type_tree.RegKind.{RegKind as CodeRegKind, RegKind-F}
use Rattle.cd_syntax.specs.declared.type_tree.RegKind.{fold-RegKind}
use Rattle.cd_syntax.specs.declared.type_tree.RegTrees.{RegTrees as CodeRegTrees, RegTrees-F}
use Rattle.cd_syntax.specs.declared.type_tree.RegTrees.{fold-RegTrees}
use Rattle.cd_syntax.specs.declared.type_tree.Rest.{Rest as CodeRest, Rest-F, fold-Rest}

-- one layer of each, whose parts are plain
abbrev pub tree_layer : Tree-F RegularKind Rest Kind Declaration Declarations Field Fields Regular
    Regulars Signs Signed Tree Trees → Tree
tree_layer one = tree one.span one.kind

abbrev pub rest_layer : Rest-F RegularKind Rest Kind Declaration Declarations Field Fields Regular
    Regulars Signs Signed Tree Trees → Rest
rest_layer layer.Closed = Closed
rest_layer layer.Open = Open
rest_layer (layer.Typed is) = Typed is.value

abbrev pub kind_layer : TreeKind-F RegularKind Rest Kind Declaration Declarations Field Fields Regular
    Regulars Signs Signed Tree Trees → Kind
kind_layer (layer.Builtin name) = Builtin name
kind_layer (layer.Ints low high) = Ints low high
kind_layer (layer.Chars low high) = Chars low high
kind_layer (layer.Atom name) = Atom name
kind_layer (layer.Text text) = Text text
kind_layer (layer.Tuple trees) = Tuple trees
kind_layer (layer.Arrows trees) = Arrows trees
kind_layer (layer.Union trees) = Union trees
kind_layer (layer.Meet first signs) = Meet first.value signs
kind_layer (layer.Sequence items) = Sequence items.value
kind_layer (layer.Record fields rest) = Record fields rest
kind_layer (layer.Xml tag attributes content) = Xml tag.value attributes.value content.value
kind_layer (layer.Named name) = Named name
kind_layer (layer.Where inner declarations) = Where inner.value declarations
kind_layer (layer.Variable name) = Variable name
kind_layer (layer.Default name constant) = Default name constant

abbrev pub trees_layer : Trees-F RegularKind Rest Kind Declaration Declarations Field Fields Regular
    Regulars Signs Signed Tree Trees → Trees
trees_layer list = trees_of list.items.items

abbrev pub signs_layer : Signed-F RegularKind Rest Kind Declaration Declarations Field Fields Regular
    Regulars Signs Signed Tree Trees → Signs
signs_layer list = signs_of list.items.items

abbrev pub signed_layer : SignedTree-F RegularKind Rest Kind Declaration Declarations Field Fields
    Regular Regulars Signs Signed Tree Trees → Signed
signed_layer one = record { kept = one.kept; tree = one.tree }

abbrev pub fields_layer : FieldTrees-F RegularKind Rest Kind Declaration Declarations Field Fields
    Regular Regulars Signs Signed Tree Trees → Fields
fields_layer list = fields_of list.items.items

abbrev pub field_layer : FieldTree-F RegularKind Rest Kind Declaration Declarations Field Fields Regular
    Regulars Signs Signed Tree Trees → Field
field_layer one = record {
  label = one.label;
  at = one.at;
  optional = one.optional;
  tree = one.tree;
}

abbrev pub declarations_layer : Declarations-F RegularKind Rest Kind Declaration Declarations Field
    Fields Regular Regulars Signs Signed Tree Trees → Declarations
declarations_layer list = declarations_of list.items.items

abbrev pub declaration_layer : Declaration-F RegularKind Rest Kind Declaration Declarations Field Fields
    Regular Regulars Signs Signed Tree Trees → Declaration
declaration_layer one = record { name = one.name; at = one.at; tree = one.tree }

abbrev pub regular_layer : RegTree-F RegularKind Rest Kind Declaration Declarations Field Fields Regular
    Regulars Signs Signed Tree Trees → Regular
regular_layer one = regular one.span one.kind

abbrev pub regular_kind_layer : RegKind-F RegularKind Rest Kind Declaration Declarations Field Fields
    Regular Regulars Signs Signed Tree Trees → RegularKind
regular_kind_layer layer.Nothing = Nothing
regular_kind_layer (layer.Item one) = Item one.value
regular_kind_layer (layer.Seq list) = Seq list
regular_kind_layer (layer.Alt list) = Alt list
regular_kind_layer (layer.Repeat one post) = Repeat one.value post
regular_kind_layer (layer.Capture name one) = Capture name one.value

abbrev pub regulars_layer : RegTrees-F RegularKind Rest Kind Declaration Declarations Field Fields
    Regular Regulars Signs Signed Tree Trees → Regulars
regulars_layer list = regulars_of list.items.items

-- the plain data that each is
abbrev pub plain : CodeTree → Tree
plain = fold-Tree RegularKind Rest Kind Declaration Declarations Field Fields Regular Regulars Signs
    Signed Tree Trees regular_kind_layer rest_layer kind_layer declaration_layer declarations_layer field_layer
    fields_layer regular_layer regulars_layer signs_layer signed_layer tree_layer trees_layer

abbrev pub plain_kind : CodeTreeKind → Kind
plain_kind =
    fold-TreeKind RegularKind Rest Kind Declaration Declarations Field Fields Regular Regulars Signs
    Signed Tree Trees regular_kind_layer rest_layer kind_layer declaration_layer declarations_layer field_layer
    fields_layer regular_layer regulars_layer signs_layer signed_layer tree_layer trees_layer

abbrev pub plain_trees : CodeTrees → Trees
plain_trees =
    fold-Trees RegularKind Rest Kind Declaration Declarations Field Fields Regular Regulars Signs Signed
    Tree Trees regular_kind_layer rest_layer kind_layer declaration_layer declarations_layer field_layer
    fields_layer regular_layer regulars_layer signs_layer signed_layer tree_layer trees_layer

abbrev pub plain_signs : CodeSigned → Signs
plain_signs =
    fold-Signed RegularKind Rest Kind Declaration Declarations Field Fields Regular Regulars Signs Signed
    Tree Trees regular_kind_layer rest_layer kind_layer declaration_layer declarations_layer field_layer
    fields_layer regular_layer regulars_layer signs_layer signed_layer tree_layer trees_layer

abbrev pub plain_signed : CodeSignedTree → Signed
plain_signed =
    fold-SignedTree RegularKind Rest Kind Declaration Declarations Field Fields Regular Regulars Signs
    Signed Tree Trees regular_kind_layer rest_layer kind_layer declaration_layer declarations_layer field_layer
    fields_layer regular_layer regulars_layer signs_layer signed_layer tree_layer trees_layer

abbrev pub plain_fields : CodeFieldTrees → Fields
plain_fields =
    fold-FieldTrees RegularKind Rest Kind Declaration Declarations Field Fields Regular Regulars Signs
    Signed Tree Trees regular_kind_layer rest_layer kind_layer declaration_layer declarations_layer field_layer
    fields_layer regular_layer regulars_layer signs_layer signed_layer tree_layer trees_layer

abbrev pub plain_field : CodeFieldTree → Field
plain_field =
    fold-FieldTree RegularKind Rest Kind Declaration Declarations Field Fields Regular Regulars Signs
    Signed Tree Trees regular_kind_layer rest_layer kind_layer declaration_layer declarations_layer field_layer
    fields_layer regular_layer regulars_layer signs_layer signed_layer tree_layer trees_layer

abbrev pub plain_rest : CodeRest → Rest
plain_rest =
    fold-Rest RegularKind Rest Kind Declaration Declarations Field Fields Regular Regulars Signs
    Signed Tree Trees regular_kind_layer rest_layer kind_layer declaration_layer declarations_layer
    field_layer fields_layer regular_layer regulars_layer signs_layer signed_layer tree_layer
    trees_layer

abbrev pub plain_declarations : CodeDeclarations → Declarations
plain_declarations =
    fold-Declarations RegularKind Rest Kind Declaration Declarations Field Fields Regular Regulars Signs
    Signed Tree Trees regular_kind_layer rest_layer kind_layer declaration_layer declarations_layer field_layer
    fields_layer regular_layer regulars_layer signs_layer signed_layer tree_layer trees_layer

abbrev pub plain_declaration : CodeDeclaration → Declaration
plain_declaration =
    fold-Declaration RegularKind Rest Kind Declaration Declarations Field Fields Regular Regulars Signs
    Signed Tree Trees regular_kind_layer rest_layer kind_layer declaration_layer declarations_layer field_layer
    fields_layer regular_layer regulars_layer signs_layer signed_layer tree_layer trees_layer

abbrev pub plain_regular : CodeRegTree → Regular
plain_regular =
    fold-RegTree RegularKind Rest Kind Declaration Declarations Field Fields Regular Regulars Signs
    Signed Tree Trees regular_kind_layer rest_layer kind_layer declaration_layer declarations_layer field_layer
    fields_layer regular_layer regulars_layer signs_layer signed_layer tree_layer trees_layer

abbrev pub plain_regular_kind : CodeRegKind → RegularKind
plain_regular_kind =
    fold-RegKind RegularKind Rest Kind Declaration Declarations Field Fields Regular Regulars Signs
    Signed Tree Trees regular_kind_layer rest_layer kind_layer declaration_layer declarations_layer field_layer
    fields_layer regular_layer regulars_layer signs_layer signed_layer tree_layer trees_layer

abbrev pub plain_regulars : CodeRegTrees → Regulars
plain_regulars =
    fold-RegTrees RegularKind Rest Kind Declaration Declarations Field Fields Regular Regulars Signs
    Signed Tree Trees regular_kind_layer rest_layer kind_layer declaration_layer declarations_layer field_layer
    fields_layer regular_layer regulars_layer signs_layer signed_layer tree_layer trees_layer
