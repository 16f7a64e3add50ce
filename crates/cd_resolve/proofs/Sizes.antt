-- How many steps a walk over a tree takes at most, which falls with each.
use Rattle.std.proofs.Common.{◌≡◌, ℕ, zero, suc, ◌+◌, ◌<◌, List, [], ◌∷◌, map, length, get_or, arith}
use Rattle.cd_syntax.specs.TypeTree.{Tree, tree, Kind, Tuple, Arrows, Union, Meet, Sequence, Record, Xml, Where, Trees}
use Rattle.cd_syntax.specs.TypeTree.{NoTree, ATree, Signs, NoSign, ASign, Fields, NoField, AField, Declarations}
use Rattle.cd_syntax.specs.TypeTree.{NoDeclaration, ADeclaration, Regular, regular, RegularKind, Nothing, Item, Seq}
use Rattle.cd_syntax.specs.TypeTree.{Alt, Repeat, Capture, Regulars, NoRegular, ARegular, trees_of, signs_of, fields_of}
use Rattle.cd_syntax.specs.TypeTree.{declarations_of, regulars_of, Rest, Closed, Open, Typed}
use Rattle.cd_syntax.specs.PlainTree.{plain, plain_signed, plain_field, plain_declaration, plain_regular}
use Rattle.cd_syntax.specs.declared.type_tree.Tree.{Tree as CodeTree}
use Rattle.cd_syntax.specs.declared.type_tree.SignedTree.{SignedTree as CodeSigned}
use Rattle.cd_syntax.specs.declared.type_tree.FieldTree.{FieldTree as CodeField}
use Rattle.cd_syntax.specs.declared.type_tree.Declaration.{Declaration as CodeDeclaration}
use Rattle.cd_syntax.specs.declared.type_tree.RegTree.{RegTree as CodeRegular}

abbrev mutual
  pub size : Tree → ℕ
  size (tree span kind) = suc (size_kind kind)

  pub size_kind : Kind → ℕ
  size_kind (Tuple trees) = suc (suc (size_trees trees))
  size_kind (Arrows trees) = suc (suc (size_trees trees))
  size_kind (Union trees) = suc (suc (size_trees trees))
  size_kind (Meet first signs) = suc (suc (suc (size first + size_signs signs)))
  size_kind (Sequence is) = suc (suc (size_regular is))
  size_kind (Record fields rest) = suc (suc (size_fields fields + size_rest rest))
  size_kind (Xml tag attributes content) =
      suc (suc (suc (size tag + size attributes + size content)))
  size_kind (Where is declarations) = suc (suc (suc (size is + size_declarations declarations)))
  size_kind kind = suc zero

  pub size_trees : Trees → ℕ
  size_trees NoTree = zero
  size_trees (ATree first rest) = suc (suc (size first + size_trees rest))

  pub size_signs : Signs → ℕ
  size_signs NoSign = zero
  size_signs (ASign kept is rest) = suc (suc (size is + size_signs rest))

  pub size_fields : Fields → ℕ
  size_fields NoField = zero
  size_fields (AField label at optional is rest) = suc (suc (size is + size_fields rest))

  pub size_rest : Rest → ℕ
  size_rest Closed = zero
  size_rest Open = zero
  size_rest (Typed is) = suc (size is)

  pub size_declarations : Declarations → ℕ
  size_declarations NoDeclaration = zero
  size_declarations (ADeclaration name at is rest) = suc (size is + size_declarations rest)

  pub size_regular : Regular → ℕ
  size_regular (regular span kind) = suc (size_regular_kind kind)

  pub size_regular_kind : RegularKind → ℕ
  size_regular_kind Nothing = suc zero
  size_regular_kind (Item is) = suc (size is)
  size_regular_kind (Seq all) = suc (suc (size_regulars all))
  size_regular_kind (Alt all) = suc (size_regulars all)
  size_regular_kind (Repeat is post) = suc (suc (size_regular is))
  size_regular_kind (Capture name is) = suc (suc (size_regular is))

  pub size_regulars : Regulars → ℕ
  size_regulars NoRegular = zero
  size_regulars (ARegular first rest) = suc (suc (size_regular first + size_regulars rest))

-- a step less, and as small
pub below : {m n : ℕ} → suc m < n → m < n
below fall = omega (arith, fall)

-- an item of a list is smaller than the list, by more than a step
pub trees_fall : (items : List CodeTree) (index : ℕ) (item : CodeTree) → item ≡ get_or items index item
    → index < length items
    → suc (size (plain item)) < size_trees (trees_of (map plain items))
trees_fall [] index item is within = absurd (omega arith)
trees_fall (first ∷ rest) zero item is within = rw is (omega arith)
trees_fall (first ∷ rest) (suc index) item is within =
    let on = trees_fall rest index item is (omega arith) in omega arith

pub signs_fall : (items : List CodeSigned) (index : ℕ) (item : CodeSigned) → item ≡ get_or items index item
    → index < length items
    → suc (size (plain_signed item).tree) < size_signs (signs_of (map plain_signed items))
signs_fall [] index item is within = absurd (omega arith)
signs_fall (first ∷ rest) zero item is within = rw is (omega arith)
signs_fall (first ∷ rest) (suc index) item is within =
    let on = signs_fall rest index item is (omega arith) in omega arith

pub fields_fall : (items : List CodeField) (index : ℕ) (item : CodeField) → item ≡ get_or items index item
    → index < length items
    → suc (size (plain_field item).tree) < size_fields (fields_of (map plain_field items))
fields_fall [] index item is within = absurd (omega arith)
fields_fall (first ∷ rest) zero item is within = rw is (omega arith)
fields_fall (first ∷ rest) (suc index) item is within = let on = fields_fall rest index item is (omega arith) in omega
    arith

pub declarations_fall : (items : List CodeDeclaration) (index : ℕ) (item : CodeDeclaration)
    → item ≡ get_or items index item → index < length items
    → size (plain_declaration item).tree < size_declarations (declarations_of (map plain_declaration items))
declarations_fall [] index item is within = absurd (omega arith)
declarations_fall (first ∷ rest) zero item is within = rw is (omega arith)
declarations_fall (first ∷ rest) (suc index) item is within = let on = declarations_fall rest index item is
    (omega arith) in omega arith

pub regulars_fall : (items : List CodeRegular) (index : ℕ) (item : CodeRegular) → item ≡ get_or items index item
    → index < length items
    → suc (size_regular (plain_regular item)) < size_regulars (regulars_of (map plain_regular items))
regulars_fall [] index item is within = absurd (omega arith)
regulars_fall (first ∷ rest) zero item is within = rw is (omega arith)
regulars_fall (first ∷ rest) (suc index) item is within =
    let on = regulars_fall rest index item is (omega arith) in omega arith
