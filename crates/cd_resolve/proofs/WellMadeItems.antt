-- What is known of the items of lists that are well made as patterns are.
use Rattle.std.proofs.Common.{◌≡◌, ℕ, zero, suc, ◌<◌, List, [], ◌∷◌, map, length, get_or, sym, subst, arith}
use Rattle.cd_syntax.specs.TypeTree.{trees_of, signs_of, fields_of, declarations_of, regulars_of}
use Rattle.cd_syntax.specs.PlainTree.{plain, plain_signed, plain_field, plain_declaration, plain_regular}
use Rattle.cd_syntax.specs.WellMadePattern.{IsWellMadePattern, AreWellMadePatterns}
use Rattle.cd_syntax.specs.WellMadePattern.{AreWellMadePatternSigns, AreWellMadePatternFields}
use Rattle.cd_syntax.specs.WellMadePattern.{AreWellMadePatternDeclarations}
use Rattle.cd_syntax.specs.WellMadePattern.{IsWellMadePatternRegular, AreWellMadePatternRegulars}
use Rattle.cd_syntax.specs.declared.type_tree.Tree.{Tree as CodeTree}
use Rattle.cd_syntax.specs.declared.type_tree.SignedTree.{SignedTree as CodeSigned}
use Rattle.cd_syntax.specs.declared.type_tree.FieldTree.{FieldTree as CodeField}
use Rattle.cd_syntax.specs.declared.type_tree.Declaration.{Declaration as CodeDeclaration}
use Rattle.cd_syntax.specs.declared.type_tree.RegTree.{RegTree as CodeRegular}

-- each item of a well made list is well made
pub tree_made : (items : List CodeTree) (index : ℕ) (item : CodeTree) → item ≡ get_or items index item
    → index < length items → AreWellMadePatterns (trees_of (map plain items))
    → IsWellMadePattern (plain item)
tree_made [] index item is within made = absurd (omega arith)
tree_made (first ∷ rest) zero item is within made =
    subst (λ one. IsWellMadePattern (plain one)) (sym is) made.0
tree_made (first ∷ rest) (suc index) item is within made = tree_made rest index item is (omega arith) made.1

pub sign_made : (items : List CodeSigned) (index : ℕ) (item : CodeSigned) → item ≡ get_or items index item
    → index < length items → AreWellMadePatternSigns (signs_of (map plain_signed items))
    → IsWellMadePattern (plain_signed item).tree
sign_made [] index item is within made = absurd (omega arith)
sign_made (first ∷ rest) zero item is within made =
    subst (λ one. IsWellMadePattern (plain_signed one).tree) (sym is) made.0
sign_made (first ∷ rest) (suc index) item is within made = sign_made rest index item is (omega arith) made.1

pub field_made : (items : List CodeField) (index : ℕ) (item : CodeField) → item ≡ get_or items index item
    → index < length items → AreWellMadePatternFields (fields_of (map plain_field items))
    → IsWellMadePattern (plain_field item).tree
field_made [] index item is within made = absurd (omega arith)
field_made (first ∷ rest) zero item is within made =
    subst (λ one. IsWellMadePattern (plain_field one).tree) (sym is) made.1
field_made (first ∷ rest) (suc index) item is within made = field_made rest index item is (omega arith) made.2

pub declaration_made : (items : List CodeDeclaration) (index : ℕ) (item : CodeDeclaration)
    → item ≡ get_or items index item → index < length items
    → AreWellMadePatternDeclarations (declarations_of (map plain_declaration items))
    → IsWellMadePattern (plain_declaration item).tree
declaration_made [] index item is within made = absurd (omega arith)
declaration_made (first ∷ rest) zero item is within made =
    subst (λ one. IsWellMadePattern (plain_declaration one).tree) (sym is) made.0
declaration_made (first ∷ rest) (suc index) item is within made =
    declaration_made rest index item is (omega arith) made.1

pub regular_made : (items : List CodeRegular) (index : ℕ) (item : CodeRegular) → item ≡ get_or items index item
    → index < length items → AreWellMadePatternRegulars (regulars_of (map plain_regular items))
    → IsWellMadePatternRegular (plain_regular item)
regular_made [] index item is within made = absurd (omega arith)
regular_made (first ∷ rest) zero item is within made =
    subst (λ one. IsWellMadePatternRegular (plain_regular one)) (sym is) made.0
regular_made (first ∷ rest) (suc index) item is within made = regular_made rest index item is (omega arith) made.1
