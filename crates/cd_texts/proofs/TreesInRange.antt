-- Patterns are in range where their parts are.
use Rattle.std.proofs.Common.{ℕ, List, [], ◌∷◌, map, Option, Some, None}
use Rattle.std.specs.Char.{IsScalar}
use Rattle.cd_syntax.specs.Name.{Name}
use Rattle.cd_syntax.specs.declared.builtin.BuiltinName.{BuiltinName}
use Rattle.cd_syntax.specs.declared.tokens.Span.{Span}
use Rattle.cd_syntax.specs.declared.tokens.TokenKind.{TokenKind}
use Rattle.cd_syntax.specs.declared.tokens.TokenKind.TheVariants as kinds
use Rattle.cd_syntax.specs.TypeTree.{Tree, tree, trees_of, Signed, signs_of, Field, fields_of, Declaration}
use Rattle.cd_syntax.specs.TypeTree.{declarations_of, Regular, regulars_of}
use Rattle.cd_model.specs.AllOf.{AllOf}
use Rattle.cd_model.specs.Thing.{IsElement}
use Rattle.cd_model.proofs.SoundBuiltIns.{nil_is_label}
use Rattle.cd_matching.specs.Sequences.{text_of}
use Rattle.cd_grammar.specs.Parts.{AConstant, of_one}
use Rattle.cd_grammar.specs.Actions.{constant_of, type_of, item_of, letter, letters}
use Rattle.cd_nodes.specs.ConstantsInRange.{ConstantsInRange, KindInRange, AllInRange, SignsInRange, FieldsInRange}
use Rattle.cd_nodes.specs.ConstantsInRange.{DeclaredInRange, RegularInRange, RegularKindInRange, RegularsInRange}
use Rattle.cd_placed.proofs.TokensInRange.{TokenInRange}
use Rattle.cd_texts.proofs.PartsInRange.{PartInRange, SignInRange, TreeFieldInRange, DeclarationInRange}

-- constants
text_is_element : (text : List ℕ) → AllOf IsScalar text → IsElement (text_of text)
text_is_element [] are = nil_is_label
text_is_element (c ∷ text) are = (are.0, text_is_element text are.1)

pub constant_in_range : (kind : TokenKind) → TokenInRange kind
    → PartInRange (of_one (constant_of kind) (λ is. AConstant is))
constant_in_range (kinds.Int n) fits = fits
constant_in_range (kinds.Chars (c ∷ [])) are = are.0
constant_in_range (kinds.Text characters) are = text_is_element characters are
constant_in_range (kinds.Atom name) is = tt
constant_in_range _ is = tt

-- a name has none
pub name_in_range : (found : Option BuiltinName) (name : Name) → KindInRange (type_of found name)
name_in_range None name = tt
name_in_range (Some is) name = tt

-- rows
pub trees_in_range : (all : List Tree) → AllOf ConstantsInRange all → AllInRange (trees_of all)
trees_in_range [] are = tt
trees_in_range (one ∷ rest) are = (are.0, trees_in_range rest are.1)

pub signs_in_range : (all : List Signed) → AllOf SignInRange all → SignsInRange (signs_of all)
signs_in_range [] are = tt
signs_in_range (one ∷ rest) are = (are.0, signs_in_range rest are.1)

pub tree_fields_in_range : (all : List Field) → AllOf TreeFieldInRange all → FieldsInRange (fields_of all)
tree_fields_in_range [] are = tt
tree_fields_in_range (one ∷ rest) are = (are.0, tree_fields_in_range rest are.1)

pub declared_in_range : (all : List Declaration) → AllOf DeclarationInRange all → DeclaredInRange (declarations_of all)
declared_in_range [] are = tt
declared_in_range (one ∷ rest) are = (are.0, declared_in_range rest are.1)

pub regulars_in_range : (all : List Regular) → AllOf RegularInRange all → RegularsInRange (regulars_of all)
regulars_in_range [] are = tt
regulars_in_range (one ∷ rest) are = (are.0, regulars_in_range rest are.1)

-- items
pub item_in_range : (is : Tree) → ConstantsInRange is → RegularInRange (item_of is)
item_in_range (tree span kind) within = within

pub items_in_range : (all : List Tree) → AllOf ConstantsInRange all → AllOf RegularInRange (map item_of all)
items_in_range [] are = tt
items_in_range (one ∷ rest) are = (item_in_range one are.0, items_in_range rest are.1)

each_letter : (here : Span) (all : List ℕ) → RegularsInRange (regulars_of (map (letter here) all))
each_letter here [] = tt
each_letter here (c ∷ rest) = (tt, each_letter here rest)

pub letters_in_range : (here : Span) (all : List ℕ) → RegularKindInRange (letters here all)
letters_in_range here [] = tt
letters_in_range here (c ∷ rest) = each_letter here (c ∷ rest)
