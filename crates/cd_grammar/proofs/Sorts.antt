-- The sorts of parts, and which symbols of the grammar stand for which.
use Rattle.std.specs.Prelude.{ℕ, Bool, true, false, List, [], ◌∷◌, ◌++◌, bytes_eq, codes, nat_eq}
use Rattle.std.specs.Prelude.{Option, Some, None, slice_get}
use Rattle.std.specs.Int.{is_in_range}
use Rattle.cd_lr.specs.Grammar.{Symbol, Terminal, Nonterminal}
use Rattle.cd_lr.specs.Tables.{choose}
use Rattle.cd_grammar.specs.Rules.{terminals}

-- the forms of parts, of types or of patterns, and some tokens: one that is a constant, one character, an atom, a word
-- that may be a label
pub data Sort : Type 0 where
  OfTree : (pattern : Bool) → Sort
  OfTrees : (pattern : Bool) → Sort
  OfSigns : (pattern : Bool) → Sort
  OfFields : (pattern : Bool) → Sort
  OfNames : (pattern : Bool) → Sort
  OfRegular : (pattern : Bool) → Sort
  OfRegulars : (pattern : Bool) → Sort
  OfFile : Sort
  OfMark : Sort
  OfConstant : Sort
  OfExpr : Sort
  OfExprs : Sort
  OfChain : Sort
  OfItems : Sort
  OfExprFields : Sort
  OfBranches : Sort
  OfSignatures : Sort
  OfSteps : Sort
  OfSources : Sort
  OfFunction : Sort
  OfProgram : Sort
  OfToken : Sort
  OfLiteral : Sort
  OfCharacter : Sort
  OfAtom : Sort
  OfLabel : Sort
  OfAnything : Sort

-- What nonterminals stand for, in the order of their names. What a start is depends on the goal of the text.
abbrev pub start_sorts : List Sort
start_sorts =
    -- Whole, Start, Types, Type, Declared
    OfAnything ∷ OfAnything ∷ OfNames false ∷ OfNames false ∷ OfNames false ∷ []

abbrev pub tree_sorts : (pattern : Bool) → List Sort
tree_sorts p =
    -- Tree, Names, Name, Arrow, Arrows, Union, Meets, Meet, Signs
    OfTree p ∷ OfNames p ∷ OfNames p ∷ OfTree p ∷ OfTrees p ∷ OfTree p ∷ OfTrees p ∷ OfTree p ∷ OfSigns p
    -- Simple, Paren, Trees, Bare, Fields, Others, FieldList, Field
    ∷ OfTree p ∷ OfTree p ∷ OfTrees p ∷ OfTree p ∷ OfFields p ∷ OfFields p ∷ OfFields p ∷ OfFields p
    -- Tag, Attrs, AttrFields, AttrOthers, AttrList, Attr
    ∷ OfTree p ∷ OfTree p ∷ OfFields p ∷ OfFields p ∷ OfFields p ∷ OfFields p
    -- Reg, Alts, RSeq, RPosts, RPost, RItem, Group
    ∷ OfRegular p ∷ OfRegulars p ∷ OfRegular p ∷ OfRegulars p ∷ OfRegular p ∷ OfRegular p ∷ OfRegular p
    -- GReg, GAlts, GSeq, GPosts, GItem
    ∷ OfRegular p ∷ OfRegulars p ∷ OfRegular p ∷ OfRegulars p ∷ OfRegular p
    -- IItem, ISigns, IBase, Own, ITrees, ITree, OwnTree
    ∷ OfTree p ∷ OfSigns p ∷ OfTree p ∷ OfTree p ∷ OfTrees p ∷ OfTree p ∷ OfTree p
    -- IArrow, IArrows, IUnion, IAlts
    ∷ OfTree p ∷ OfTrees p ∷ OfTree p ∷ OfTrees p ∷ []

abbrev pub word_sorts : List Sort
word_sorts =
    -- Postfix, Label
    OfMark ∷ OfLabel ∷ []

abbrev pub pattern_sorts : List Sort
pattern_sorts =
    -- Default, Constant
    OfTree true ∷ OfConstant ∷ []

abbrev pub program_sorts : List Sort
program_sorts =
    -- Decls, Fun, LetFun, Interface, Sigs, Sig
    OfProgram ∷ OfFunction ∷ OfFunction ∷ OfSignatures ∷ OfSignatures ∷ OfSignatures
    -- Branches, Rest, Closed, Full, Branch, Last
    ∷ OfBranches ∷ OfBranches ∷ OfBranches ∷ OfBranches ∷ OfBranches ∷ OfBranches
    -- Expr, Body, Or, Ors, And, Ands, Cmp, Compared
    ∷ OfExpr ∷ OfExpr ∷ OfExpr ∷ OfChain ∷ OfExpr ∷ OfChain ∷ OfExpr ∷ OfChain
    -- Cat, Cats, Sum, Sums, Prod, Prods, App, Posts
    ∷ OfExpr ∷ OfChain ∷ OfExpr ∷ OfChain ∷ OfExpr ∷ OfChain ∷ OfExpr ∷ OfExprs
    -- Post, NPost, CPost, Steps, Sources
    ∷ OfExpr ∷ OfExpr ∷ OfExpr ∷ OfSteps ∷ OfSources
    -- Base, NBase, CBase, Core, Exprs, Items, Item
    ∷ OfExpr ∷ OfExpr ∷ OfExpr ∷ OfExpr ∷ OfExprs ∷ OfItems ∷ OfItems
    -- EFields, ERow, EField, ETag, EAttrs
    ∷ OfExprFields ∷ OfExprFields ∷ OfExprFields ∷ OfExpr ∷ OfExpr
    -- EAttrFields, EAttrList, EAttr
    ∷ OfExprFields ∷ OfExprFields ∷ OfExprFields ∷ []

abbrev pub sorts : List Sort
sorts =
    start_sorts ++ (tree_sorts false ++ (tree_sorts true ++ (word_sorts ++ (pattern_sorts ++ program_sorts))))

abbrev pub or_anything : Option Sort → Sort
or_anything None = OfAnything
or_anything (Some sort) = sort

-- a sign or word that stands for itself: the words of letters may be labels
abbrev pub begins_with_letter : List ℕ → Bool
begins_with_letter [] = false
begins_with_letter (c ∷ rest) = is_in_range 97 122 c

abbrev pub sort_of_word : List ℕ → Sort
sort_of_word name = choose (begins_with_letter name) OfLabel OfToken

-- the kinds of other tokens
abbrev pub kinds : List (List ℕ × Sort)
kinds =
    (codes "Int", OfLiteral) ∷ (codes "Char1", OfCharacter) ∷ (codes "CharN", OfToken) ∷ (codes "Text", OfLiteral)
    ∷ (codes "Atom", OfAtom) ∷ (codes "TypeName", OfLabel) ∷ (codes "Variable", OfLabel) ∷ []

abbrev pub sort_among : List (List ℕ × Sort) → List ℕ → Sort
sort_among [] name = OfAnything
sort_among (one ∷ rest) name = choose (bytes_eq one.0 name) one.1 (sort_among rest name)

abbrev pub sort_of_name : List ℕ → Sort
sort_of_name [] = OfAnything
sort_of_name (c ∷ rest) = choose (nat_eq c 39) (sort_of_word rest) (sort_among kinds (c ∷ rest))

abbrev pub sort_named : Option (List ℕ) → Sort
sort_named None = OfAnything
sort_named (Some name) = sort_of_name name

abbrev pub sort_of : Symbol → Sort
sort_of (Terminal opens k) = sort_named (slice_get terminals k)
sort_of (Nonterminal n) = or_anything (slice_get sorts n)
