-- The grammar: all its lines, and the names of what stands in them.
use Rattle.std.specs.Prelude.{ℕ, List, [], ◌∷◌, ◌++◌, map, codes}
use Rattle.cd_grammar.specs.Bnf.{Line, marked, with_mark}
use Rattle.cd_grammar.specs.TreeRules.{start_lines, tree_lines, word_lines, pattern_lines}
use Rattle.cd_grammar.specs.ProgramRules.{program_lines}

-- the lines, each by its number
abbrev pub lines : List Line
lines =
    start_lines ++ (map (with_mark []) tree_lines ++ (map (with_mark (39 ∷ [])) tree_lines
    ++ (word_lines ++ (pattern_lines ++ program_lines))))

-- The names of terminals and nonterminals, in the order of their numbers: the signs, the words that
-- stand for themselves, the kinds of other tokens, what a text may be, and the end
abbrev pub terminals : List (List ℕ)
terminals =
    codes "'*--" ∷ codes "'--*" ∷ codes "'*?" ∷ codes "'+?" ∷ codes "'??" ∷ codes "'=?" ∷
    codes "'--" ∷ codes "'->" ∷ codes "'::" ∷ codes "':=" ∷ codes "'.." ∷ codes "'!=" ∷
    codes "'<=" ∷ codes "'>=" ∷ codes "'&&" ∷ codes "'||" ∷ codes "';;" ∷ codes "'/@" ∷ codes "'(" ∷
    codes "')" ∷ codes "'[" ∷ codes "']" ∷ codes "'{" ∷ codes "'}" ∷ codes "'<" ∷ codes "'>" ∷
    codes "'=" ∷ codes "'?" ∷ codes "'*" ∷ codes "'+" ∷ codes "'-" ∷ codes "'\\" ∷ codes "'|" ∷
    codes "'&" ∷ codes "'," ∷ codes "';" ∷ codes "'." ∷ codes "'/" ∷ codes "'!" ∷ codes "'@" ∷ codes "'_" ∷
    codes "'type" ∷ codes "'let" ∷ codes "'fun" ∷ codes "'in" ∷ codes "'match" ∷ codes "'with" ∷
    codes "'if" ∷ codes "'then" ∷ codes "'else" ∷ codes "'try" ∷ codes "'map" ∷
    codes "'transform" ∷ codes "'where" ∷ codes "'and" ∷ codes "'div" ∷ codes "'mod" ∷
    codes "'not" ∷ codes "'flatten" ∷ codes "'int_of" ∷ codes "'string_of" ∷ codes "'min_of" ∷
    codes "'max_of" ∷ codes "'raise" ∷ codes "'select" ∷ codes "'from" ∷
    codes "Int" ∷ codes "Char1" ∷ codes "CharN" ∷ codes "Text" ∷ codes "Atom" ∷ codes "TypeName" ∷
    codes "Variable" ∷ codes "TypeText" ∷ codes "TypeFile" ∷ codes "ProgramText" ∷ codes "$" ∷ []

abbrev pub start_names : List (List ℕ)
start_names =
    codes "Whole" ∷ codes "Start" ∷ codes "Types" ∷ codes "Type" ∷ codes "Declared" ∷ []

abbrev pub tree_names : List (List ℕ)
tree_names =
    codes "Tree~" ∷ codes "Names~" ∷ codes "Name~" ∷ codes "Arrow~" ∷ codes "Arrows~" ∷
    codes "Union~" ∷ codes "Meets~" ∷ codes "Meet~" ∷ codes "Signs~" ∷ codes "Simple~" ∷
    codes "Paren~" ∷ codes "Trees~" ∷ codes "Bare~" ∷ codes "Fields~" ∷ codes "Others~" ∷
    codes "FieldList~" ∷ codes "Field~" ∷ codes "Tag~" ∷ codes "Attrs~" ∷ codes "AttrFields~" ∷
    codes "AttrOthers~" ∷ codes "AttrList~" ∷ codes "Attr~" ∷ codes "Reg~" ∷ codes "Alts~" ∷ codes "RSeq~" ∷ codes "RPosts~" ∷
    codes "RPost~" ∷ codes "RItem~" ∷ codes "Group~" ∷ codes "GReg~" ∷ codes "GAlts~" ∷
    codes "GSeq~" ∷ codes "GPosts~" ∷ codes "GItem~" ∷ codes "IItem~" ∷ codes "ISigns~" ∷
    codes "IBase~" ∷ codes "Own~" ∷ codes "ITrees~" ∷ codes "ITree~" ∷ codes "OwnTree~" ∷
    codes "IArrow~" ∷ codes "IArrows~" ∷ codes "IUnion~" ∷ codes "IAlts~" ∷ []

abbrev pub word_names : List (List ℕ)
word_names =
    codes "Postfix" ∷ codes "Label" ∷ []

abbrev pub pattern_names : List (List ℕ)
pattern_names =
    codes "Default" ∷ codes "Constant" ∷ []

abbrev pub program_names : List (List ℕ)
program_names =
    codes "Decls" ∷ codes "Fun" ∷ codes "LetFun" ∷ codes "Interface" ∷ codes "Sigs" ∷ codes "Sig" ∷
    codes "Branches" ∷ codes "Rest" ∷ codes "Closed" ∷ codes "Full" ∷ codes "Branch" ∷
    codes "Last" ∷ codes "Expr" ∷ codes "Body" ∷ codes "Or" ∷ codes "Ors" ∷ codes "And" ∷
    codes "Ands" ∷ codes "Cmp" ∷ codes "Compared" ∷ codes "Cat" ∷ codes "Cats" ∷ codes "Sum" ∷
    codes "Sums" ∷ codes "Prod" ∷ codes "Prods" ∷ codes "App" ∷ codes "Posts" ∷ codes "Post" ∷
    codes "NPost" ∷ codes "CPost" ∷ codes "Steps" ∷ codes "Sources" ∷
    codes "Base" ∷ codes "NBase" ∷ codes "CBase" ∷ codes "Core" ∷ codes "Exprs" ∷ codes "Items" ∷
    codes "Item" ∷ codes "EFields" ∷ codes "ERow" ∷ codes "EField" ∷ codes "ETag" ∷
    codes "EAttrs" ∷ codes "EAttrFields" ∷ codes "EAttrList" ∷ codes "EAttr" ∷ []

abbrev pub nonterminals : List (List ℕ)
nonterminals =
    start_names ++ (map (marked []) tree_names ++ (map (marked (39 ∷ [])) tree_names
    ++ (word_names ++ (pattern_names ++ program_names))))
