-- The grammar of types and patterns, a line for each rule.
--
-- A token after `^` opens a level for itself and for what stands right of it in its line; the depth
-- of tokens is the greatest number of levels that are open at one of them. Over each group of lines
-- stands the rule of the language that they spell out without empty productions. A chain of one
-- part is that part; a chain of two parts or more is one node.
use Rattle.std.specs.Prelude.{true, false, List, [], ◌∷◌}
use Rattle.cd_syntax.specs.declared.type_tree.Post.TheVariants as post
use Rattle.cd_grammar.specs.declared.make.Make.TheVariants.{One, Two, Three, Four, Five}
use Rattle.cd_grammar.specs.declared.make.One.TheVariants.{That, NoFile, NoProgram, Arrows, Union}
use Rattle.cd_grammar.specs.declared.make.One.TheVariants.{Meet, Number, Character, Text, Atom}
use Rattle.cd_grammar.specs.declared.make.One.TheVariants.{Any, Named, Others, Label, Attributes}
use Rattle.cd_grammar.specs.declared.make.One.TheVariants.{Alternatives, InTurn, Item, Run, Mark}
use Rattle.cd_grammar.specs.declared.make.One.TheVariants.{Variable, Constant}
use Rattle.cd_grammar.specs.declared.make.Two.TheVariants.{Second, File, NextNames, First}
use Rattle.cd_grammar.specs.declared.make.Two.TheVariants.{HalfInterval, NoFields, EmptySequence}
use Rattle.cd_grammar.specs.declared.make.Two.TheVariants.{AndOthers, NextFields, TwoRegulars}
use Rattle.cd_grammar.specs.declared.make.Two.TheVariants.{NextRegular, Repeated, ItemRegular}
use Rattle.cd_grammar.specs.declared.make.Two.TheVariants.{RepeatedItem, Nil}
use Rattle.cd_grammar.specs.declared.make.Three.TheVariants.{Where, AndNames, Name, TwoTrees}
use Rattle.cd_grammar.specs.declared.make.Three.TheVariants.{BeforeTrees, NextTree, FirstSign}
use Rattle.cd_grammar.specs.declared.make.Three.TheVariants.{NextSign, Between, Tuple, Interval}
use Rattle.cd_grammar.specs.declared.make.Three.TheVariants.{Characters, Record, Sequence}
use Rattle.cd_grammar.specs.declared.make.Three.TheVariants.{SeparateOthers, SeparateFields, Field}
use Rattle.cd_grammar.specs.declared.make.Three.TheVariants.{TypedOthers}
use Rattle.cd_grammar.specs.declared.make.Three.TheVariants.{EitherRegular, OrRegular}
use Rattle.cd_grammar.specs.declared.make.Three.TheVariants.{RegularOrItem, ItemOrRegular}
use Rattle.cd_grammar.specs.declared.make.Three.TheVariants.{ItemsOrRegular, OrItem, Capture}
use Rattle.cd_grammar.specs.declared.make.Four.TheVariants.{Declaration, Xml}
use Rattle.cd_grammar.specs.declared.make.Five.TheVariants.{XmlWith, Default}
use Rattle.cd_grammar.specs.Bnf.{Line, ◌⟼◌}

-- what a text is to be stands before its tokens
abbrev pub start_lines : List Line
start_lines =
    "Whole = Start" ⟼ One That
    ∷ "Start = TypeText Tree" ⟼ Two Second
    ∷ "Start = TypeFile" ⟼ One NoFile
    ∷ "Start = TypeFile Types" ⟼ Two File
    ∷ "Start = ProgramText" ⟼ One NoProgram
    ∷ "Start = ProgramText Decls" ⟼ Two Second
    -- File = { "type" TypeName "=" Tree [ ";;" ] }
    ∷ "Types = Type" ⟼ One That
    ∷ "Types = Types Type" ⟼ Two NextNames
    ∷ "Type = Declared" ⟼ One That
    ∷ "Type = Declared ';;" ⟼ Two First
    ∷ "Declared = 'type TypeName '= Tree" ⟼ Four Declaration
    ∷ []

-- Types and patterns are written alike, so a line stands for two: one of types, in which a name is
-- as it is before `~`, and one of patterns, in which it ends with `'`.
abbrev pub tree_lines : List Line
tree_lines =
    -- Tree = Arrow [ "where" TypeName "=" Arrow { "and" TypeName "=" Arrow } ]
    "Tree~ = Arrow~" ⟼ One That
    ∷ "Tree~ = Arrow~ 'where Names~" ⟼ Three Where
    ∷ "Names~ = Name~" ⟼ One That
    ∷ "Names~ = Names~ 'and Name~" ⟼ Three AndNames
    ∷ "Name~ = TypeName '= Arrow~" ⟼ Three Name
    -- Arrow = Union [ "->" Arrow ]
    ∷ "Arrow~ = Union~" ⟼ One That
    ∷ "Arrow~ = Arrows~" ⟼ One Arrows
    ∷ "Arrows~ = Union~ ^-> Union~" ⟼ Three TwoTrees
    ∷ "Arrows~ = Union~ ^-> Arrows~" ⟼ Three BeforeTrees
    -- Union = Meet { "|" Meet }
    ∷ "Union~ = Meet~" ⟼ One That
    ∷ "Union~ = Meets~" ⟼ One Union
    ∷ "Meets~ = Meet~ '| Meet~" ⟼ Three TwoTrees
    ∷ "Meets~ = Meets~ '| Meet~" ⟼ Three NextTree
    -- Meet = Simple { ( "&" | "\" ) Simple }
    ∷ "Meet~ = Simple~" ⟼ One That
    ∷ "Meet~ = Signs~" ⟼ One Meet
    ∷ "Signs~ = Simple~ '& Simple~" ⟼ Three (FirstSign true)
    ∷ "Signs~ = Simple~ '\\ Simple~" ⟼ Three (FirstSign false)
    ∷ "Signs~ = Signs~ '& Simple~" ⟼ Three (NextSign true)
    ∷ "Signs~ = Signs~ '\\ Simple~" ⟼ Three (NextSign false)
    -- Simple = Bare | "(" Tree { "," Tree } ")"
    ∷ "Simple~ = Bare~" ⟼ One That
    ∷ "Simple~ = Paren~" ⟼ One That
    ∷ "Paren~ = ^( Tree~ ')" ⟼ Three Between
    ∷ "Paren~ = ^( Trees~ ')" ⟼ Three Tuple
    ∷ "Trees~ = Tree~ ', Tree~" ⟼ Three TwoTrees
    ∷ "Trees~ = Trees~ ', Tree~" ⟼ Three NextTree
    -- Bare = Int [ "--" Int ] | Int "--*" | "*--" Int
    --      | Chars [ "--" Chars ] | Text | Atom | "_" | TypeName
    ∷ "Bare~ = Int" ⟼ One Number
    ∷ "Bare~ = Int '-- Int" ⟼ Three Interval
    ∷ "Bare~ = Int '--*" ⟼ Two HalfInterval
    ∷ "Bare~ = '*-- Int" ⟼ Two HalfInterval
    ∷ "Bare~ = Char1" ⟼ One Character
    ∷ "Bare~ = Char1 '-- Char1" ⟼ Three Characters
    ∷ "Bare~ = Text" ⟼ One Text
    ∷ "Bare~ = Atom" ⟼ One Atom
    ∷ "Bare~ = '_" ⟼ One Any
    ∷ "Bare~ = TypeName" ⟼ One Named
    --      | "{" Fields "}" | "[" [ Reg ] "]" | "<" Tag Attrs ">" Simple
    ∷ "Bare~ = ^{ '}" ⟼ Two NoFields
    ∷ "Bare~ = ^{ Fields~ '}" ⟼ Three Record
    ∷ "Bare~ = ^[ ']" ⟼ Two EmptySequence
    ∷ "Bare~ = ^[ Reg~ ']" ⟼ Three Sequence
    ∷ "Bare~ = ^< Tag~ '> Simple~" ⟼ Four Xml
    ∷ "Bare~ = ^< Tag~ Attrs~ '> Simple~" ⟼ Five XmlWith
    -- Fields = [ Field { ";" Field } [ ";" ] ] [ ".." | "_" "=?" Tree ]
    ∷ "Fields~ = FieldList~" ⟼ One That
    ∷ "Fields~ = FieldList~ ';" ⟼ Two First
    ∷ "Fields~ = Others~" ⟼ One That
    ∷ "Fields~ = FieldList~ Others~" ⟼ Two AndOthers
    ∷ "Fields~ = FieldList~ '; Others~" ⟼ Three SeparateOthers
    ∷ "Others~ = '.." ⟼ One Others
    ∷ "Others~ = '_ '=? Tree~" ⟼ Three TypedOthers
    ∷ "FieldList~ = Field~" ⟼ One That
    ∷ "FieldList~ = FieldList~ '; Field~" ⟼ Three SeparateFields
    -- Field = Label ( "=" | "=?" ) Tree
    ∷ "Field~ = Label '= Tree~" ⟼ Three (Field false)
    ∷ "Field~ = Label '=? Tree~" ⟼ Three (Field true)
    -- Tag = Label | "_" | "(" Tree ")"
    ∷ "Tag~ = Label" ⟼ One Label
    ∷ "Tag~ = '_" ⟼ One Any
    ∷ "Tag~ = ^( Tree~ ')" ⟼ Three Between
    -- Attrs = { Label ( "=" | "=?" ) Simple [ ";" ] } [ ".." | "_" "=?" Simple ] | "(" Tree ")"
    ∷ "Attrs~ = AttrFields~" ⟼ One Attributes
    ∷ "Attrs~ = ^( Tree~ ')" ⟼ Three Between
    ∷ "AttrFields~ = AttrList~" ⟼ One That
    ∷ "AttrFields~ = AttrList~ ';" ⟼ Two First
    ∷ "AttrFields~ = AttrOthers~" ⟼ One That
    ∷ "AttrFields~ = AttrList~ AttrOthers~" ⟼ Two AndOthers
    ∷ "AttrFields~ = AttrList~ '; AttrOthers~" ⟼ Three SeparateOthers
    ∷ "AttrOthers~ = '.." ⟼ One Others
    ∷ "AttrOthers~ = '_ '=? Simple~" ⟼ Three TypedOthers
    ∷ "AttrList~ = Attr~" ⟼ One That
    ∷ "AttrList~ = AttrList~ Attr~" ⟼ Two NextFields
    ∷ "AttrList~ = AttrList~ '; Attr~" ⟼ Three SeparateFields
    ∷ "Attr~ = Label '= Simple~" ⟼ Three (Field false)
    ∷ "Attr~ = Label '=? Simple~" ⟼ Three (Field true)
    -- Reg = RSeq { "|" RSeq }
    ∷ "Reg~ = RSeq~" ⟼ One That
    ∷ "Reg~ = Alts~" ⟼ One Alternatives
    ∷ "Alts~ = RSeq~ '| RSeq~" ⟼ Three EitherRegular
    ∷ "Alts~ = Alts~ '| RSeq~" ⟼ Three OrRegular
    -- RSeq = RPost { RPost }
    ∷ "RSeq~ = RPost~" ⟼ One That
    ∷ "RSeq~ = RPosts~" ⟼ One InTurn
    ∷ "RPosts~ = RPost~ RPost~" ⟼ Two TwoRegulars
    ∷ "RPosts~ = RPosts~ RPost~" ⟼ Two NextRegular
    -- RPost = RItem [ "*" | "+" | "?" | "*?" | "+?" | "??" ]
    ∷ "RPost~ = RItem~" ⟼ One That
    ∷ "RPost~ = RItem~ Postfix" ⟼ Two Repeated
    -- RItem = a type, or a group: Chars of other than one character, or a Reg in parentheses that
    -- is not a row of types alone
    ∷ "RItem~ = IItem~" ⟼ One Item
    ∷ "RItem~ = Group~" ⟼ One That
    ∷ "Group~ = CharN" ⟼ One Run
    ∷ "Group~ = ^( GReg~ ')" ⟼ Three Between
    ∷ "GReg~ = GSeq~" ⟼ One That
    ∷ "GReg~ = GAlts~" ⟼ One Alternatives
    ∷ "GAlts~ = GSeq~ '| GSeq~" ⟼ Three EitherRegular
    ∷ "GAlts~ = GSeq~ '| IItem~" ⟼ Three RegularOrItem
    ∷ "GAlts~ = IItem~ '| GSeq~" ⟼ Three ItemOrRegular
    ∷ "GAlts~ = IAlts~ '| GSeq~" ⟼ Three ItemsOrRegular
    ∷ "GAlts~ = GAlts~ '| GSeq~" ⟼ Three OrRegular
    ∷ "GAlts~ = GAlts~ '| IItem~" ⟼ Three OrItem
    ∷ "GSeq~ = GItem~" ⟼ One That
    ∷ "GSeq~ = GPosts~" ⟼ One InTurn
    ∷ "GPosts~ = GItem~ RPost~" ⟼ Two TwoRegulars
    ∷ "GPosts~ = IItem~ RPost~" ⟼ Two ItemRegular
    ∷ "GPosts~ = GPosts~ RPost~" ⟼ Two NextRegular
    ∷ "GItem~ = Group~" ⟼ One That
    ∷ "GItem~ = Group~ Postfix" ⟼ Two Repeated
    ∷ "GItem~ = IItem~ Postfix" ⟼ Two RepeatedItem
    -- a type in a sequence; in parentheses: a union of such, or a form with a "," or "->" or
    -- "where" of its own
    ∷ "IItem~ = IBase~" ⟼ One That
    ∷ "IItem~ = ISigns~" ⟼ One Meet
    ∷ "ISigns~ = IBase~ '& Simple~" ⟼ Three (FirstSign true)
    ∷ "ISigns~ = IBase~ '\\ Simple~" ⟼ Three (FirstSign false)
    ∷ "ISigns~ = ISigns~ '& Simple~" ⟼ Three (NextSign true)
    ∷ "ISigns~ = ISigns~ '\\ Simple~" ⟼ Three (NextSign false)
    ∷ "IBase~ = Bare~" ⟼ One That
    ∷ "IBase~ = ^( IUnion~ ')" ⟼ Three Between
    ∷ "IBase~ = Own~" ⟼ One That
    ∷ "Own~ = ^( ITrees~ ')" ⟼ Three Tuple
    ∷ "Own~ = ^( OwnTree~ ')" ⟼ Three Between
    ∷ "ITrees~ = ITree~ ', Tree~" ⟼ Three TwoTrees
    ∷ "ITrees~ = ITrees~ ', Tree~" ⟼ Three NextTree
    ∷ "ITree~ = IUnion~" ⟼ One That
    ∷ "ITree~ = OwnTree~" ⟼ One That
    ∷ "OwnTree~ = IArrow~" ⟼ One That
    ∷ "OwnTree~ = IArrow~ 'where Names~" ⟼ Three Where
    ∷ "OwnTree~ = IUnion~ 'where Names~" ⟼ Three Where
    ∷ "IArrow~ = IArrows~" ⟼ One Arrows
    ∷ "IArrows~ = IUnion~ ^-> Union~" ⟼ Three TwoTrees
    ∷ "IArrows~ = IUnion~ ^-> Arrows~" ⟼ Three BeforeTrees
    ∷ "IUnion~ = IItem~" ⟼ One That
    ∷ "IUnion~ = IAlts~" ⟼ One Union
    ∷ "IAlts~ = IItem~ '| IItem~" ⟼ Three TwoTrees
    ∷ "IAlts~ = IAlts~ '| IItem~" ⟼ Three NextTree
    ∷ []

-- what is the same in both
abbrev pub word_lines : List Line
word_lines =
    "Postfix = '*" ⟼ One (Mark post.Star)
    ∷ "Postfix = '+" ⟼ One (Mark post.Plus)
    ∷ "Postfix = '?" ⟼ One (Mark post.Opt)
    ∷ "Postfix = '*?" ⟼ One (Mark post.LazyStar)
    ∷ "Postfix = '+?" ⟼ One (Mark post.LazyPlus)
    ∷ "Postfix = '??" ⟼ One (Mark post.LazyOpt)
    -- a label is a word but `_`
    ∷ "Label = TypeName" ⟼ One That
    ∷ "Label = Variable" ⟼ One That
    ∷ "Label = 'type" ⟼ One That
    ∷ "Label = 'let" ⟼ One That
    ∷ "Label = 'fun" ⟼ One That
    ∷ "Label = 'in" ⟼ One That
    ∷ "Label = 'match" ⟼ One That
    ∷ "Label = 'with" ⟼ One That
    ∷ "Label = 'if" ⟼ One That
    ∷ "Label = 'then" ⟼ One That
    ∷ "Label = 'else" ⟼ One That
    ∷ "Label = 'try" ⟼ One That
    ∷ "Label = 'map" ⟼ One That
    ∷ "Label = 'transform" ⟼ One That
    ∷ "Label = 'where" ⟼ One That
    ∷ "Label = 'and" ⟼ One That
    ∷ "Label = 'div" ⟼ One That
    ∷ "Label = 'mod" ⟼ One That
    ∷ "Label = 'not" ⟼ One That
    ∷ "Label = 'flatten" ⟼ One That
    ∷ "Label = 'int_of" ⟼ One That
    ∷ "Label = 'string_of" ⟼ One That
    ∷ "Label = 'min_of" ⟼ One That
    ∷ "Label = 'max_of" ⟼ One That
    ∷ "Label = 'raise" ⟼ One That
    ∷ "Label = 'select" ⟼ One That
    ∷ "Label = 'from" ⟼ One That
    ∷ []

-- what stands in patterns alone
abbrev pub pattern_lines : List Line
pattern_lines =
    -- Bare = Variable
    "Bare' = Variable" ⟼ One Variable
    -- Simple = "(" Variable ":=" Constant ")"
    ∷ "Paren' = Default" ⟼ One That
    ∷ "Own' = Default" ⟼ One That
    ∷ "Default = ^( Variable ':= Constant ')" ⟼ Five Default
    -- Constant = Int | Chars of one character | Text | Atom | "[" "]"
    ∷ "Constant = Int" ⟼ One Constant
    ∷ "Constant = Char1" ⟼ One Constant
    ∷ "Constant = Text" ⟼ One Constant
    ∷ "Constant = Atom" ⟼ One Constant
    ∷ "Constant = ^[ ']" ⟼ Two Nil
    -- RPost = Variable "::" RPost
    ∷ "RPost' = Variable ^:: RPost'" ⟼ Three Capture
    ∷ "GItem' = Variable ^:: RPost'" ⟼ Three Capture
    ∷ []
