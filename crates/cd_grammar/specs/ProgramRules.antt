-- The grammar of programs, a line for each rule.
--
-- A token after `^` opens a level for itself and for what stands right of it in its line; the depth
-- of tokens is the greatest number of levels that are open at one of them. Over each group of lines
-- stands the rule of the language that they spell out without empty productions. A chain of one
-- part is that part; a chain of two parts or more is one node.
use Rattle.std.specs.Prelude.{List, [], ◌∷◌}
use Rattle.cd_program.specs.declared.operator.Op.TheVariants as op
use Rattle.cd_program.specs.declared.operator.BuiltIn.TheVariants as built_in
use Rattle.cd_program.specs.declared.operator.Form.TheVariants as form
use Rattle.cd_grammar.specs.declared.make.Make.TheVariants.{One, Two, Three, Four, Five, Six}
use Rattle.cd_grammar.specs.declared.make.One.TheVariants.{FirstType, FirstFunction, That, Chain}
use Rattle.cd_grammar.specs.declared.make.One.TheVariants.{Apply, ConstantExpr, VariableExpr}
use Rattle.cd_grammar.specs.declared.make.One.TheVariants.{RunItem, OneItem, LabelExpr}
use Rattle.cd_grammar.specs.declared.make.One.TheVariants.{AttributesExpr}
use Rattle.cd_grammar.specs.declared.make.Two.TheVariants.{NextType, NextFunction, First, Second}
use Rattle.cd_grammar.specs.declared.make.Two.TheVariants.{NextBranches, Call, Applied}
use Rattle.cd_grammar.specs.declared.make.Two.TheVariants.{NextApplied, NoItems, NoExprFields}
use Rattle.cd_grammar.specs.declared.make.Two.TheVariants.{NextItems, Splice, NextExprFields}
use Rattle.cd_grammar.specs.declared.make.Two.TheVariants.{Path, FieldStep, ChildStep}
use Rattle.cd_grammar.specs.declared.make.Two.TheVariants.{AttributeStep}
use Rattle.cd_grammar.specs.declared.make.Three.TheVariants.{Between, SeparateSignatures}
use Rattle.cd_grammar.specs.declared.make.Three.TheVariants.{Signature, Branch, UnnamedFunction}
use Rattle.cd_grammar.specs.declared.make.Three.TheVariants.{FirstOperand, NextOperand}
use Rattle.cd_grammar.specs.declared.make.Three.TheVariants.{FirstWithout, NextWithout}
use Rattle.cd_grammar.specs.declared.make.Three.TheVariants.{BeforeFieldStep, BeforeChildStep}
use Rattle.cd_grammar.specs.declared.make.Three.TheVariants.{BeforeAttributeStep, TupleExpr}
use Rattle.cd_grammar.specs.declared.make.Three.TheVariants.{SequenceExpr, RecordExpr, TwoExprs}
use Rattle.cd_grammar.specs.declared.make.Three.TheVariants.{NextExpr, SeparateExprFields}
use Rattle.cd_grammar.specs.declared.make.Three.TheVariants.{ExprField, Source}
use Rattle.cd_grammar.specs.declared.make.Four.TheVariants.{Matching, NamedFunction, XmlExpr}
use Rattle.cd_grammar.specs.declared.make.Five.TheVariants.{DeclaredFunction, XmlExprWith}
use Rattle.cd_grammar.specs.declared.make.Five.TheVariants.{SourceWhere, BeforeSources}
use Rattle.cd_grammar.specs.declared.make.Six.TheVariants.{Let, If, Selecting}
use Rattle.cd_grammar.specs.Bnf.{Line, ◌⟼◌}

abbrev pub program_lines : List Line
program_lines =
    -- Program = { Decl [ ";;" ] }
    -- Decl = "type" TypeName "=" Tree | "let" "fun" Variable Function
    "Decls = Type" ⟼ One FirstType
    ∷ "Decls = Fun" ⟼ One FirstFunction
    ∷ "Decls = Decls Type" ⟼ Two NextType
    ∷ "Decls = Decls Fun" ⟼ Two NextFunction
    ∷ "Fun = LetFun" ⟼ One That
    ∷ "Fun = LetFun ';;" ⟼ Two First
    -- Function = "(" Sig { ";" Sig } ")" Branches
    ∷ "LetFun = ^let ^fun Variable Interface Branches" ⟼ Five DeclaredFunction
    ∷ "Interface = ^( Sigs ')" ⟼ Three Between
    ∷ "Sigs = Sig" ⟼ One That
    ∷ "Sigs = Sigs '; Sig" ⟼ Three SeparateSignatures
    -- Sig = Union "->" Arrow
    ∷ "Sig = Union ^-> Arrow" ⟼ Three Signature
    -- Branches = [ "|" ] Rest
    -- Rest = Union "->" Expr | Union "->" Body "|" Rest
    ∷ "Branches = Rest" ⟼ One That
    ∷ "Branches = '| Rest" ⟼ Two Second
    ∷ "Rest = Last" ⟼ One That
    ∷ "Rest = Closed Last" ⟼ Two NextBranches
    ∷ "Closed = Full" ⟼ One That
    ∷ "Closed = Closed Full" ⟼ Two NextBranches
    ∷ "Full = Branch '|" ⟼ Two First
    ∷ "Branch = Union' ^-> Body" ⟼ Three Branch
    ∷ "Last = Union' ^-> Expr" ⟼ Three Branch
    -- Expr = "match" Expr "with" Branches | "try" Expr "with" Branches
    --      | "map" Expr "with" Branches | "transform" Expr "with" Branches
    ∷ "Expr = ^match Expr 'with Branches" ⟼ Four (Matching form.Match)
    ∷ "Expr = ^try Expr 'with Branches" ⟼ Four (Matching form.Try)
    ∷ "Expr = ^map Expr 'with Branches" ⟼ Four (Matching form.Map)
    ∷ "Expr = ^transform Expr 'with Branches" ⟼ Four (Matching form.Transform)
    --      | "fun" [ Variable ] Function | "let" Union "=" Expr "in" Expr
    --      | "if" Expr "then" Expr "else" Expr | Or
    ∷ "Expr = ^fun Interface Branches" ⟼ Three UnnamedFunction
    ∷ "Expr = ^fun Variable Interface Branches" ⟼ Four NamedFunction
    ∷ "Expr = ^let Union' '= Expr 'in Expr" ⟼ Six Let
    ∷ "Expr = ^if Expr 'then Expr 'else Expr" ⟼ Six If
    ∷ "Expr = Or" ⟼ One That
    -- Body = "let" Union "=" Expr "in" Body | "if" Expr "then" Expr "else" Body | Or
    ∷ "Body = ^let Union' '= Expr 'in Body" ⟼ Six Let
    ∷ "Body = ^if Expr 'then Expr 'else Body" ⟼ Six If
    ∷ "Body = Or" ⟼ One That
    -- Or = And { "||" And }
    ∷ "Or = And" ⟼ One That
    ∷ "Or = Ors" ⟼ One Chain
    ∷ "Ors = And '|| And" ⟼ Three (FirstOperand op.Or)
    ∷ "Ors = Ors '|| And" ⟼ Three (NextOperand op.Or)
    -- And = Cmp { "&&" Cmp }
    ∷ "And = Cmp" ⟼ One That
    ∷ "And = Ands" ⟼ One Chain
    ∷ "Ands = Cmp '&& Cmp" ⟼ Three (FirstOperand op.And)
    ∷ "Ands = Ands '&& Cmp" ⟼ Three (NextOperand op.And)
    -- Cmp = Cat [ ( "=" | "!=" | "<" | "<=" | ">" | ">=" ) Cat ]
    ∷ "Cmp = Cat" ⟼ One That
    ∷ "Cmp = Compared" ⟼ One Chain
    ∷ "Compared = Cat '= Cat" ⟼ Three (FirstOperand op.Equal)
    ∷ "Compared = Cat '!= Cat" ⟼ Three (FirstOperand op.Unequal)
    ∷ "Compared = Cat '< Cat" ⟼ Three (FirstOperand op.Less)
    ∷ "Compared = Cat '<= Cat" ⟼ Three (FirstOperand op.AtMost)
    ∷ "Compared = Cat '> Cat" ⟼ Three (FirstOperand op.Greater)
    ∷ "Compared = Cat '>= Cat" ⟼ Three (FirstOperand op.AtLeast)
    -- Cat = Sum { "@" Sum }
    ∷ "Cat = Sum" ⟼ One That
    ∷ "Cat = Cats" ⟼ One Chain
    ∷ "Cats = Sum '@ Sum" ⟼ Three (FirstOperand op.Concat)
    ∷ "Cats = Cats '@ Sum" ⟼ Three (NextOperand op.Concat)
    -- Sum = Prod { ( "+" | "-" ) Prod | "\" Label }
    ∷ "Sum = Prod" ⟼ One That
    ∷ "Sum = Sums" ⟼ One Chain
    ∷ "Sums = Prod '+ Prod" ⟼ Three (FirstOperand op.Plus)
    ∷ "Sums = Prod '- Prod" ⟼ Three (FirstOperand op.Minus)
    ∷ "Sums = Prod '\\ Label" ⟼ Three FirstWithout
    ∷ "Sums = Sums '+ Prod" ⟼ Three (NextOperand op.Plus)
    ∷ "Sums = Sums '- Prod" ⟼ Three (NextOperand op.Minus)
    ∷ "Sums = Sums '\\ Label" ⟼ Three NextWithout
    -- Prod = App { ( "*" | "div" | "mod" ) App }
    ∷ "Prod = App" ⟼ One That
    ∷ "Prod = Prods" ⟼ One Chain
    ∷ "Prods = App '* App" ⟼ Three (FirstOperand op.Times)
    ∷ "Prods = App 'div App" ⟼ Three (FirstOperand op.Div)
    ∷ "Prods = App 'mod App" ⟼ Three (FirstOperand op.Mod)
    ∷ "Prods = Prods '* App" ⟼ Three (NextOperand op.Times)
    ∷ "Prods = Prods 'div App" ⟼ Three (NextOperand op.Div)
    ∷ "Prods = Prods 'mod App" ⟼ Three (NextOperand op.Mod)
    -- App = ( "not" | "flatten" | "int_of" | "string_of" | "min_of" | "max_of" | "raise" ) Post
    --     | Post { Post }             a further Post doesn't begin with "<"
    ∷ "App = 'not Post" ⟼ Two (Call built_in.Not)
    ∷ "App = 'flatten Post" ⟼ Two (Call built_in.Flatten)
    ∷ "App = 'int_of Post" ⟼ Two (Call built_in.IntOf)
    ∷ "App = 'string_of Post" ⟼ Two (Call built_in.StringOf)
    ∷ "App = 'min_of Post" ⟼ Two (Call built_in.MinOf)
    ∷ "App = 'max_of Post" ⟼ Two (Call built_in.MaxOf)
    ∷ "App = 'raise Post" ⟼ Two (Call built_in.Raise)
    ∷ "App = Post" ⟼ One That
    ∷ "App = Posts" ⟼ One Apply
    ∷ "Posts = Post NPost" ⟼ Two Applied
    ∷ "Posts = Posts NPost" ⟼ Two NextApplied
    -- Post = Base [ Steps ]; an NPost begins with no "<", a CPost with no Chars
    ∷ "Post = Base" ⟼ One That
    ∷ "Post = Base Steps" ⟼ Two Path
    ∷ "NPost = NBase" ⟼ One That
    ∷ "NPost = NBase Steps" ⟼ Two Path
    ∷ "CPost = CBase" ⟼ One That
    ∷ "CPost = CBase Steps" ⟼ Two Path
    -- Steps = "." Label [ Steps ] | "/" Label [ Steps ] | "/@" Label [ Steps ]
    ∷ "Steps = '. Label" ⟼ Two FieldStep
    ∷ "Steps = '. Label Steps" ⟼ Three BeforeFieldStep
    ∷ "Steps = ^/ Label" ⟼ Two ChildStep
    ∷ "Steps = ^/ Label Steps" ⟼ Three BeforeChildStep
    ∷ "Steps = ^/@ Label" ⟼ Two AttributeStep
    ∷ "Steps = ^/@ Label Steps" ⟼ Three BeforeAttributeStep
    -- Base = Int | Chars of one character | Text | Atom | Variable
    --      | "(" Expr { "," Expr } ")" | "[" { Item } "]"
    --      | "{" [ Label "=" Expr { ";" Label "=" Expr } [ ";" ] ] "}"
    --      | "<" ETag EAttrs ">" Base | "(" "select" Expr "from" Sources ")"
    ∷ "Base = Char1" ⟼ One ConstantExpr
    ∷ "Base = CBase" ⟼ One That
    ∷ "NBase = Char1" ⟼ One ConstantExpr
    ∷ "NBase = Core" ⟼ One That
    ∷ "CBase = Core" ⟼ One That
    ∷ "CBase = ^< ETag '> Base" ⟼ Four XmlExpr
    ∷ "CBase = ^< ETag EAttrs '> Base" ⟼ Five XmlExprWith
    ∷ "Core = Int" ⟼ One ConstantExpr
    ∷ "Core = Text" ⟼ One ConstantExpr
    ∷ "Core = Atom" ⟼ One ConstantExpr
    ∷ "Core = Variable" ⟼ One VariableExpr
    ∷ "Core = ^( Expr ')" ⟼ Three Between
    ∷ "Core = ^( Exprs ')" ⟼ Three TupleExpr
    ∷ "Core = ^[ ']" ⟼ Two NoItems
    ∷ "Core = ^[ Items ']" ⟼ Three SequenceExpr
    ∷ "Core = ^{ '}" ⟼ Two NoExprFields
    ∷ "Core = ^{ EFields '}" ⟼ Three RecordExpr
    ∷ "Core = ^( 'select Expr 'from Sources ')" ⟼ Six Selecting
    -- Sources = Union "in" Or [ "," Sources | "where" Or ]
    ∷ "Sources = Union' ^in Or" ⟼ Three Source
    ∷ "Sources = Union' ^in Or 'where Or" ⟼ Five SourceWhere
    ∷ "Sources = Union' ^in Or ', Sources" ⟼ Five BeforeSources
    ∷ "Exprs = Expr ', Expr" ⟼ Three TwoExprs
    ∷ "Exprs = Exprs ', Expr" ⟼ Three NextExpr
    -- Item = Chars of any number | "!" Post | a Post that begins with no Chars
    ∷ "Items = Item" ⟼ One That
    ∷ "Items = Items Item" ⟼ Two NextItems
    ∷ "Item = Char1" ⟼ One RunItem
    ∷ "Item = CharN" ⟼ One RunItem
    ∷ "Item = '! Post" ⟼ Two Splice
    ∷ "Item = CPost" ⟼ One OneItem
    ∷ "EFields = ERow" ⟼ One That
    ∷ "EFields = ERow ';" ⟼ Two First
    ∷ "ERow = EField" ⟼ One That
    ∷ "ERow = ERow '; EField" ⟼ Three SeparateExprFields
    ∷ "EField = Label '= Expr" ⟼ Three ExprField
    -- ETag = Label | "(" Expr ")"
    ∷ "ETag = Label" ⟼ One LabelExpr
    ∷ "ETag = ^( Expr ')" ⟼ Three Between
    -- EAttrs = { Label "=" Post [ ";" ] } | "(" Expr ")"
    ∷ "EAttrs = EAttrFields" ⟼ One AttributesExpr
    ∷ "EAttrs = ^( Expr ')" ⟼ Three Between
    ∷ "EAttrFields = EAttrList" ⟼ One That
    ∷ "EAttrFields = EAttrList ';" ⟼ Two First
    ∷ "EAttrList = EAttr" ⟼ One That
    ∷ "EAttrList = EAttrList EAttr" ⟼ Two NextExprFields
    ∷ "EAttrList = EAttrList '; EAttr" ⟼ Three SeparateExprFields
    ∷ "EAttr = Label '= Post" ⟼ Three ExprField
    ∷ []
