-- The tables of words.
use Rattle.std.specs.Prelude.{List, [], ◌∷◌, codes}
use Rattle.cd_syntax.specs.Name.{Name}
use Rattle.cd_syntax.specs.declared.builtin.BuiltinName.{BuiltinName}
use Rattle.cd_syntax.specs.declared.builtin.BuiltinName.TheVariants as builtin
use Rattle.cd_program.specs.declared.operator.Op.{Op}
use Rattle.cd_program.specs.declared.operator.Op.TheVariants as op
use Rattle.cd_program.specs.declared.operator.BuiltIn.{BuiltIn}
use Rattle.cd_program.specs.declared.operator.BuiltIn.TheVariants as built_in
use Rattle.cd_tables.specs.declared.keyword.Keyword.{Keyword}
use Rattle.cd_tables.specs.declared.keyword.Keyword.TheVariants as keyword

-- the keywords
abbrev pub keywords : List (Name × Keyword)
keywords = (codes "and", keyword.And)
    ∷ (codes "div", keyword.Div)
    ∷ (codes "else", keyword.Else)
    ∷ (codes "flatten", keyword.Flatten)
    ∷ (codes "from", keyword.From)
    ∷ (codes "fun", keyword.Fun)
    ∷ (codes "if", keyword.If)
    ∷ (codes "in", keyword.In)
    ∷ (codes "int_of", keyword.IntOf)
    ∷ (codes "let", keyword.Let)
    ∷ (codes "map", keyword.Map)
    ∷ (codes "match", keyword.Match)
    ∷ (codes "max_of", keyword.MaxOf)
    ∷ (codes "min_of", keyword.MinOf)
    ∷ (codes "mod", keyword.Mod)
    ∷ (codes "not", keyword.Not)
    ∷ (codes "raise", keyword.Raise)
    ∷ (codes "select", keyword.Select)
    ∷ (codes "string_of", keyword.StringOf)
    ∷ (codes "then", keyword.Then)
    ∷ (codes "transform", keyword.Transform)
    ∷ (codes "try", keyword.Try)
    ∷ (codes "type", keyword.Type)
    ∷ (codes "where", keyword.Where)
    ∷ (codes "with", keyword.With)
    ∷ []

-- the names of built-in types, and `_`, which is another name of Any
abbrev pub type_names : List (Name × BuiltinName)
type_names = (codes "Any", builtin.Any)
    ∷ (codes "AnyXml", builtin.AnyXml)
    ∷ (codes "Arrow", builtin.Arrow)
    ∷ (codes "Atom", builtin.Atom)
    ∷ (codes "Bool", builtin.Bool)
    ∷ (codes "Byte", builtin.Byte)
    ∷ (codes "Char", builtin.Char)
    ∷ (codes "Data", builtin.Data)
    ∷ (codes "Empty", builtin.Empty)
    ∷ (codes "Int", builtin.Int)
    ∷ (codes "Pair", builtin.Pair)
    ∷ (codes "Record", builtin.Record)
    ∷ (codes "String", builtin.String)
    ∷ (codes "_", builtin.Any)
    ∷ []

-- the operators between two operands
abbrev pub operators : List (Name × Op)
operators = (codes "!=", op.Unequal)
    ∷ (codes "&&", op.And)
    ∷ (codes "*", op.Times)
    ∷ (codes "+", op.Plus)
    ∷ (codes "-", op.Minus)
    ∷ (codes "<", op.Less)
    ∷ (codes "<=", op.AtMost)
    ∷ (codes "=", op.Equal)
    ∷ (codes ">", op.Greater)
    ∷ (codes ">=", op.AtLeast)
    ∷ (codes "@", op.Concat)
    ∷ (codes "div", op.Div)
    ∷ (codes "mod", op.Mod)
    ∷ (codes "||", op.Or)
    ∷ []

-- the words that stand before an operand
abbrev pub built_ins : List (Name × BuiltIn)
built_ins = (codes "flatten", built_in.Flatten)
    ∷ (codes "int_of", built_in.IntOf)
    ∷ (codes "max_of", built_in.MaxOf)
    ∷ (codes "min_of", built_in.MinOf)
    ∷ (codes "not", built_in.Not)
    ∷ (codes "raise", built_in.Raise)
    ∷ (codes "string_of", built_in.StringOf)
    ∷ []
