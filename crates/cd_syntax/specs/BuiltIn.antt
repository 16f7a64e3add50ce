-- The names of the types that are built in.
use Rattle.std.specs.Prelude.{codes}
use Rattle.cd_syntax.specs.declared.builtin.BuiltinName.{BuiltinName}
use Rattle.cd_syntax.specs.declared.builtin.BuiltinName.TheVariants as builtin
use Rattle.cd_syntax.specs.Name.{Name}

-- a name of a type that is built in, and the type
pub data IsBuiltin : Name → BuiltinName → Type 0 where
  any : IsBuiltin (codes "_") builtin.Any
  any_name : IsBuiltin (codes "Any") builtin.Any
  empty : IsBuiltin (codes "Empty") builtin.Empty
  int : IsBuiltin (codes "Int") builtin.Int
  char : IsBuiltin (codes "Char") builtin.Char
  byte : IsBuiltin (codes "Byte") builtin.Byte
  atom : IsBuiltin (codes "Atom") builtin.Atom
  bool : IsBuiltin (codes "Bool") builtin.Bool
  string : IsBuiltin (codes "String") builtin.String
  arrow : IsBuiltin (codes "Arrow") builtin.Arrow
  pair : IsBuiltin (codes "Pair") builtin.Pair
  record_type : IsBuiltin (codes "Record") builtin.Record
  any_xml : IsBuiltin (codes "AnyXml") builtin.AnyXml
  data_type : IsBuiltin (codes "Data") builtin.Data
