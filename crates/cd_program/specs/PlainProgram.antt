-- The programs of the code as plain data.
use Rattle.std.specs.Prelude.{List, map}
use Rattle.cd_syntax.specs.PlainTree.{plain_declarations}
use Rattle.cd_program.specs.Expr.{FunctionTree, Program}
use Rattle.cd_program.specs.PlainExpr.{plain_function}
use Rattle.cd_program.specs.declared.program.FunctionTrees.{FunctionTrees}
use Rattle.cd_program.specs.declared.program.Program.{Program as CodeProgram}

abbrev pub plain_functions : FunctionTrees → List FunctionTree
plain_functions list = map plain_function list.items.items

abbrev pub plain_program : CodeProgram → Program
plain_program is = record {
  types = plain_declarations is.types;
  functions = plain_functions is.functions;
  end = is.end;
}
