-- The program `let fun main (Int -> Int) x -> x`, which is accepted, and types that may be kept for
-- its match.
use Rattle.std.specs.Prelude.{[], ◌∷◌, Some, codes}
use Rattle.cd_syntax.specs.declared.builtin.BuiltinName.TheVariants as builtin
use Rattle.cd_syntax.specs.TypeTree as type
use Rattle.cd_syntax.specs.TypeTree.{Tree, tree, NoDeclaration}
use Rattle.cd_model.specs.BuiltIns.{built_ins, INT, BOOL}
use Rattle.cd_program.specs.Expr.{expr, Variable, NoBranch, ABranch, FunctionTree, function}
use Rattle.cd_program.specs.Expr.{Program}
use Rattle.cd_typing.specs.Kept.{Kept, Only}
use Rattle.cd_typing.specs.Typ.{typ}

abbrev pub int_tree : Tree
int_tree = tree (record { from = 0; to = 0 }) (type.Builtin builtin.Int)

abbrev pub x_tree : Tree
x_tree = tree (record { from = 0; to = 0 }) (type.Variable (codes "x"))

abbrev pub identity : FunctionTree
identity = function 4 (Some (codes "main")) 8 (record { takes = int_tree; gives = int_tree } ∷ [])
    (ABranch x_tree (expr (record { from = 0; to = 0 }) (Variable (codes "x"))) NoBranch)

abbrev pub identity_program : Program
identity_program = record { types = NoDeclaration; functions = identity ∷ []; end = 32 }

-- its match may be of integers, or of truth values, which are too few
abbrev pub integers_kept : Kept
integers_kept = Only (record { patterns = x_tree ∷ []; matched = typ built_ins INT } ∷ [])

abbrev pub truths_kept : Kept
truths_kept = Only (record { patterns = x_tree ∷ []; matched = typ built_ins BOOL } ∷ [])
