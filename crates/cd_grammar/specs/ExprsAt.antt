-- Expressions, functions and branches by their places in a text.
use Rattle.std.specs.Prelude.{ℕ, ◌+◌, pos, neg_ℤ, List, [], length, codes, Some, None}
use Prim.Native.String.{String}
use Rattle.cd_syntax.specs.declared.tokens.Token.{Token}
use Rattle.cd_syntax.specs.declared.tokens.TokenKind.TheVariants as token
use Rattle.cd_syntax.specs.declared.constant.Constant.TheVariants as constants
use Rattle.cd_syntax.specs.Tokens.{at}
use Rattle.cd_syntax.specs.TypeTree.{Tree, Variable}
use Rattle.cd_program.specs.Expr as code
use Rattle.cd_program.specs.Expr.{Expr, Kind, Tail, Field, Branch, Signature, FunctionTree}
use Rattle.cd_grammar.specs.TreesAt.{place, tree_from}

-- a digit after a minus sign, which are one token
abbrev pub negative_at : (n from : ℕ) → Token
negative_at n from = at (token.Int (neg_ℤ (pos n))) (place from (from + 2))

-- a variable of a pattern
abbrev pub bound_at : String → (from : ℕ) → Tree
bound_at name from = tree_from from (from + length (codes name)) (Variable (codes name))

-- an expression from one byte to another
abbrev pub expr_from : (from to : ℕ) → Kind → Expr
expr_from from to kind = code.expr (place from to) kind

-- a variable, and a digit
abbrev pub used_at : String → (from : ℕ) → Expr
used_at name from = expr_from from (from + length (codes name)) (code.Variable (codes name))

abbrev pub value_at : (n from : ℕ) → Expr
value_at n from = expr_from from (from + 1) (code.Constant (constants.Int (pos n)))

-- operators after their first operand
abbrev pub chain_from : (from to : ℕ) → Expr → List Tail → Expr
chain_from from to first rest = expr_from from to (code.Chain first (code.tails_of rest))

-- a field, and no attributes before a `>` at this byte
abbrev pub expr_field_at : String → (from : ℕ) → Expr → Field
expr_field_at label from is = record { label = codes label; at = from; expr = is }

abbrev pub no_fields_at : (from : ℕ) → Expr
no_fields_at from = expr_from from from (code.Record (code.fields_of []))

abbrev pub branch : Tree → Expr → Branch
branch takes gives = record { pattern = takes; body = gives }

-- an arrow of a function
abbrev pub arrow : Tree → Tree → Signature
arrow argument result = record { takes = argument; gives = result }

-- a function with a name, where the word `fun` and the name stand, and one without a name
abbrev pub function_at : String → (at name_at : ℕ) → List Signature → List Branch → FunctionTree
function_at name at name_at arrows all =
    code.function at (Some (codes name)) name_at arrows (code.branches_of all)

abbrev pub unnamed_at : (at : ℕ) → List Signature → List Branch → FunctionTree
unnamed_at at arrows all = code.function at None at arrows (code.branches_of all)
