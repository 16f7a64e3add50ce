-- Small programs `let fun main (..) x -> body`, where patterns are variables and atoms alone.
use Rattle.std.specs.Prelude.{◌≡◌, ℤ, pos, negsuc, List, [], ◌∷◌, Option, Some, None, codes}
use Rattle.std.specs.Prelude.{if◌then◌else◌}
use Rattle.cd_syntax.specs.declared.constant.Constant.TheVariants as constant
use Rattle.cd_syntax.specs.TypeTree as tree
use Rattle.cd_syntax.specs.TypeTree.{Tree}
use Rattle.cd_model.specs.Thing.{Thing, Atom, Closure, NoField, Field}
use Rattle.cd_program.specs.declared.operator.Op.{Op}
use Rattle.cd_program.specs.declared.operator.Op.TheVariants as op
use Rattle.cd_program.specs.declared.operator.BuiltIn.TheVariants as word
use Rattle.cd_program.specs.Expr.{Expr, expr, Kind, Constant, Variable, Sequence, Record, Apply}
use Rattle.cd_program.specs.Expr.{Try, Map, Transform, If, Chain, Call, One, Splice, Run, Tail}
use Rattle.cd_program.specs.Expr.{Operand, Without, function}
use Rattle.cd_program.specs.Expr.{exprs_of, items_of, fields_of, tails_of, branches_of}
use Rattle.cd_evaluation.specs.Environment.{Env}
use Rattle.cd_evaluation.specs.Equality.{same}
use Rattle.cd_evaluation.specs.Code.{Code}

abbrev pub here : Kind → Expr
here kind = expr (record { from = 0; to = 0 }) kind

abbrev pub pattern : tree.Kind → Tree
pattern kind = tree.tree (record { from = 0; to = 0 }) kind

abbrev pub take : Tree → Thing → Option Env → Type 0
take (tree.tree span (tree.Variable name)) v answer = answer ≡ Some (Field name v NoField)
take (tree.tree span (tree.Atom name)) v answer =
    answer ≡ (if same v (Atom name) then Some NoField else None)
take _ v answer = ⊥

abbrev pub x_taken : Tree
x_taken = pattern (tree.Variable (codes "x"))

abbrev pub code_of : (body : Expr) → Code
code_of body = record {
  function = λ at. Some (function 0 (Some (codes "main")) 0 []
      (branches_of (record { pattern = x_taken; body = body } ∷ [])));
  declared = λ name. None;
  take = take;
}

abbrev pub main : Thing
main = Closure 0 NoField

abbrev pub x : Expr
x = here (Variable (codes "x"))

abbrev pub int : ℤ → Expr
int n = here (Constant (constant.Int n))

abbrev pub chain : Expr → List Tail → Expr
chain first tails = here (Chain first (tails_of tails))

-- x + 1
abbrev pub one_more : Expr
one_more = chain x (Operand op.Plus (int (pos 1)) ∷ [])

-- x div -1, and x mod -1
abbrev pub by_minus_one : Op → Expr
by_minus_one is = chain x (Operand is (int (negsuc 0)) ∷ [])

-- raise `Oops
abbrev pub oops : Expr
oops = here (Call word.Raise (here (Constant (constant.Atom (codes "Oops")))))

-- try int_of x with `Invalid_int -> 0 - 1
abbrev pub read_x : Expr
read_x = here (Try (here (Call word.IntOf x)) (branches_of (record {
  pattern = pattern (tree.Atom (codes "Invalid_int"));
  body = chain (int (pos 0)) (Operand op.Minus (int (pos 1)) ∷ []);
} ∷ [])))

-- {a=x; b=1} + {b="x"} \ a
abbrev pub records : Expr
records = chain (here (Record (fields_of (record { label = codes "a"; at = 0; expr = x }
    ∷ record { label = codes "b"; at = 0; expr = int (pos 1) } ∷ []))))
    (Operand op.Plus (here (Record (fields_of (record {
      label = codes "b";
      at = 0;
      expr = here (Constant (constant.Text (codes "x")));
    } ∷ [])))) ∷ Without (codes "a") ∷ [])

-- (map x with x -> x * 2) @ [0]
abbrev pub doubled : Expr
doubled = chain (here (Map x (branches_of (record {
  pattern = x_taken;
  body = chain x (Operand op.Times (int (pos 2)) ∷ []);
} ∷ [])))) (Operand op.Concat (here (Sequence (items_of (One (int (pos 0)) ∷ [])))) ∷ [])

-- flatten x
abbrev pub flat : Expr
flat = here (Call word.Flatten x)

-- transform x with `a -> [1]
abbrev pub ones : Expr
ones = here (Transform x (branches_of (record {
  pattern = pattern (tree.Atom (codes "a"));
  body = here (Sequence (items_of (One (int (pos 1)) ∷ [])));
} ∷ [])))

-- if x = 0 then {a=0} else [!x 'y']
abbrev pub ask : Expr
ask = here (If (chain x (Operand op.Equal (int (pos 0)) ∷ []))
    (here (Record (fields_of (record { label = codes "a"; at = 0; expr = int (pos 0) } ∷ []))))
    (here (Sequence (items_of (Splice x ∷ Run (codes "y") ∷ [])))))

-- main x
abbrev pub loop : Expr
loop = here (Apply (exprs_of (here (Variable (codes "main")) ∷ x ∷ [])))
