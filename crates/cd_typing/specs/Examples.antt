-- Small expressions, some of which have no type.
use Rattle.std.specs.Prelude.{◌≡◌, pos, Some, codes}
use Rattle.cd_syntax.specs.declared.constant.Constant.TheVariants as constant
use Rattle.cd_model.specs.Thing.{Thing}
use Rattle.cd_program.specs.Expr.{Expr, expr, Constant, Variable, Apply, Chain, exprs_of, tails_of}
use Rattle.cd_program.specs.Expr.{Kind, Operand}
use Rattle.cd_program.specs.declared.operator.Op.TheVariants as op
use Rattle.std.specs.Prelude.{[], ◌∷◌}
use Rattle.cd_typing.specs.Typ.{Typ, In, Types, type_at}

abbrev pub here : Kind → Expr
here kind = expr (record { from = 0; to = 0 }) kind

abbrev pub x : Expr
x = here (Variable (codes "x"))

-- `x x`, and `10 div x`
abbrev pub x_of_x : Expr
x_of_x = here (Apply (exprs_of (x ∷ x ∷ [])))

abbrev pub ten_by_x : Expr
ten_by_x = here (Chain (here (Constant (constant.Int (pos 10)))) (tails_of (Operand op.Div x ∷ [])))

-- the element is one of the type of `x`
abbrev pub XMayBe : Types → Thing → Type 0
XMayBe types d = (t : Typ) × (type_at types (codes "x") ≡ Some t) × In t d
