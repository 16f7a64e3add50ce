-- Where steps of a path lead.
use Rattle.std.specs.Prelude.{List, map}
use Rattle.cd_syntax.specs.declared.tokens.Span.{Span}
use Rattle.cd_program.specs.Expr.{Expr}
use Rattle.cd_program.specs.PlainExpr.{plain, plain_tail}
use Rattle.cd_query.specs.Core.{Step, path}
use Rattle.cd_parser.specs.declared.paths.Reached.{Reached}

-- where the steps that are left lead from what was reached
abbrev pub led : (here : Span) → Reached → List Step → Expr
led here reached steps =
    path here reached.place (plain reached.first.value) (map plain_tail reached.tails.items) steps
