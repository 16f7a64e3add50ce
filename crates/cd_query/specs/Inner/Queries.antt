-- Parts of what selects and paths stand for.
use Rattle.cd_syntax.specs.declared.tokens.Span.{Span}
use Rattle.cd_syntax.specs.Name.{Name}
use Rattle.cd_program.specs.Expr.{Expr, expr, Transform}
use Rattle.cd_query.specs.Core.{Source, one_branch, child_pattern, content_name, child_name}
use Rattle.cd_query.specs.Core.{named, single}

-- the same for each item of a source
abbrev pub over : (here : Span) → Source → Expr → Expr
over here source body =
    expr here (Transform source.value (one_branch source.pattern body))

-- the children of the content
abbrev pub children : (here word : Span) → Name → Expr
children here word label =
    expr here (Transform (named here content_name) (one_branch (child_pattern word label)
    (single here (named here child_name))))
