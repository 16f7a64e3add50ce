-- One step more of a path, of steps that stand from the last one to the first.
use Rattle.std.proofs.Common.{◌≡◌, ◌∙◌, ap, sym, List, [], ◌∷◌, ◌++◌, map, reverse}
use Rattle.cd_syntax.specs.declared.tokens.Span.{Span}
use Rattle.cd_program.specs.Expr.{Expr}
use Rattle.cd_query.specs.Core.{Step}
use Rattle.cd_parser.specs.declared.paths.Reached.{Reached}
use Rattle.cd_query.specs.declared.parts.Step.{Step as CodeStep}
use Rattle.cd_query.specs.PlainParts.{plain_step}
use Rattle.cd_parser.specs.Paths.{led}
use Rattle.cd_parser.proofs.Reversed.{pushed}

pub one_more : (here : Span) (old new : List CodeStep) (step : CodeStep) (reached now : Reached) (whole : Expr)
    → old ≡ new ++ step ∷ []
    → ((rest : List Step) → led here now rest ≡ led here reached (plain_step step ∷ rest))
    → led here reached (reverse (map plain_step old)) ≡ whole → led here now (reverse (map plain_step new)) ≡ whole
one_more here old new step reached now whole is leads so =
    leads (reverse (map plain_step new))
    ∙ sym (ap (λ all. led here reached (reverse (map plain_step all))) is
    ∙ ap (led here reached) (pushed plain_step new step))
    ∙ so
