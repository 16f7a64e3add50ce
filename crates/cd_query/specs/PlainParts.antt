-- The steps and sources of the code as plain data.
use Rattle.cd_syntax.specs.PlainTree.{plain}
use Rattle.cd_program.specs.PlainExpr.{plain as plain_expr}
use Rattle.cd_query.specs.Core as queries
use Rattle.cd_query.specs.declared.parts.Step.{Step}
use Rattle.cd_query.specs.declared.parts.Step.TheVariants as step
use Rattle.cd_query.specs.declared.parts.Source.{Source}

abbrev pub plain_step : Step → queries.Step
plain_step (step.Field word label) = queries.ToField word label
plain_step (step.Child sign word label) = queries.ToChild sign word label
plain_step (step.Attribute sign word label) = queries.ToAttribute sign word label

abbrev pub plain_source : Source → queries.Source
plain_source one = record { pattern = plain one.pattern.value; value = plain_expr one.value.value }
