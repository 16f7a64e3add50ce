use Rattle.std.proofs.Common.{ap, sym, ◌∙◌}
use Rattle.cd_model.specs.Thing.{NoField}
use Rattle.cd_cells.specs.Cells.{fields_of, name_at}
use Rattle.cd_evaluation.specs.Environment.{with_all, with_capture}
use Rattle.cd_taking.specs.Taken.{captured}
use Rattle.cd_code.proofs.EnvironmentsJoined.{part_after, one_part, parts_with, with_none}
use Rattle.cd_code.proofs.capturing.put_part.Goals as goal

pub returns-in_ok-push-in-Some-clause-env : goal.returns-in_ok-push-in-Some-clause-env
returns-in_ok-push-in-Some-clause-env c names table =
    ap (fields_of names table) c.in_ok-push-in-Some.ensures.items
    ∙ part_after names table c.args.parts.now.items c.in_ok-of-in-Some.field-0
    ∙ ap (with_all (fields_of names table c.args.parts.now.items))
    (one_part c.in_ok-of-in-Some.field-0 c.args.binding.label c.in-Some.id.0 c.in_ok-of-in-Some.ensures.label c.in_ok-of-in-Some.ensures.value names table
    (captured table c.args.captures.now c.args.binding.variable) (c.in-Some.ensures.value table))

pub returns-in_ok-push-in-Some-clause-parts : goal.returns-in_ok-push-in-Some-clause-parts
returns-in_ok-push-in-Some-clause-parts c names bound before label within =
    parts_with c.in_ok-of-in-Some.field-0 c.args.binding.label c.in-Some.id.0 c.in_ok-of-in-Some.ensures.label c.in_ok-of-in-Some.ensures.value names bound
    c.args.parts.now.items c.push.new.self.items c.in_ok-push-in-Some.ensures.items before label (c.in-Some.ensures.within bound within)

pub returns-in-None-clause-env : goal.returns-in-None-clause-env
returns-in-None-clause-env c names table =
    sym (with_none (fields_of names table c.args.parts.now.items))
    ∙ ap (λ found. with_all (fields_of names table c.args.parts.now.items)
    (with_capture (name_at names c.args.binding.label) found NoField)) (c.in-None.ensures.value table)
