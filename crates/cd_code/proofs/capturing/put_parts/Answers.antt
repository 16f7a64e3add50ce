use Rattle.std.proofs.Common.{sym, ap, ◌∙◌}
use Rattle.std.proofs.lemmas.List.{drop_more, drop_all}
use Rattle.cd_cells.specs.Cells.{fields_of}
use Rattle.cd_evaluation.specs.Environment.{with_all}
use Rattle.cd_code.specs.Inner.Bindings.{all_named}
use Rattle.cd_code.specs.Inner.Numbered.{env_by}
use Rattle.cd_taking.specs.Taken.{captured}
use Rattle.cd_code.proofs.EnvironmentsJoined.{with_none}
use Rattle.cd_code.proofs.PartsPut.{env_goes_on, parts_go_on}
use Rattle.cd_code.proofs.capturing.put_parts.Goals as goal

pub loop-binding-preserved : goal.loop-binding-preserved
loop-binding-preserved c =
    let is = drop_more c.args.bindings.now c.loop-binding.binding-index _ c.loop-binding-test.true in (
      λ names table. env_goes_on c.args.bindings.now c.args.captures.now c.loop-binding.binding-index _ is
          c.loop-binding.parts.items c.put_part.new.parts.items names table _ (c.in_ok-put_part.ensures.env names table)
          (c.loop-binding.invariant.0 names table),
      λ names bound labels within. parts_go_on c.args.bindings.now c.args.captures.now c.loop-binding.binding-index _ is
          c.loop-binding.parts.items c.put_part.new.parts.items names bound within (c.in_ok-put_part.ensures.parts names bound)
          (c.loop-binding.invariant.1 names bound labels within),
    )

pub returns-clause-env : goal.returns-clause-env
returns-clause-env c names table =
    let fields = fields_of names table c.loop-binding.parts.items in
    let taken = captured table c.args.captures.now in
    sym (with_none fields)
    ∙ ap (λ left. with_all fields (env_by (all_named names left) taken))
    (sym (drop_all c.loop-binding.binding-index c.args.bindings.now c.loop-binding-test.false))
    ∙ c.loop-binding.invariant.0 names table

pub returns-clause-parts : goal.returns-clause-parts
returns-clause-parts c names bound labels within = (c.loop-binding.invariant.1 names bound labels within).1
