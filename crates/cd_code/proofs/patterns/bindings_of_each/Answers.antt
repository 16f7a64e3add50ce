use Rattle.std.proofs.Common.{ap, ◌∙◌}
use Rattle.cd_names.specs.ProgramFaults.{names_of}
use Rattle.cd_cells.specs.Table.{names}
use Rattle.cd_cells.proofs.GrownTables.{further}
use Rattle.cd_resolved.specs.Resolved.{pattern_of}
use Rattle.cd_code.specs.Inner.Numbered.{numbered}
use Rattle.cd_code.proofs.PatternsBound.{one_more_bound}
use Rattle.cd_code.proofs.patterns.bindings_of_each.Goals as goal

pub loop-one-preserved : goal.loop-one-preserved
loop-one-preserved c =
    let before = c.loop-one.invariant in
    let made = c.in_ok-bindings_of.ensures in
    let one = c.one-item.result in record {
      bound = one_more_bound c.args.kernels.now (names c.loop-one.values) (names c.bindings_of.new.values) made.grows.labels
          c.loop-one.one-index one c.loop-one-test.true c.one-item.is c.loop-one.all.items c.push.new.self.items c.in_ok-bindings_of.field-0
          c.in_ok-push.ensures.items
          (record {
            bound = made.bound ∙ ap (λ variables. numbered variables (names_of (pattern_of one))) c.as_slice-variables.ensures.value;
            labels = made.labels;
          }) before.bound;
      grows = further _ _ _ before.grows made.grows;
    }
