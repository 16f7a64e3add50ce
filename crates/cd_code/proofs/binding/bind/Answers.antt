use Rattle.std.proofs.Common.{◌++◌, [], ap, ◌∙◌}
use Rattle.cd_cells.specs.Table.{names}
use Rattle.cd_code.specs.Inner.Bindings.{all_named}
use Rattle.cd_code.specs.Inner.Numbered.{with_number}
use Rattle.cd_code.proofs.BindingsStay.{one_more_named, one_more_label}
use Rattle.cd_code.proofs.binding.bind.Goals as goal

pub returns-clause-bound : goal.returns-clause-bound
returns-clause-bound c = one_more_named (names c.args.values.now) (names c.label.new.self) c.in_ok-label.ensures.grows.labels
    c.args.bindings.now.items c.requires.labels c.push.new.self.items
    (record { variable = c.in-Some.variable; label = c.in_ok-label.label }) c.args.name.now c.in_ok-push.ensures.items
    (c.in_ok-label.ensures.named ∙ c.as_str.ensures)
    ∙ ap (λ number. all_named (names c.args.values.now) c.args.bindings.now.items ++ with_number c.args.name.now number [])
    c.in-Some.ensures

pub returns-clause-labels : goal.returns-clause-labels
returns-clause-labels c = one_more_label (names c.args.values.now) (names c.label.new.self) c.in_ok-label.ensures.grows.labels
    c.args.bindings.now.items c.requires.labels c.push.new.self.items
    (record { variable = c.in-Some.variable; label = c.in_ok-label.label }) c.args.name.now c.in_ok-push.ensures.items
    (c.in_ok-label.ensures.named ∙ c.as_str.ensures) c.requires.label
