use Rattle.std.proofs.Common.{sym, ap, ◌∙◌, map}
use Rattle.cd_cells.specs.Table.{names}
use Rattle.cd_asking.specs.Inner.Asked.{held}
use Rattle.cd_asking.proofs.Cases.{no_fields}
use Rattle.cd_asking.proofs.finding.case_fields.Goals as goal

pub returns-in_default : goal.returns-in_default
returns-in_default c = ap (map held) c.new.ensures.items ∙ sym (no_fields (names c.args.values.now) c.args.sets.now c.args.rows.now c.args.case c.in_default.not-Record)
