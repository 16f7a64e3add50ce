use Rattle.std.proofs.Common.{sym, ◌∙◌}
use Rattle.cd_needs.specs.RecordType.{record_types}
use Rattle.cd_normal.proofs.FieldNeeds.{one_more_need}
use Rattle.cd_normal.proofs.needs.add_field_need.Goals as goal

-- a type asks for the field, so the question is one of theirs
pub returns : goal.returns
returns c = one_more_need (record_types c.args.types.now) c.args.label.now _ c.in_ok-need.need c.args.needs.now.items
    c.push.new.self.items (sym c.is_first_asked_at.ensures ∙ c.if-not-is_first_asked_at.false) c.in_ok-need.ensures
    c.in_ok-push.ensures.items
