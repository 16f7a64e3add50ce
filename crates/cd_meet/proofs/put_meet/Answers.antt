use Rattle.std.proofs.Common.{map, ap, ◌∙◌}
use Rattle.cd_graph.specs.Nodes.{nodes}
use Rattle.cd_graph.specs.PlainFormula.{plain, plain_list}
use Rattle.cd_meet.proofs.MeetsPut.{one_is_sound}
use Rattle.cd_meet.proofs.put_meet.Goals as goal

pub extend-requires : goal.extend-requires
extend-requires c = one_is_sound (nodes c.args.graph.now) c.args.arrows.now (plain c.in_ok-formula.formula) (plain_list c.in_ok-of.field-0)
    (c.in_ok-of.ensures ∙ ap (map plain) c.in_ok-formulas.ensures.items) c.in_ok-formula.ensures
    c.knows.ensures.built_in.0 c.knows.ensures.built_in.1 c.requires
