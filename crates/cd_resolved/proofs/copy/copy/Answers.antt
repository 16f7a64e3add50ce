use Rattle.std.proofs.Common.{◌∙◌}
use Rattle.cd_graph.specs.Nodes.{nodes}
use Rattle.cd_graph.specs.PlainFormula.{plain_list}
use Rattle.cd_resolved.proofs.CopiesMade.{copied, are_formulas}
use Rattle.cd_resolved.proofs.copy.copy.Goals as goal

pub extend-requires : goal.extend-requires
extend-requires c = are_formulas (nodes c.args.graph.now) (nodes c.in_ok-copy.copy) (plain_list c.in_ok-formulas.formulas)
    c.knows.ensures.built_in.0 c.len.result c.knows.ensures.built_in.1 c.in_ok-copy.ensures c.len.ensures.count
    c.in_ok-formulas.ensures c.knows.ensures.sound

pub returns : goal.returns
returns c = c.in_ok-extend.ensures.added
    ∙ copied (nodes c.args.graph.now) (nodes c.in_ok-copy.copy) (plain_list c.in_ok-formulas.formulas)
    c.knows.ensures.built_in.0 c.len.result c.knows.ensures.built_in.1 c.in_ok-copy.ensures c.len.ensures.count
    c.in_ok-formulas.ensures
