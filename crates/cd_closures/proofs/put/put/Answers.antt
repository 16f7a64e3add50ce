use Rattle.std.proofs.Common.{◌∙◌, ap, map}
use Rattle.cd_graph.specs.PlainFormula.{plain, plain_list}
use Rattle.cd_empty.specs.Seen.{graph_of}
use Rattle.cd_closures.proofs.NodesPut.{one_is_sound, one_is_if}
use Rattle.cd_closures.proofs.put.put.Goals as goal

pub extend-requires : goal.extend-requires
extend-requires c = one_is_sound (graph_of c.args.world.now) (plain c.args.formula) (plain_list c.in_ok-of.field-0)
    (c.in_ok-of.ensures ∙ ap (map plain) c.in_ok-formulas.ensures.items) c.requires

pub returns-clause-formula : goal.returns-clause-formula
returns-clause-formula c = one_is_if (graph_of c.args.world.now) (plain c.args.formula) (plain_list c.in_ok-of.field-0)
    (c.in_ok-of.ensures ∙ ap (map plain) c.in_ok-formulas.ensures.items) (graph_of c.extend.new.self) c.extend.result
    c.extend.ensures.first c.extend.ensures.added
