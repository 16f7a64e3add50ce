use Rattle.std.proofs.Common.{◌≡◌, ◌∙◌, ap, map, length}
use Rattle.cd_graph.specs.PlainFormula.{plain, plain_list}
use Rattle.cd_empty.specs.Seen.{graph_of}
use Rattle.cd_forms.proofs.TextsHold.{text_batch_sound, text_node_has, text_node_only}
use Rattle.cd_forms.proofs.texts.text_before.Goals as goal
use Rattle.cd_forms.proofs.texts.text_before.Goals.{In_ok-of}

-- the graph has so many nodes
count_is : (c : In_ok-of) → c.len-first.result ≡ length (graph_of c.args.world.now)
count_is c = c.len-first.ensures.count ∙ ap length c.graph.ensures.graph

pub extend-requires : goal.extend-requires
extend-requires c = text_batch_sound (graph_of c.args.world.now) c.graph.ensures.sound
    c.args.text.now c.args.end c.requires c.len-first.result
    (count_is (goal.at.extend-requires c).In_ok-of) (map plain c.in_ok-formulas.formulas.items)
    c.in_ok-formulas.id c.in_ok-formulas.ensures (plain_list c.in_ok-of.field-0) c.in_ok-of.ensures

pub returns-clause-has : goal.returns-clause-has
returns-clause-has c = text_node_has (graph_of c.args.world.now) c.graph.ensures.sound
    c.args.text.now c.args.end c.requires c.len-first.result
    (count_is (goal.at.returns-clause-has c).In_ok-of) (map plain c.in_ok-formulas.formulas.items)
    c.in_ok-formulas.id c.in_ok-formulas.ensures (plain_list c.in_ok-of.field-0) c.in_ok-of.ensures
    (graph_of c.extend.new.self) c.in_ok-extend.ensures.added

pub returns-clause-only : goal.returns-clause-only
returns-clause-only c = text_node_only (graph_of c.args.world.now) c.graph.ensures.sound
    c.args.text.now c.args.end c.requires c.len-first.result
    (count_is (goal.at.returns-clause-only c).In_ok-of) (map plain c.in_ok-formulas.formulas.items)
    c.in_ok-formulas.id c.in_ok-formulas.ensures (plain_list c.in_ok-of.field-0) c.in_ok-of.ensures
    (graph_of c.extend.new.self) c.in_ok-extend.ensures.added
