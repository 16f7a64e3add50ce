use Rattle.std.proofs.Common.{◌≡◌, ◌∙◌, ◌++◌, ap, map, length}
use Rattle.cd_graph.specs.PlainFormula.{plain, plain_list}
use Rattle.cd_empty.specs.Seen.{graph_of}
use Rattle.cd_forms.specs.Inner.Chains.{chain_from}
use Rattle.cd_forms.proofs.ChainsHold.{row_sound, row_has, row_only}
use Rattle.cd_forms.proofs.rows.row_before.Goals as goal
use Rattle.cd_forms.proofs.rows.row_before.Goals.{In_ok-of}

-- the graph has so many nodes, and these are the formulas
count_is : (c : In_ok-of) → c.len-first.result ≡ length (graph_of c.args.world.now)
count_is c = c.len-first.ensures.count ∙ ap length c.graph.ensures.graph

are_pairs : (c : In_ok-of) → plain_list c.in_ok-of.field-0
    ≡ chain_from c.len-first.result c.args.heads.now c.args.end
are_pairs c = c.in_ok-of.ensures ∙ c.in_ok-add_pairs.ensures
    ∙ ap (λ all. map plain all ++ chain_from c.len-first.result c.args.heads.now c.args.end)
    c.new-formulas.ensures.items

pub extend-requires : goal.extend-requires
extend-requires c = let at = (goal.at.extend-requires c).In_ok-of in
    row_sound (graph_of c.args.world.now) c.graph.ensures.sound c.args.heads.now c.args.end
    c.requires.heads c.requires.end c.len-first.result (count_is at)
    (plain_list c.in_ok-of.field-0) (are_pairs at)

pub returns-clause-has : goal.returns-clause-has
returns-clause-has c = let at = (goal.at.returns-clause-has c).In_ok-of in
    row_has (graph_of c.args.world.now) c.graph.ensures.sound c.args.heads.now c.args.end
    c.requires.heads c.requires.end c.len-first.result (count_is at)
    (plain_list c.in_ok-of.field-0) (are_pairs at) (graph_of c.extend.new.self)
    c.in_ok-extend.ensures.added c.begin.result c.begin.ensures

pub returns-clause-only : goal.returns-clause-only
returns-clause-only c = let at = (goal.at.returns-clause-only c).In_ok-of in
    row_only (graph_of c.args.world.now) c.graph.ensures.sound c.args.heads.now c.args.end
    c.requires.heads c.requires.end c.len-first.result (count_is at)
    (plain_list c.in_ok-of.field-0) (are_pairs at) (graph_of c.extend.new.self)
    c.in_ok-extend.ensures.added c.begin.result c.begin.ensures
