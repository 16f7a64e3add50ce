use Rattle.std.proofs.Common.{map}
use Rattle.cd_graph.specs.Nodes.{nodes}
use Rattle.cd_graph.specs.PlainFormula.{plain, plain_list}
use Rattle.cd_matching.specs.PlainKernel.{plain_kernel}
use Rattle.cd_empty.specs.Seen.{graph_of}
use Rattle.cd_filter.proofs.LongerGraphs.{are_formulas, accepts_from, holds_elements, holds_values}
use Rattle.cd_filter.proofs.accept.accepted.Goals as goal

pub extend-requires : goal.extend-requires
extend-requires c = let known = c.graph-graph.ensures in
    are_formulas (graph_of c.args.world.now) (plain_kernel c.args.kernel.now) c.requires
    known.built_in.0 known.built_in.1 (nodes c.graph-graph.result.now) known.graph
    c.len-first.result c.len-first.ensures.count (map plain c.in_ok-batch.batch.items)
    (plain_list c.in_ok-of.field-0) c.in_ok-batch.ensures c.in_ok-of.ensures known.sound

pub returns-clause-nodes : goal.returns-clause-nodes
returns-clause-nodes c = let known = c.graph-graph.ensures in
    accepts_from (graph_of c.args.world.now) (plain_kernel c.args.kernel.now) c.requires
    known.built_in.0 known.built_in.1 (nodes c.graph-graph.result.now) known.graph
    c.len-first.result c.len-first.ensures.count (map plain c.in_ok-batch.batch.items)
    (plain_list c.in_ok-of.field-0) c.in_ok-batch.ensures c.in_ok-of.ensures
    (graph_of c.extend.new.self) c.in_ok-extend.ensures.added

pub returns-clause-elements : goal.returns-clause-elements
returns-clause-elements c = let known = c.graph-graph.ensures in
    holds_elements (graph_of c.args.world.now) (plain_kernel c.args.kernel.now) c.requires
    known.built_in.0 known.built_in.1 (nodes c.graph-graph.result.now) known.graph
    c.len-first.result c.len-first.ensures.count (map plain c.in_ok-batch.batch.items)
    (plain_list c.in_ok-of.field-0) c.in_ok-batch.ensures c.in_ok-of.ensures
    (graph_of c.extend.new.self) c.in_ok-extend.ensures.added
    c.in_ok-root.root c.in_ok-root.ensures

pub returns-clause-values : goal.returns-clause-values
returns-clause-values c = let known = c.graph-graph.ensures in
    holds_values (graph_of c.args.world.now) (plain_kernel c.args.kernel.now) c.requires
    known.built_in.0 known.built_in.1 (nodes c.graph-graph.result.now) known.graph
    c.len-first.result c.len-first.ensures.count (map plain c.in_ok-batch.batch.items)
    (plain_list c.in_ok-of.field-0) c.in_ok-batch.ensures c.in_ok-of.ensures
    (graph_of c.extend.new.self) c.in_ok-extend.ensures.added
    c.in_ok-root.root c.in_ok-root.ensures
