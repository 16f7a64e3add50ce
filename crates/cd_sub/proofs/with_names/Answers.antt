use Rattle.std.proofs.Common.{◌<◌, length, sym, subst}
use Rattle.std.specs.Prelude.{codes}
use Rattle.cd_resolve.specs.Named.{AreNamed, plain_names, declared_by}
use Rattle.cd_resolve.proofs.Kept.{names_kept}
use Rattle.cd_empty.specs.Seen.{graph_of}
use Rattle.cd_replies.specs.Naming.{StandsForText}
use Rattle.cd_replies.specs.Texts.{RefusesType}
use Rattle.cd_replies.proofs.Messages.{refusal_replies}
use Rattle.cd_sub.specs.SubAnswer.{SubAnswer, first_refused, second_refused}
use Rattle.cd_sub.proofs.Answering.{compared}
use Rattle.cd_sub.proofs.Comparing.{reads_kept}
use Rattle.cd_sub.proofs.with_names.Goals as goal

-- the names stand for their types in the longer graph
pub node-requires-2-clause-named : goal.node-requires-2-clause-named
node-requires-2-clause-named c =
    let grows = c.in-Ok.ensures.grows in
    subst (λ graph. AreNamed graph (plain_names c.args.names.now)) (sym grows.1)
    (names_kept (graph_of c.args.world.now) grows.0 (plain_names c.args.names.now) c.requires.graph c.requires.named)

-- and so does the node of the first type for it
pub compare_nodes-requires-clause-first : goal.compare_nodes-requires-clause-first
compare_nodes-requires-clause-first c =
    let first = c.in-Ok.ensures.read in
    let grows = c.in-Ok-node.ensures.grows in
    let sound = c.in-Ok.ensures.graph in
    subst (λ graph. c.in-Ok.left.0 < length graph) (sym grows.1)
    (reads_kept (graph_of c.node.new.world) grows.0 c.in-Ok.left (declared_by c.args.names.now) c.args.first.now sound first).stands.is_node

pub compare_nodes-requires-clause-second : goal.compare_nodes-requires-clause-second
compare_nodes-requires-clause-second c =
    let read = c.in-Ok-node.ensures.read in
    read.stands.is_node

pub returns-in-Err : goal.returns-in-Err
returns-in-Err c =
    let declared = declared_by c.args.names.now in
    refusal_replies c.refused.result (codes "T1") c.args.first.now c.in-Err.error (RefusesType declared c.args.first.now)
    (SubAnswer declared c.args.first.now c.args.second.now) c.refused.ensures c.in-Err.ensures.refused first_refused

pub returns-in-Err-node : goal.returns-in-Err-node
returns-in-Err-node c =
    let declared = declared_by c.args.names.now in
    let first = c.in-Ok.ensures.read in
    refusal_replies c.refused-in-Err-node.result (codes "T2") c.args.second.now c.in-Err-node.error (RefusesType declared c.args.second.now)
    (SubAnswer declared c.args.first.now c.args.second.now) c.refused-in-Err-node.ensures c.in-Err-node.ensures.refused
    (second_refused first.type first.reads)

pub returns : goal.returns
returns c =
    let declared = declared_by c.args.names.now in
    let first = c.in-Ok.ensures.read in
    let second = c.in-Ok-node.ensures.read in
    let grows = c.in-Ok-node.ensures.grows in
    let sound = c.in-Ok.ensures.graph in
    let kept = reads_kept (graph_of c.node.new.world) grows.0 c.in-Ok.left declared c.args.first.now sound first in
    let stands = subst (λ graph. StandsForText graph c.in-Ok.left declared c.args.first.now) (sym grows.1) kept in
    compared (graph_of c.node-2.new.world) declared c.args.first.now c.args.second.now c.in-Ok.left c.in-Ok-node.right stands second
    c.compare_nodes.result c.compare_nodes.ensures
