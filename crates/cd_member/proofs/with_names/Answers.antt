use Rattle.std.specs.Prelude.{codes}
use Rattle.cd_model.specs.StandsFor.{StandsFor}
use Rattle.cd_model.specs.Written.{Written}
use Rattle.cd_graph.specs.Nodes.{nodes}
use Rattle.cd_resolve.specs.Named.{declared_by}
use Rattle.cd_replies.specs.Bytes.{Bytes}
use Rattle.cd_replies.specs.Texts.{RefusesType}
use Rattle.cd_member.specs.MemberAnswer.{FileDeclares, DocumentAnswer, MemberAnswer, type_refused, on_document}
use Rattle.cd_replies.proofs.TwoFiles.{refused_at_once, leads_to}
use Rattle.cd_member.proofs.with_names.Goals as goal

-- the node of the type is one of the graph
pub with_type-requires : goal.with_type-requires
with_type-requires g c =
    let reads = c.in-Ok.ensures.read in
    reads.stands.is_node

pub returns-in-Ok : goal.returns-in-Ok
returns-in-Ok g c =
    let declared = declared_by c.args.names.now in
    let reads = c.in-Ok.ensures.read in
    leads_to
    (λ disk reply. (type : Written) → StandsFor (nodes c.node.new.graph) c.in-Ok.id type → DocumentAnswer disk c.args.document.now type reply)
    (λ disk reply. (file : Bytes) → FileDeclares disk file declared → MemberAnswer disk file c.args.document.now c.args.text.now reply)
    _ _ c.args.document.now c.with_type.result
    (λ disk reply answers file declares. on_document declared declares reads.type reads.reads reply (answers reads.type reads.stands))
    c.with_type.ensures

pub returns-in-Err : goal.returns-in-Err
returns-in-Err g c =
    let declared = declared_by c.args.names.now in
    refused_at_once (λ disk reply. (file : Bytes) → FileDeclares disk file declared → MemberAnswer disk file c.args.document.now c.args.text.now reply)
    _ c.args.document.now (codes "T") c.args.text.now c.in-Err.error (RefusesType declared c.args.text.now) c.in-Err.ensures.refused
    c.refused.result c.refused.ensures
    (λ found stands disk file declares. type_refused declared declares found stands)
