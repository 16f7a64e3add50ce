use Rattle.std.proofs.Common.{length, ap, ◌∙◌}
use Rattle.cd_graph.specs.Nodes.{nodes}
use Rattle.cd_asking.specs.Inner.Asked.{AreBelow, plain_shape}
use Rattle.cd_asking.specs.Inner.Shapes.{members}
use Rattle.cd_asking.proofs.Kept.{adds_each, members_below}
use Rattle.cd_asking.proofs.finding.find_members.Goals as goal

pub returns-clause-sound : goal.returns-clause-sound
returns-clause-sound c =
    let bound = length (nodes c.args.graph.now) in
    adds_each (AreBelow bound) c.as_slice.result.now c.args.sets.now c.number.new.self c.requires.sound
    (members_below bound (nodes c.args.graph.now) _ c.args.sets.now c.args.set c.as_slice.result.now c.requires.sound
    (c.as_slice.ensures.value ∙ c.in_ok-ids.ensures ∙ ap (members (nodes c.args.graph.now) (plain_shape c.args.shape.now)) c.get-2.ensures)) c.number.ensures.adds
