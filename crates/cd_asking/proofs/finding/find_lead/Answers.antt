use Rattle.std.proofs.Common.{length, sym, subst}
use Rattle.cd_graph.specs.Nodes.{nodes}
use Rattle.cd_asking.specs.Inner.Asked.{AreBelow}
use Rattle.cd_asking.proofs.Kept.{adds_each}
use Rattle.cd_asking.proofs.finding.find_lead.Goals as goal

pub returns-clause-sound : goal.returns-clause-sound
returns-clause-sound c =
    let Below = AreBelow (length (nodes c.args.graph.now)) in
    adds_each Below c.ids.result.now c.args.sets.now c.number.new.self c.requires.sound
    (subst Below (sym c.ids.ensures.value) c.in_ok-next.ensures.below) c.number.ensures.adds
