use Rattle.std.proofs.Common.{length, sym, subst}
use Rattle.cd_model.specs.AllOf.{AllOf}
use Rattle.cd_empty.specs.Seen.{graph_of}
use Rattle.cd_resolved.specs.Resolved.{asked_graph}
use Rattle.cd_closures.specs.Inner.Asked.{IsBelow}
use Rattle.cd_closures.proofs.MapsMade.{asked_grown, longer_below}
use Rattle.cd_closures.proofs.maps.maps_for.Goals as goal

pub put_all-requires : goal.put_all-requires
put_all-requires c = subst (AllOf (IsBelow (length (graph_of c.args.world.now)))) (sym c.requires.arrows)
    (longer_below (asked_graph c.args.program.now) (graph_of c.args.world.now) c.requires.resolved.asked_sound
    (asked_grown c.args.program.now c.requires.resolved (graph_of c.args.world.now) c.requires.begins))
