use Rattle.std.proofs.Common.{◌≡◌, take, arith}
use Rattle.std.proofs.lemmas.Grind.{common_steps}
use Rattle.cd_needs.proofs.Asked.{is_set_of}
use Rattle.cd_needs.proofs.asking.set_of.Goals as goal

-- the set rises, and has just these
pub returns : goal.returns
returns c =
    let all : take c.loop-id.id-index c.args.ids.now ≡ c.args.ids.now = grind (arith, common_steps) in
    is_set_of c.loop-id.set c.args.ids.now c.knows.ensures (rw all at c.loop-id.invariant)
