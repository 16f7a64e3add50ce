use Rattle.std.proofs.Common.{◌≡◌, ◌++◌, take, map, arith}
use Rattle.std.proofs.lemmas.Grind.{common_steps}
use Rattle.cd_sets.specs.declared.node_id.NodeId.{NodeId}
use Rattle.cd_needs.proofs.Asked.{is_set_of}
use Rattle.cd_parts.proofs.sets_of.with_tags.Goals as goal

pub returns : goal.returns
returns c =
    let all : take c.loop-parts.parts-index c.args.triples.now ≡ c.args.triples.now = grind (arith, common_steps) in
    is_set_of c.loop-parts.all (c.args.set ++ map (λ (parts : NodeId × NodeId × NodeId). parts.0) c.args.triples.now)
    c.knows.ensures (rw all at c.loop-parts.invariant)
