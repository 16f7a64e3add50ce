use Rattle.std.proofs.Common.{◌∙◌, sym, map, drop, arith}
use Rattle.cd_model.specs.Canonical.{pieces_of}
use Rattle.cd_elements.specs.Elements.{table}
use Rattle.cd_elements.specs.Inner.Tasks.{part_in}
use Rattle.cd_elements.proofs.Joining.{drop_before}
use Rattle.cd_elements.proofs.Sequences.{edge_with, parts_with}
use Rattle.cd_elements.proofs.sequence.push_sequence.Goals as goal

-- one more part is put
pub loop-index-preserved : goal.loop-index-preserved
loop-index-preserved c =
    let all = table c.args.elements.now in
    let firsts = c.args.firsts.now in
    let index = c.loop-index.index in
    let invariant = c.loop-index.invariant in
    let parts = map (part_in all) (drop index firsts) in
    let step = drop_before firsts index record { 0 = 0 } c.loop-index-test.true invariant.within in
    record {
      within = omega arith;
      edge = rw step (c.in_ok-edge.ensures.edge ∙ sym (edge_with _ (pieces_of parts)));
      text = rw step (parts_with parts _ _ _ _ _ invariant.edge invariant.text c.in_ok-edge.ensures.text);
    }
