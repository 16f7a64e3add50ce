use Rattle.std.proofs.Common.{subst, map, ◌∷◌, ℕ, ap, length}
use Rattle.cd_cells.specs.Cells.{thing_at}
use Rattle.cd_cells.specs.Table.{table}
use Rattle.cd_matching.specs.PlainKernel.{plain_nodes}
use Rattle.cd_taking.specs.declared.frame.Frame.TheVariants.{Or}
use Rattle.cd_taking.specs.declared.frame.Next.TheVariants.{Look}
use Rattle.cd_taking.specs.Inner.Coded.{state, plain_frame, plain_capture, plain_failure, plain_next}
use Rattle.cd_taking.specs.Inner.Machine as plain
use Rattle.cd_taking.specs.Inner.Machine.{Step, at, chooses}
use Rattle.cd_taking.specs.Inner.Stepping.{Asked}
use Rattle.cd_taking.proofs.Stepping.{pushed, counted}
use Rattle.cd_taking.proofs.look.choose.Goals as goal

pub returns : goal.returns
returns c = λ graph maps.
    let things = table c.args.values.now in
    let nodes = plain_nodes c.args.kernel.now.nodes.items in
    let old = c.args.taker.now in
    let was = Look c.args.value c.args.node in
    let then = Look c.args.value c.args.parts.0 in
    pushed graph maps nodes things (Or c.args.value c.args.parts.1 (length c.as_slice-mark.result.now)) old c.push.new.self was then c.in_ok-push.ensures
    (subst (λ (mark : ℕ). Step (Asked graph maps) nodes (state things old was)
    (at (plain.Or (thing_at things c.args.value.0) c.args.parts.1 mark ∷ map (plain_frame things) old.frames) (map (plain_capture things) old.captures.items)
    (map (plain_failure things) old.failures) (plain_next things then)))
    (counted things old.captures.items (length c.as_slice-mark.result.now) (ap length c.as_slice-mark.ensures.value))
    (chooses _ _ _ _ _ _ _ c.requires.is)) c.requires.within c.requires.value c.requires.value
