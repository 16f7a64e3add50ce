use Rattle.std.proofs.Common.{◌∙◌, sym, subst, ap, ℕ, ◌∷◌, map, length, inl, inr}
use Rattle.cd_cells.specs.Cells.{thing_at}
use Rattle.cd_cells.specs.Table.{table}
use Rattle.cd_matching.specs.PlainKernel.{plain_nodes}
use Rattle.cd_taking.specs.declared.frame.Frame.TheVariants as frame
use Rattle.cd_taking.specs.declared.frame.Next.TheVariants as next
use Rattle.cd_taking.specs.Inner.Coded.{state, plain_frame, plain_capture, plain_failure, plain_next, on_top, both_at}
use Rattle.cd_taking.specs.Inner.Machine as plain
use Rattle.cd_taking.specs.Inner.Machine.{Step, at}
use Rattle.cd_taking.specs.Inner.Stepping.{Asked}
use Rattle.cd_taking.proofs.Stepping.{popped, replaced, counted}
use Rattle.cd_taking.proofs.resume.open_second.Goals as goal

pub returns-in_default : goal.returns-in_default
returns-in_default c = λ graph maps.
    popped graph maps (plain_nodes c.args.kernel.now.nodes.items) (table c.args.values.now) (frame.First c.args.pair c.args.node) c.args.taker.now next.Yes c.requires next.No
    (plain.no_second _ _ _ _ _ (inl (sym c.pair_node.ensures ∙ c.in_default.is))) tt

pub returns-in-None : goal.returns-in-None
returns-in-None c = λ graph maps.
    popped graph maps (plain_nodes c.args.kernel.now.nodes.items) (table c.args.values.now) (frame.First c.args.pair c.args.node) c.args.taker.now next.Yes c.requires next.No
    (plain.no_second _ _ _ _ _ (inr (sym c.in-None.ensures.is))) tt

pub returns-in_ok-push-in-Some-pair_of : goal.returns-in_ok-push-in-Some-pair_of
returns-in_ok-push-in-Some-pair_of c = λ graph maps.
    let things = table c.args.values.now in
    let nodes = plain_nodes c.args.kernel.now.nodes.items in
    let old = c.args.taker.now in
    let then = next.Look c.in-Some-pair_of.second c.in-Some.parts.second in
    let top = frame.First c.args.pair c.args.node in
    replaced graph maps nodes things top old next.Yes c.requires (frame.Second c.args.pair c.args.node (length c.as_slice-mark.result.now)) c.push.new.self then
    c.in_ok-push-in-Some-pair_of.ensures
    (subst (λ (mark : ℕ). Step (Asked graph maps) nodes (state things (on_top top old) next.Yes)
    (at (plain.Second (thing_at things c.args.pair.0) c.args.node mark ∷ map (plain_frame things) old.frames) (map (plain_capture things) old.captures.items)
    (map (plain_failure things) old.failures) (plain_next things then)))
    (counted things old.captures.items (length c.as_slice-mark.result.now) (ap length c.as_slice-mark.ensures.value))
    (plain.opens_second _ _ _ _ _ c.in-Some.parts (both_at things (c.in-Some-pair_of.field-0-0, c.in-Some-pair_of.second))
    (sym c.pair_node.ensures ∙ c.in-Some.is) (sym c.in-Some-pair_of.ensures.is)))
    c.requires.frames.0 c.in-Some-pair_of.ensures.second
