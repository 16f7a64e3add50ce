use Rattle.std.proofs.Common.{sym, subst, length}
use Rattle.cd_cells.specs.Table.{table}
use Rattle.cd_matching.specs.PlainKernel.{plain_nodes}
use Rattle.cd_taking.specs.declared.frame.Frame.{Frame}
use Rattle.cd_taking.specs.declared.frame.Frame.TheVariants as frame
use Rattle.cd_taking.specs.declared.frame.Next.TheVariants as next
use Rattle.cd_taking.specs.Inner.Coded.{on_top, IsWithin}
use Rattle.cd_taking.specs.Inner.Machine as plain
use Rattle.cd_taking.specs.Inner.Machine.{Step, at}
use Rattle.cd_taking.specs.Inner.Stepping.{Steps}
use Rattle.cd_taking.proofs.Stepping.{popped}
use Rattle.cd_taking.proofs.resume.go_on.Goals as goal

pub returns-in-Or-clause-step : goal.returns-in-Or-clause-step
returns-in-Or-clause-step c = λ graph maps.
    let things = table c.args.values.now in
    let nodes = plain_nodes c.args.kernel.now.nodes.items in
    let top = frame.Or c.in-Or.field-0 c.in-Or.field-1 c.in-Or.field-2 in
    let within = subst (λ (one : Frame). IsWithin (length things) (on_top one c.args.taker.now)) c.in-Or.is c.requires.within in
    subst (λ (one : Frame). Steps graph maps nodes things things (on_top one c.args.taker.now) c.args.taker.now next.Yes next.Yes) (sym c.in-Or.is)
    (popped graph maps nodes things top c.args.taker.now next.Yes within next.Yes (plain.chosen _ _ _ _ _ _) tt)

pub returns-in-And-clause-step : goal.returns-in-And-clause-step
returns-in-And-clause-step c = λ graph maps.
    let things = table c.args.values.now in
    let nodes = plain_nodes c.args.kernel.now.nodes.items in
    let top = frame.And c.in-And.value c.in-And.second in
    let within = subst (λ (one : Frame). IsWithin (length things) (on_top one c.args.taker.now)) c.in-And.is c.requires.within in
    subst (λ (one : Frame). Steps graph maps nodes things things (on_top one c.args.taker.now) c.args.taker.now next.Yes (next.Look c.in-And.value c.in-And.second))
    (sym c.in-And.is)
    (popped graph maps nodes things top c.args.taker.now next.Yes within (next.Look c.in-And.value c.in-And.second) (plain.goes_on _ _ _ _ _) within.frames.0)

pub returns-in-Field-clause-step : goal.returns-in-Field-clause-step
returns-in-Field-clause-step c = λ graph maps.
    let things = table c.args.values.now in
    let nodes = plain_nodes c.args.kernel.now.nodes.items in
    let top = frame.Field c.in-Field.value c.in-Field.node c.in-Field.from in
    let then = next.Fields c.in-Field.value c.in-Field.node c.in-Field.from in
    let within = subst (λ (one : Frame). IsWithin (length things) (on_top one c.args.taker.now)) c.in-Field.is c.requires.within in
    subst (λ (one : Frame). Steps graph maps nodes things things (on_top one c.args.taker.now) c.args.taker.now next.Yes then)
    (sym c.in-Field.is)
    (popped graph maps nodes things top c.args.taker.now next.Yes within then (plain.next _ _ _ _ _ _) within.frames.0)
