use Rattle.std.proofs.Common.{sym, subst, length}
use Rattle.cd_cells.specs.Table.{table}
use Rattle.cd_matching.specs.PlainKernel.{plain_nodes}
use Rattle.cd_taking.specs.declared.frame.Frame.{Frame}
use Rattle.cd_taking.specs.declared.frame.Frame.TheVariants as frame
use Rattle.cd_taking.specs.declared.frame.Next.TheVariants as next
use Rattle.cd_taking.specs.Inner.Coded.{on_top, IsWithin}
use Rattle.cd_taking.specs.Inner.Machine as plain
use Rattle.cd_taking.specs.Inner.Machine.{Step, at}
use Rattle.cd_taking.specs.Inner.Stepping.{Steps}
use Rattle.cd_taking.proofs.Stepping.{popped, cut, passes_no}
use Rattle.cd_taking.proofs.resume.fall_back.Goals as goal

pub returns-in-Or : goal.returns-in-Or
returns-in-Or c = λ graph maps.
    let things = table c.args.values.now in
    let nodes = plain_nodes c.args.kernel.now.nodes.items in
    let top = frame.Or c.in-Or.value c.in-Or.second c.in-Or.mark in
    let within = subst (λ (one : Frame). IsWithin (length things) (on_top one c.args.taker.now)) c.in-Or.is c.requires in
    subst (λ (one : Frame). Steps graph maps nodes things things (on_top one c.args.taker.now) c.cut.new.self next.No (next.Look c.in-Or.value c.in-Or.second))
    (sym c.in-Or.is)
    (cut graph maps nodes things top c.args.taker.now next.No within c.in-Or.mark c.cut.new.self (next.Look c.in-Or.value c.in-Or.second) c.cut.ensures
    (plain.tries _ _ _ _ _ _) within.frames.0)

pub returns-in_default : goal.returns-in_default
returns-in_default c = λ graph maps.
    let things = table c.args.values.now in
    popped graph maps (plain_nodes c.args.kernel.now.nodes.items) things c.args.frame c.args.taker.now next.No c.requires next.No
    (plain.gives_up _ _ _ _ (passes_no things c.args.frame c.in_default.not-Or c.in_default.not-Second)) tt
