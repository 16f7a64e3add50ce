use Rattle.std.proofs.Common.{◌∙◌, ap, sym, Some}
use Rattle.cd_tasks.specs.Inner.AfterWords.{next_later}
use Rattle.cd_tasks.proofs.NextWords.{with_next, without_last}
use Rattle.cd_tasks.proofs.odometer.Odometer.later.Goals as goal

-- the side after the last one that is left is next
pub returns-then-side-self : goal.returns-then-side-self
returns-then-side-self c =
    let last = c.args.self.now.last in
    ap Some c.in_ok-push.ensures.items ∙ sym (with_next last c.pop.new.self.items c.in-Some.side c.if-side-self.true)
    ∙ sym (ap (next_later last) c.in-Some.ensures.items) ∙ c.loop-side.invariant

-- no side is after the one that was taken off
pub loop-side-preserved : goal.loop-side-preserved
loop-side-preserved c =
    let last = c.args.self.now.last in
    sym (without_last last c.pop.new.self.items c.in-Some.side c.if-side-self.false)
    ∙ sym (ap (next_later last) c.in-Some.ensures.items) ∙ c.loop-side.invariant
