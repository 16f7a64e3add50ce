use Rattle.std.proofs.Common.{◌≡◌, ◌∙◌, ◌++◌, ap, sym, is_some, Bool, ◌||◌}
use Rattle.cd_names.specs.ProgramFaults.{is_seen}
use Rattle.cd_names.proofs.LocalNames.{seen_among}
use Rattle.cd_names.proofs.expr.is_seen_here.Goals as goal
use Rattle.cd_names.proofs.expr.is_seen_here.Goals.{After-is_some}

-- what is seen, where it is known whether a function has the name
either : (c : After-is_some) (answer : Bool) → c.is_some.result ≡ answer
    → is_seen (c.args.locals.now ++ c.args.base.now.functions.now) c.args.name.now
    ≡ (answer || is_seen c.args.locals.now c.args.name.now)
either c answer is =
    seen_among c.args.locals.now c.args.base.now.functions.now c.args.name.now c.is_some.result
    (c.is_some.ensures ∙ ap is_some c.find.ensures)
    ∙ ap (λ b. b || is_seen c.args.locals.now c.args.name.now) is

pub returns-then-is_some : goal.returns-then-is_some
returns-then-is_some c = c.if-is_some.true
    ∙ sym (either (goal.at.returns-then-is_some c).After-is_some _ c.if-is_some.true)

pub returns-else-is_some : goal.returns-else-is_some
returns-else-is_some c = c.has.ensures
    ∙ sym (either (goal.at.returns-else-is_some c).After-is_some _ c.if-is_some.false)
