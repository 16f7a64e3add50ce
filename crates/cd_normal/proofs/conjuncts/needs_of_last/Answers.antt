use Rattle.std.proofs.Common.{◌-◌, map, reverse, take, length}
use Rattle.cd_normal.specs.Inner.PlainPartial.{plain_partial}
use Rattle.cd_normal.proofs.Stacks.{top_is}
use Rattle.cd_normal.proofs.conjuncts.needs_of_last.Goals as goal

-- the last conjunct is the first for callers
pub returns-in_ok-needs_of-in-Some : goal.returns-in_ok-needs_of-in-Some
returns-in_ok-needs_of-in-Some c =
    let conjuncts = c.args.conjuncts.now in
    let last = c.in-Some.ensures.item in (
      plain_partial c.in-Some.top.now,
      map plain_partial (reverse (take (length conjuncts - 1) conjuncts)),
      top_is plain_partial conjuncts c.in-Some.top.now last.3.0 last.1,
      rw c.as_slice.ensures.value at c.in_ok-needs_of-in-Some.ensures,
    )
