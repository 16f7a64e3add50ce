use Rattle.std.proofs.Common.{◌+◌, ◌≤◌, sym, subst, arith}
use Rattle.cd_running.specs.Queries.{Answered, none}
use Rattle.cd_running.specs.Inner.Asking.{AnswersQuery}
use Rattle.cd_running.proofs.QueriesAnswered.{with_yes, with_no}
use Rattle.cd_running.proofs.workload.queries.count.Goals as goal
use Rattle.cd_running.proofs.workload.queries.count.Goals.{then-branch, else-branch}

pub loop-number-init : goal.loop-number-init
loop-number-init c = (c.in_ok-wanted.ensures.stands, none, omega arith)

-- one more is answered, with yes or with no
pub loop-number-preserved : goal.loop-number-preserved
loop-number-preserved c =
    let n = c.loop-number.number in
    let before = c.loop-number.invariant in
    let small : n ≤ 100000 = omega (arith, c.loop-number-test.true, c.requires.most) in
    let stands = c.in_ok-is_within.ensures.wanted in
    let answer = c.in_ok-is_within.ensures.answer in
    elim c.if-branch.branch [
      | then-branch w ↦ (
        stands,
        subst (Answered (n + 1)) (sym w.yes-is)
            (with_yes n c.loop-number.yes small before.1 (subst (AnswersQuery n) w.if-branch.true answer)),
        omega (arith, w.yes-is, before.2),
      )
      | else-branch w ↦ (
        stands,
        subst (Answered (n + 1)) (sym w.yes-is)
            (with_no n c.loop-number.yes small before.1 (subst (AnswersQuery n) w.if-branch.false answer)),
        omega (arith, w.yes-is, before.2),
      )
    ]
