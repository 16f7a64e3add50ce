use Rattle.std.proofs.Common.{◌≡◌, pos, ◌+ℤ◌, ◌≤ℤ◌, ◌<ℤ◌, [], refl, sym, ◌∙◌, inl, inr, None, arith}
use Rattle.std.proofs.lemmas.Int.{ints, by_lt_z}
use Rattle.cd_sets.specs.Interval.{holds}
use Rattle.cd_syntax.specs.Integer.{GREATEST}
use Rattle.cd_sets.specs.Inner.Combine.{swept, come_to}
use Rattle.cd_sets.proofs.Sweep.{keeps_neither, ahead_at_start, ahead_earlier, swept_later, holds_below_least, holds_above_greatest, swept_on, count_falls}
use Rattle.cd_sets.proofs.combine.combine.Goals as goal

pub loop-next-init : goal.loop-next-init
loop-next-init c =
    let nothing : c.new-kept.result.items ≡ [] = c.new-kept.ensures.items in (
      rw nothing (omega (arith, ints)),
      ahead_at_start c.args.left.now c.requires.left,
      ahead_at_start c.args.right.now c.requires.right,
      (λ z h. refl),
      (λ z h. refl),
      λ z h. rw (nothing, holds_below_least c.args.left.now z c.requires.left h, holds_below_least c.args.right.now z c.requires.right h) (sym (keeps_neither c.args.operation)),
    )

pub past-right-requires : goal.past-right-requires
past-right-requires c =
    ahead_earlier c.run_at-in-Some.result.last c.both-run.result.last c.loop-next.right.now c.run_at-in-Some.ensures.within c.both-run.ensures.second

-- the run doesn't end before it begins
runs : (c : goal.After-after-next) → c.in-Some.from ≤ℤ c.both-run.result.last
runs c =
    let left : c.in-Some.from ≤ℤ c.run_at.result.last = omega (arith, ints, c.run_at.ensures.ahead) in
    let right : c.in-Some.from ≤ℤ c.run_at-in-Some.result.last = omega (arith, ints, c.run_at-in-Some.ensures.ahead) in
    elim c.both-run.ensures.one [ inl is ↦ rw is left | inr is ↦ rw is right ]

pub loop-next-smaller : goal.loop-next-smaller
loop-next-smaller c =
    let le = runs c in
    let next : come_to c.after-next.result ≡ c.both-run.result.last +ℤ pos 1 = c.after-next.ensures in
    let fits : c.in-Some.from ≤ℤ GREATEST = omega (arith, ints) in
    rw (c.in-Some.is, next) (count_falls c.in-Some.from (c.both-run.result.last +ℤ pos 1) (omega (arith, ints)) fits)

pub loop-next-preserved : goal.loop-next-preserved
loop-next-preserved c =
    let next : come_to c.after-next.result ≡ c.both-run.result.last +ℤ pos 1 = c.after-next.ensures in
    let kept = rw c.in-Some.is at c.loop-next.invariant in
    let le = runs c in
    rw next (
      swept_later c.turn.new.kept.items c.in_ok-since.since _ (c.both-run.result.last +ℤ pos 1) c.in_ok-since.ensures.order (omega (arith, ints)),
      c.past-left.ensures.ahead,
      c.past-right.ensures.ahead,
      (λ z h. c.past-left.ensures.same z (omega (arith, ints)) ∙ kept.3 z (omega (arith, ints))),
      (λ z h. c.past-right.ensures.same z (omega (arith, ints)) ∙ kept.4 z (omega (arith, ints))),
      λ z h.
          swept_on c.args.operation (holds c.args.left.now) (holds c.args.right.now) (holds c.loop-next.left.now) (holds c.loop-next.right.now) (swept c.loop-next.kept.items c.loop-next.since) (swept c.turn.new.kept.items c.in_ok-since.since)
          c.run_at.result.held c.run_at-in-Some.result.held c.both-run.result.held c.in-Some.from c.both-run.result.last c.run_at.result.last c.run_at-in-Some.result.last
          kept.5
          (λ y below. c.in_ok-since.ensures.before y (omega (arith, ints)))
          (λ y above. c.in_ok-since.ensures.after y (omega (arith, ints)))
          c.both-run.ensures.held
          kept.3 kept.4
          (λ y above within. c.run_at.ensures.same y (omega (arith, ints)) within)
          (λ y above within. c.run_at-in-Some.ensures.same y (omega (arith, ints)) within)
          c.both-run.ensures.first c.both-run.ensures.second z (omega (arith, ints)),
    )

pub returns-clause-exact : goal.returns-clause-exact
returns-clause-exact c =
    let is : c.loop-next.next ≡ None = c.in_default.is in
    let kept = rw is at c.loop-next.invariant in
    λ z.
    by_lt_z z (GREATEST +ℤ pos 1)
    (λ below. c.in_ok-close.ensures.same z (omega (arith, ints)) ∙ kept.5 z below)
    (λ above.
    let past : GREATEST <ℤ z = omega (arith, ints) in
    rw (holds_above_greatest c.close.new.kept.items z c.in_ok-close.ensures.order past, holds_above_greatest c.args.left.now z c.requires.left past, holds_above_greatest c.args.right.now z c.requires.right past) (sym (keeps_neither c.args.operation)))
