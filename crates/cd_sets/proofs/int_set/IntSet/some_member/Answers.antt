use Rattle.std.proofs.Common.{rules, arith, sym, SFits}
use Rattle.std.specs.Int.{w128}
use Rattle.std.proofs.lemmas.Int.{ints, to_z-of_z}
use Rattle.cd_sets.specs.Interval.{holds}
use Rattle.cd_sets.proofs.Bounds.{AreHeld, bounds_held}
use Rattle.cd_sets.proofs.int_set.IntSet.some_member.Goals as goal

pub returns-in-Some : goal.returns-in-Some
returns-in-Some c =
    let one = c.in-Some.field-0.now in
    let is = sym (rw (c.in-Some.is, c.deref.ensures.value) at c.last.ensures.value) in
    let held = bounds_held c.self.inside.intervals.items _ one c.self.invariant is in
    let begins = held.begins in
    let some = held.some in
    let ends = held.ends in
    let sized : SFits w128 one.low = omega (arith, ints) in
    simp to_z-of_z (rw (← c.self.view_is) held.low)

pub returns-in-Some-2 : goal.returns-in-Some-2
returns-in-Some-2 c =
    let one = c.in-Some.field-0.now in
    let is = sym (rw (c.in-Some.is, c.deref.ensures.value) at c.last.ensures.value) in
    let held = bounds_held c.self.inside.intervals.items _ one c.self.invariant is in
    let begins = held.begins in
    let some = held.some in
    let ends = held.ends in
    let sized : SFits w128 one.high = omega (arith, ints) in
    simp to_z-of_z (rw (← c.self.view_is) held.high)
