use Rattle.cd_sets.proofs.Numbering.{rising_numbers, kept_of_characters, kept_characters}
use Rattle.cd_sets.proofs.char_set.CharSet.combined.Goals as goal

pub combine-requires-clause-left : goal.combine-requires-clause-left
combine-requires-clause-left c = rw c.as_slice.ensures.value (rising_numbers c.self.inside.numbers.items c.self.invariant)

pub combine-requires-clause-right : goal.combine-requires-clause-right
combine-requires-clause-right c = rw c.as_slice-2.ensures.value (rising_numbers c.other.inside.numbers.items c.other.invariant)

pub invariant_of-result : goal.invariant_of-result
invariant_of-result c =
    kept_of_characters c.args.operation c.in_ok-numbers.numbers.items c.self.inside.numbers.items c.other.inside.numbers.items
    c.in_ok-numbers.ensures.rising
    (rw (← c.as_slice.ensures.value, ← c.as_slice-2.ensures.value) c.in_ok-numbers.ensures.exact)
    c.self.invariant c.other.invariant

pub returns : goal.returns
returns c x scalar =
    let exact = rw (c.as_slice.ensures.value, c.as_slice-2.ensures.value) at c.in_ok-numbers.ensures.exact in
    rw (← c.self.view_is, ← c.other.view_is)
    (kept_characters c.args.operation c.in_ok-numbers.numbers.items c.self.inside.numbers.items c.other.inside.numbers.items x
    (kept_of_characters c.args.operation c.in_ok-numbers.numbers.items c.self.inside.numbers.items c.other.inside.numbers.items
    c.in_ok-numbers.ensures.rising exact c.self.invariant c.other.invariant)
    exact c.self.invariant c.other.invariant scalar)
