use Rattle.std.proofs.Common.{◌≡◌, ◌∙◌, true, arith}
use Rattle.std.proofs.lemmas.List.{with_items_is}
use Rattle.cd_sets.specs.Counting.{subsets_from, digits_left, chosen_of, next_digits}
use Rattle.cd_sets.proofs.Counting.{counted}
use Rattle.cd_sets.proofs.subsets.Subsets.next.Goals as goal

pub returns-clause-given : goal.returns-clause-given
returns-clause-given c =
    let more : c.self.inside.more ≡ true = grind arith in
    let all : subsets_from c.self.inside.set c.self.inside.digits.items ≡ c.args.self.now = rw more at c.self.view_is in
    let chosen : c.in_ok-set.set ≡ chosen_of c.self.inside.set c.self.inside.digits.items = cc (c.in_ok-set.ensures, c.as_slice.ensures.value) in
    let next : next_digits c.self.inside.digits.items ≡ digits_left c.count_on-self-inside.result c.count_on-self-inside.new.digits =
    cc (c.count_on-self-inside.ensures, c.as_mut_slice.ensures.value) in
    let first = counted c.self.inside.set c.self.inside.digits.items c.self.invariant in
    rw (with_items_is c.self.inside.digits c.count_on-self-inside.new.digits (c.count_on-self-inside.auto.digits ∙ c.as_mut_slice.ensures.len), ← next, chosen, ← all) first
