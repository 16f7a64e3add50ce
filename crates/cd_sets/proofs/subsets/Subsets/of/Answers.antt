use Rattle.std.proofs.Common.{◌≡◌, false, replicate}
use Rattle.cd_sets.proofs.Counting.{from_zero}
use Rattle.cd_sets.proofs.subsets.Subsets.of.Goals as goal

pub returns : goal.returns
returns c =
    let zero : c.in_ok-digits.digits.items ≡ replicate c.len.result false = c.in_ok-digits.ensures.items_if_clones_equal (λ digit is. is) in
    rw (zero, c.len.ensures) (from_zero c.args.set)
