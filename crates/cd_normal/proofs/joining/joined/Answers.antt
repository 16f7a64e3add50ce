use Rattle.std.proofs.Common.{ap}
use Rattle.cd_rules.specs.Dnf.{joined}
use Rattle.cd_normal.specs.Inner.PlainConjunct.{plain_conjunct, plain_conjuncts}
use Rattle.cd_normal.proofs.ConjunctsJoined.{one_joined}
use Rattle.cd_normal.proofs.joining.joined.Goals as goal

pub loop-conjunct-preserved : goal.loop-conjunct-preserved
loop-conjunct-preserved c =
    let conjuncts = c.args.conjuncts.now in
    let others = plain_conjuncts c.args.others.now in
    one_joined conjuncts c.loop-conjunct.conjunct-index c.conjunct-item.result c.conjunct-item.is c.loop-conjunct-test.true
    (plain_conjunct c.as_slice.result.now) (ap plain_conjunct c.as_slice.ensures.value) others (plain_conjuncts c.loop-conjunct.all.items)
    (plain_conjuncts c.add_joined.new.all.items) (joined (plain_conjuncts conjuncts) others) c.in_ok-add_joined.ensures
    c.loop-conjunct.invariant
