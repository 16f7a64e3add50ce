use Rattle.std.proofs.Common.{◌≡◌, ℕ, add-one, sym, subst, arith}
use Rattle.cd_graph.specs.Nodes.{nodes}
use Rattle.cd_cells.specs.Table.{table, names}
use Rattle.cd_asking.specs.MappedArrows.{maps_at}
use Rattle.cd_asking.specs.Inner.Along.{after_alike, GoesTo, IsAlong}
use Rattle.cd_asking.proofs.GoingAlong.{goes_along, stops_along}
use Rattle.cd_asking.proofs.along.along.Goals as goal

-- the next pair is not like these
pub returns-in-None-clause-goes : goal.returns-in-None-clause-goes
returns-in-None-clause-goes c = stops_along (names c.args.values.now) (nodes c.args.graph.now) (maps_at c.args.maps.now) (table c.args.values.now) c.args.asker.now
    c.args.leads c.args.first c.args.id c.loop-count.asker c.next_alike.new.asker c.next_alike.ensures.grows c.loop-count.id c.loop-count.count
    c.loop-count.invariant.1

-- it is
pub loop-count-preserved : goal.loop-count-preserved
loop-count-preserved c = (
  c.next_alike.ensures.right,
  subst (λ (count : ℕ). IsAlong (names c.args.values.now) (nodes c.args.graph.now) (maps_at c.args.maps.now) (table c.args.values.now) c.args.asker.now
      c.next_alike.new.asker c.args.leads c.args.first c.args.id c.in-Some.second count) (sym (add-one c.loop-count.count))
      (goes_along (names c.args.values.now) (nodes c.args.graph.now) (maps_at c.args.maps.now) (table c.args.values.now) c.args.asker.now c.args.leads c.args.first c.args.id
      c.loop-count.asker c.next_alike.new.asker c.next_alike.ensures.grows c.loop-count.id c.loop-count.count c.loop-count.invariant.1
      c.in-Some.second (rw c.in-Some.is at c.in_ok-second.ensures.within) (rw c.in-Some.is at c.in_ok-second.ensures.goes)),
)

-- so many are enough
pub returns-clause-goes : goal.returns-clause-goes
returns-clause-goes c =
    let test = c.loop-count-test.false in
    let end = c.loop-count.auto.count-end in
    let most : c.loop-count.count ≡ 18446744073709551615 = omega (arith, test, end) in
    subst (λ (count : ℕ). GoesTo (names c.args.values.now) (nodes c.args.graph.now) (maps_at c.args.maps.now) (table c.args.values.now) c.args.asker.now c.loop-count.asker
    (after_alike c.args.id c.args.leads.second c.args.first 1) (after_alike c.loop-count.id c.args.leads.second c.args.first count)) most c.loop-count.invariant.1.goes
