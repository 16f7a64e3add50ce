use Rattle.std.proofs.Common.{◌<◌, map, length, arith}
use Rattle.std.proofs.lemmas.List.{length-map}
use Rattle.cd_resolve.specs.Inner.Search.{AllSeen}
use Rattle.cd_resolve.proofs.Sound.{order_of_all}
use Rattle.cd_resolve.proofs.ordering.order.Goals as goal

-- at the end all numbers were begun with
pub returns : goal.returns
returns c =
    let links = map (λ row. row.items) c.args.links.now in
    let last = c.loop-number.invariant in
    let all : AllSeen c.loop-number.search.seen.items (length links) = record {
      are = λ number has.
          let within : number < length c.args.links.now = rw length-map at has in last.all.are number (omega arith);
    } in
    let search = c.loop-number.search in
    rw c.into_order.ensures (order_of_all links search.seen.items search.order.items last.sound all)
