use Rattle.std.proofs.Common.{◌≡◌, ◌∙◌, None, false, length, sym, ap, arith}
use Rattle.std.specs.List.{insert}
use Rattle.cd_sets.specs.IdSet.{holds, place_of}
use Rattle.cd_sets.proofs.Placing.{holds_inserted, rises_placed, new_beyond, inserted_last}
use Rattle.cd_sets.proofs.id_set.IdSet.insert.Goals as goal

pub invariant_of-self : goal.invariant_of-self
invariant_of-self c =
    let ids = c.self.inside.ids.items in
    let last : place_of ids c.args.id ≡ length ids = cc (c.place-place.ensures.place, c.as_slice.ensures, c.if-place-len.true, c.len.ensures.value) in
    let is : c.push.new.self.items ≡ insert ids (place_of ids c.args.id) c.args.id =
    c.in_ok-push.ensures.ok ∙ sym (inserted_last ids c.args.id) ∙ ap (λ place. insert ids place c.args.id) (sym last) in
    rw is (rises_placed None ids c.args.id c.self.invariant tt (new_beyond ids c.args.id last))

pub invariant_of-self-in-Continue-branch-2 : goal.invariant_of-self-in-Continue-branch-2
invariant_of-self-in-Continue-branch-2 c =
    let new : holds c.self.inside.ids.items c.args.id ≡ false = grind (arith, c.contains.ensures, c.if-not-contains.true, c.if-not-contains.ensures, c.self.view_is) in
    let is : c.insert.new.self.items ≡ insert c.self.inside.ids.items c.place-place.result c.args.id = c.in_ok-insert.ensures.ok in
    let place : c.place-place.result ≡ place_of c.self.inside.ids.items c.args.id = cc (c.place-place.ensures.place, c.as_slice.ensures) in
    rw (is, place) (rises_placed None c.self.inside.ids.items c.args.id c.self.invariant tt new)

pub returns-in_ok-insert-clause-added : goal.returns-in_ok-insert-clause-added
returns-in_ok-insert-clause-added c = λ one.
    let is : c.insert.new.self.items ≡ insert c.self.inside.ids.items c.place-place.result c.args.id = c.in_ok-insert.ensures.ok in
    rw (is, holds_inserted c.self.inside.ids.items c.place-place.result c.args.id one, ← c.self.view_is)
