use Rattle.std.proofs.Common.{◌≡◌, ◌<◌, [], map, length, reverse, false, ap, sym, get_or}
use Rattle.std.proofs.lemmas.List.{length-map}
use Rattle.std.proofs.lemmas.Result.{IfOk-weaker}
use Rattle.cd_resolve.proofs.Sound.{sound_when_added}
use Rattle.cd_resolve.proofs.search.Search.begin.Goals as goal

-- the only open number is the one that is begun with
pub returns-clause-sound : goal.returns-clause-sound
returns-clause-sound c =
    let links = map (λ row. row.items) c.args.links.now in
    let seen = c.args.self.now.seen.items in
    let number = c.args.number in
    let has : number < length links = rw length-map c.requires.has in
    let read = c.index.ensures in
    let new : get_or seen number false ≡ false = sym (rw c.if-index.false at read) in
    let none : reverse c.args.self.now.frames.items ≡ [] = ap reverse c.requires.none in
    IfOk-weaker c.add.result _ _
    (λ u opened. sound_when_added links seen c.add.new.self.seen.items [] (reverse c.add.new.self.frames.items)
    c.args.self.now.order.items c.add.new.self.order.items number c.requires.sound has new tt c.add.ensures.seen
    (rw none at opened) c.add.ensures.order)
    c.add.ensures.opened
