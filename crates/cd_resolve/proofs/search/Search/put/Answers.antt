use Rattle.std.proofs.Common.{map, reverse, length, ◌<◌}
use Rattle.std.proofs.lemmas.List.{length-map}
use Rattle.cd_resolve.proofs.Sound.{sound_with_put}
use Rattle.cd_resolve.proofs.search.Search.put.Goals as goal

-- the row was looked at to its end, so all of it is put
pub returns-clause-sound : goal.returns-clause-sound
returns-clause-sound c =
    let links = map (λ row. row.items) c.args.links.now in
    let frame = c.args.frame in
    let has : frame.number < length c.args.links.now = rw length-map at c.requires.sound.are_open.0 in
    rw c.in_ok-push.ensures.items
    (sound_with_put links c.args.self.now.seen.items frame (reverse c.args.self.now.frames.items)
    c.args.self.now.order.items c.requires.sound c.requires.end (c.requires.ends frame.number has))
