use Rattle.std.proofs.Common.{◌≡◌, ◌<◌, ◌∷◌, ◌∙◌, map, length, reverse, false, sym, get_or, arith}
use Rattle.std.proofs.lemmas.List.{length-map, get_or_read}
use Rattle.std.proofs.lemmas.Result.{IfOk-weaker}
use Rattle.cd_resolve.specs.Inner.Search.{IsSeen}
use Rattle.cd_resolve.proofs.Sound.{sound_when_added, sound_when_passed, all_lead_next, next_has_row}
use Rattle.cd_resolve.proofs.FewerSteps.{fewer_when_passed, fewer_when_added}
use Rattle.cd_resolve.proofs.search.Search.look_at.Goals as goal

-- the next number was seen, so it is put, and it is passed
pub returns-then-index-clause-sound : goal.returns-then-index-clause-sound
returns-then-index-clause-sound c =
    let links = map (λ row. row.items) c.args.links.now in
    let seen = c.args.self.now.seen.items in
    let frames = reverse c.args.self.now.frames.items in
    let sized = c.requires.sound.sized in
    let has = next_has_row links c.args.frame.number c.args.frame.looked c.args.next c.requires.rows c.requires.at in
    let has_row : c.args.next < length c.args.links.now = rw length-map at has in
    let read = get_or_read seen c.args.next c.index.result.now (omega arith) c.index.ensures false in
    let is : IsSeen seen c.args.next = sym read ∙ c.if-index.true in
    IfOk-weaker c.keep.result _ _
    (λ u opened. sound_when_passed links seen c.keep.new.self.seen.items c.args.frame frames
    (reverse c.keep.new.self.frames.items) c.args.self.now.order.items c.keep.new.self.order.items c.args.next
    c.requires.sound c.requires.at is (c.requires.ends c.args.next has_row) c.keep.ensures.seen opened
    c.keep.ensures.order)
    c.keep.ensures.opened

-- the row has one number less to look at
pub returns-then-index-clause-fewer : goal.returns-then-index-clause-fewer
returns-then-index-clause-fewer c =
    let links = map (λ row. row.items) c.args.links.now in
    IfOk-weaker c.keep.result _ _
    (λ u opened. fewer_when_passed links c.args.self.now.seen.items c.keep.new.self.seen.items c.args.frame
    (reverse c.args.self.now.frames.items) (reverse c.keep.new.self.frames.items) c.args.next c.requires.at
    c.keep.ensures.seen opened)
    c.keep.ensures.opened

-- the next number has a row
pub add-requires : goal.add-requires
add-requires c =
    let links = map (λ row. row.items) c.args.links.now in
    let sized = c.requires.sound.sized in
    let has = next_has_row links c.args.frame.number c.args.frame.looked c.args.next c.requires.rows c.requires.at in
    rw (c.in_ok-keep.ensures.seen, sized) has

-- the next number was not seen, so it is opened
pub returns-clause-sound : goal.returns-clause-sound
returns-clause-sound c =
    let links = map (λ row. row.items) c.args.links.now in
    let seen = c.args.self.now.seen.items in
    let frames = reverse c.args.self.now.frames.items in
    let has = next_has_row links c.args.frame.number c.args.frame.looked c.args.next c.requires.rows c.requires.at in
    let read = c.index.ensures in
    let new : get_or seen c.args.next false ≡ false = sym (rw c.if-index.false at read) in
    let lead = all_lead_next links seen c.args.frame frames c.args.self.now.order.items c.args.next c.requires.sound
    c.requires.at in
    IfOk-weaker c.add.result _ _
    (λ u opened. sound_when_added links seen c.add.new.self.seen.items (c.args.frame ∷ frames)
    (reverse c.add.new.self.frames.items) c.args.self.now.order.items c.add.new.self.order.items c.args.next
    c.requires.sound has new lead
    (rw c.in_ok-keep.ensures.seen at c.add.ensures.seen)
    (rw c.in_ok-keep.ensures.opened at opened)
    (c.add.ensures.order ∙ c.in_ok-keep.ensures.order))
    c.add.ensures.opened

-- its steps are counted among those of what is open, and no more among those of what is not seen
pub returns-clause-fewer : goal.returns-clause-fewer
returns-clause-fewer c =
    let links = map (λ row. row.items) c.args.links.now in
    let seen = c.args.self.now.seen.items in
    let frames = reverse c.args.self.now.frames.items in
    let has = next_has_row links c.args.frame.number c.args.frame.looked c.args.next c.requires.rows c.requires.at in
    let read = c.index.ensures in
    let new : get_or seen c.args.next false ≡ false = sym (rw c.if-index.false at read) in
    let sized = c.requires.sound.sized in
    IfOk-weaker c.add.result _ _
    (λ u opened. fewer_when_added links seen c.add.new.self.seen.items (c.args.frame ∷ frames)
    (reverse c.add.new.self.frames.items) c.args.next has sized new
    (rw c.in_ok-keep.ensures.seen at c.add.ensures.seen)
    (rw c.in_ok-keep.ensures.opened at opened))
    c.add.ensures.opened
