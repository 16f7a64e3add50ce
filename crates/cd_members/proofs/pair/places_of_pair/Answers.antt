use Rattle.std.proofs.Common.{◌≡◌, length, arith}
use Rattle.std.proofs.lemmas.Result.{IfOk-weaker}
use Rattle.cd_members.proofs.PairAttempts.{pairs_held}
use Rattle.cd_members.proofs.Ready.{as_many, names_at}
use Rattle.cd_members.proofs.pair.places_of_pair.Goals as goal

-- there are two elements
pub bounds-ids-1 : goal.bounds-ids-1
bounds-ids-1 c = let two : length c.args.ids.now ≡ 2 = as_many c.requires.ready in omega arith

pub places_in-requires-clause-second : goal.places_in-requires-clause-second
places_in-requires-clause-second c = names_at c.requires.ready 1 (record { 0 = 0 }) (omega arith)

pub returns-clause-held : goal.returns-clause-held
returns-clause-held c = IfOk-weaker c.places_in.result _ _
    (λ places held. pairs_held c.requires.ready (record { 0 = 0 }) places.items
    (rw (c.as_slice.ensures.value, c.deref.ensures) at held))
    c.places_in.ensures.places
