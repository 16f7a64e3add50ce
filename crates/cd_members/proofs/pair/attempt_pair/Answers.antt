use Rattle.std.proofs.Common.{◌≡◌, length, arith}
use Rattle.cd_members.proofs.PairAttempts.{pair_attempted, pair_held}
use Rattle.cd_members.proofs.Ready.{as_many, names_at}
use Rattle.cd_members.proofs.pair.attempt_pair.Goals as goal

-- there are two elements
pub bounds-ids-1 : goal.bounds-ids-1
bounds-ids-1 c = let two : length c.args.ids.now ≡ 2 = as_many c.requires.ready in omega arith

pub place_of-requires-clause-second : goal.place_of-requires-clause-second
place_of-requires-clause-second c = names_at c.requires.ready 1 (record { 0 = 0 }) (omega arith)

-- a pair of nodes that is left holds the pair
pub returns-in-Some-clause-attempt : goal.returns-in-Some-clause-attempt
returns-in-Some-clause-attempt c =
    pair_held c.requires.ready (record { 0 = 0 }) c.in-Some.place (rw (c.in-Some.is, c.as_slice.ensures.value, c.deref.ensures) at c.in_ok-place.ensures.place)

-- the pair is in no pair of nodes that is left
pub returns-in_ok-make-in-None-clause-attempt : goal.returns-in_ok-make-in-None-clause-attempt
returns-in_ok-make-in-None-clause-attempt c =
    let made = c.in_ok-make-in-None.ensures.made in (
      made.0,
      pair_attempted c.requires.ready (record { 0 = 0 }) (rw (c.in-None.is, c.as_slice.ensures.value, c.deref.ensures) at c.in_ok-place.ensures.place)
          made.1 made.2,
    )
