use Rattle.cd_members.proofs.RecordAttempts.{record_attempted, record_held}
use Rattle.cd_members.proofs.record.attempt_record.Goals as goal

-- a record type that is left holds the record
pub returns-in-Some-clause-attempt : goal.returns-in-Some-clause-attempt
returns-in-Some-clause-attempt c =
    let made = c.in_ok-id.ensures.made in
    record_held c.requires.ready made.2.2 made.2.1 c.in-Some.place (rw (c.in-Some.is, c.as_slice.ensures.value, c.deref.ensures) at c.in_ok-place.ensures.place)

-- the record is in no record type that is left
pub returns-in-None-clause-attempt : goal.returns-in-None-clause-attempt
returns-in-None-clause-attempt c =
    let made = c.in_ok-id.ensures.made in (
      made.0,
      record_attempted c.requires.ready made.2.2 made.1 made.2.1
          (rw (c.in-None.is, c.as_slice.ensures.value, c.deref.ensures) at c.in_ok-place.ensures.place),
    )
