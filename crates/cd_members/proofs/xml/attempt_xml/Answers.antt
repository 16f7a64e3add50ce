use Rattle.std.proofs.Common.{◌≡◌, length, arith}
use Rattle.cd_members.proofs.XmlAttempts.{xml_shaped, xml_attempted, xml_held}
use Rattle.cd_members.proofs.Ready.{as_many, names_at}
use Rattle.cd_members.proofs.xml.attempt_xml.Goals as goal

-- there are three elements
pub bounds-ids-1 : goal.bounds-ids-1
bounds-ids-1 c = let three : length c.args.ids.now ≡ 3 = as_many c.requires.ready in omega arith

pub bounds-ids-2 : goal.bounds-ids-2
bounds-ids-2 c = let three : length c.args.ids.now ≡ 3 = as_many c.requires.ready in omega arith

pub place_of-requires-clause-attributes : goal.place_of-requires-clause-attributes
place_of-requires-clause-attributes c = names_at c.requires.ready 1 (record { 0 = 0 }) (omega arith)

pub place_of-requires-clause-content : goal.place_of-requires-clause-content
place_of-requires-clause-content c = names_at c.requires.ready 2 (record { 0 = 0 }) (omega arith)

-- the tag is an atom, and the attributes are a record
pub make-requires : goal.make-requires
make-requires c = xml_shaped c.requires.ready (record { 0 = 0 }) c.knows.ensures.built_in.1

-- an XML formula that is left holds the XML element
pub returns-in-Some-clause-attempt : goal.returns-in-Some-clause-attempt
returns-in-Some-clause-attempt c =
    xml_held c.requires.ready (record { 0 = 0 }) c.in-Some.place (rw (c.in-Some.is, c.as_slice-left.ensures.value, c.deref.ensures) at c.in_ok-place.ensures.place)

-- the XML element is in no XML formula that is left
pub returns-in_ok-make-in-None-clause-attempt : goal.returns-in_ok-make-in-None-clause-attempt
returns-in_ok-make-in-None-clause-attempt c =
    let made = c.in_ok-make-in-None.ensures.made in (
      made.0,
      xml_attempted c.requires.ready (record { 0 = 0 })
          (rw (c.in-None.is, c.as_slice-left.ensures.value, c.deref.ensures) at c.in_ok-place.ensures.place) made.1 made.2,
    )
