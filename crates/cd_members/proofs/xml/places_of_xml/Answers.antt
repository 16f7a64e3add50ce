use Rattle.std.proofs.Common.{◌≡◌, length, arith}
use Rattle.std.proofs.lemmas.Result.{IfOk-weaker}
use Rattle.cd_members.proofs.XmlAttempts.{xmls_held}
use Rattle.cd_members.proofs.Ready.{as_many, names_at}
use Rattle.cd_members.proofs.xml.places_of_xml.Goals as goal

-- there are three elements
pub bounds-ids-1 : goal.bounds-ids-1
bounds-ids-1 c = let three : length c.args.ids.now ≡ 3 = as_many c.requires.ready in omega arith

pub bounds-ids-2 : goal.bounds-ids-2
bounds-ids-2 c = let three : length c.args.ids.now ≡ 3 = as_many c.requires.ready in omega arith

pub places_in-requires-clause-attributes : goal.places_in-requires-clause-attributes
places_in-requires-clause-attributes c = names_at c.requires.ready 1 (record { 0 = 0 }) (omega arith)

pub places_in-requires-clause-content : goal.places_in-requires-clause-content
places_in-requires-clause-content c = names_at c.requires.ready 2 (record { 0 = 0 }) (omega arith)

pub returns-clause-held : goal.returns-clause-held
returns-clause-held c = IfOk-weaker c.places_in.result _ _
    (λ places held. xmls_held c.requires.ready (record { 0 = 0 }) places.items
    (rw (c.as_slice-left.ensures.value, c.deref.ensures) at held))
    c.places_in.ensures.places
