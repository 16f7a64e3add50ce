-- A clause of XML elements whose need is met has a member, since its tag is an atom and its attributes are a record.
use Rattle.std.proofs.Common.{◌≡◌, true, List, ◌++◌, refl, subst}
use Rattle.std.proofs.lemmas.Bool.{true≢false}
use Rattle.cd_model.specs.Thing as thing
use Rattle.cd_model.specs.Thing.{Thing, IsAtom, IsRecord}
use Rattle.cd_model.specs.BuiltIns.{built_ins, ATOM, RECORD}
use Rattle.cd_model.specs.Formula.{Graph}
use Rattle.cd_model.specs.Membership.{answers}
use Rattle.cd_rules.specs.Clauses.{Triple, Xmls}
use Rattle.cd_rules.specs.Needs.{xml_way, splits_in_three}
use Rattle.cd_rules.specs.Members.{HasElement, HasMember, HasAllNeeds}
use Rattle.cd_rules.proofs.PairsBack.{xmls_back}
use Rattle.cd_rules.proofs.MembersOfPairs.{way_picked}

-- an element that is in the node of the atoms is an atom
pub atom_of_answer : (more : Graph) (is : Thing) → answers (built_ins ++ more) is ATOM true → IsAtom is
atom_of_answer more (thing.Atom name) there = tt
atom_of_answer more _ there = absurd (true≢false there)

-- an element that is in the node of the records is a record
pub record_of_answer : (more : Graph) (is : Thing) → answers (built_ins ++ more) is RECORD true → IsRecord is
record_of_answer more (thing.Record fields) there = tt
record_of_answer more _ there = absurd (true≢false there)

-- a clause of XML elements has a member
pub xmls_have : (graph more : Graph) → graph ≡ built_ins ++ more → (wanted refused : List Triple)
    → HasAllNeeds (HasElement graph) (Xmls wanted refused) → HasMember graph (Xmls wanted refused)
xmls_have graph more begins wanted refused has =
    let way = way_picked graph (xml_way wanted) (splits_in_three refused) has.0 has.1 has.2 in
    let tag = way.2.0 in
    let attributes = way.2.1.0 in
    let content = way.2.1.1.0 in
    let back = xmls_back (answers graph tag.0) (answers graph attributes.0) (answers graph content.0) wanted refused
    way.0 way.1 tag.2 attributes.2 content.2 in
    let is_atom = atom_of_answer more tag.0 (subst (λ graph. answers graph tag.0 ATOM true) begins back.0) in
    let is_record = record_of_answer more attributes.0
    (subst (λ graph. answers graph attributes.0 RECORD true) begins back.1) in (
      thing.Xml tag.0 attributes.0 content.0,
      (is_atom, is_record, tag.1, attributes.1, content.1),
      (refl, back.2, back.3),
    )
