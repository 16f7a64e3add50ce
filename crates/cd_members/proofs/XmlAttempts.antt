-- The XML element of elements that are ready for a task is an element for it, where it is in no XML formula that is left.
use Rattle.std.proofs.Common.{◌≡◌, ℕ, true, false, List, [], ◌∷◌, ◌++◌, map, get_or, sym, subst}
use Rattle.cd_model.specs.AllOf.{AllOf}
use Rattle.cd_model.specs.BuiltIns.{built_ins, ATOM, RECORD}
use Rattle.cd_model.specs.Formula.{Graph}
use Rattle.cd_model.specs.Kinds.{AnXml, kind_of}
use Rattle.cd_model.specs.Membership.{answers, reader}
use Rattle.cd_model.specs.Thing as thing
use Rattle.cd_model.specs.Thing.{Thing, IsElement, IsAtom, IsRecord}
use Rattle.cd_rules.specs.Clauses.{Clause, Triple, Xmls, IsInClause}
use Rattle.cd_rules.specs.Tasks.{XmlTask, IsTaskOf}
use Rattle.cd_rules.proofs.MembersOfTasks.{xml_of_task}
use Rattle.cd_rules.proofs.MembersOfXmls.{atom_of_answer, record_of_answer}
use Rattle.cd_rules.proofs.PairsBack.{parts_of_asked_more}
use Rattle.cd_elements.specs.declared.shape.ElementId.{ElementId}
use Rattle.cd_elements.specs.declared.shape.Shape.TheVariants.{Xml}
use Rattle.cd_elements.specs.Table.{IsShape, element_at}
use Rattle.cd_members.specs.Attempts.{IsElementFor}
use Rattle.cd_members.specs.Held.{IsHeldAt, IsSoAt, xml_in}
use Rattle.cd_members.specs.Inner.Ready.{IsReady}
use Rattle.cd_members.proofs.Ready.{is_task}

module _ (graph : Graph) (wanted refused : List Triple) (given : List Triple × List Triple × List Triple) (left : List Triple) where
  in_each_clause : (e : Thing) → IsInClause AnXml (reader graph e) (Xmls wanted refused) → (clause : Clause)
      → IsTaskOf clause (XmlTask wanted refused given left) → IsInClause AnXml (reader graph e) clause
  in_each_clause e is (Xmls some others) ((same, same_too), task) =
      subst (λ (some : List Triple). IsInClause AnXml (reader graph e) (Xmls some others)) same
      (subst (λ (others : List Triple). IsInClause AnXml (reader graph e) (Xmls wanted others)) same_too is)
  in_each_clause e is _ (none, task) = absurd none

  module _ (table : List Thing) (tag attributes content : ElementId)
      (ready : IsReady graph table (XmlTask wanted refused given left) (tag ∷ attributes ∷ content ∷ [])) where
    -- its tag is an atom, and its attributes are a record
    xml_is_shape : (more : Graph) → graph ≡ built_ins ++ more → IsShape table (Xml tag attributes content)
    xml_is_shape more begins =
        let of_tag = parts_of_asked_more (answers graph (element_at table tag)) ATOM (λ (parts : Triple). parts.0) wanted given.0
        ready.parts.0 in
        let of_attributes = parts_of_asked_more (answers graph (element_at table attributes)) RECORD (λ (parts : Triple). parts.1)
        wanted given.1 ready.parts.1.0 in (
          ready.named.0,
          ready.named.1.0,
          ready.named.1.1.0,
          atom_of_answer more (element_at table tag)
              (subst (λ (graph : Graph). answers graph (element_at table tag) ATOM true) begins of_tag.0),
          record_of_answer more (element_at table attributes)
              (subst (λ (graph : Graph). answers graph (element_at table attributes) RECORD true) begins of_attributes.0),
        )

    xml_is_for :
        AllOf (λ parts. xml_in graph (element_at table tag) (element_at table attributes) (element_at table content) parts false) left
        → (e : Thing) → IsElement e → e ≡ thing.Xml (element_at table tag) (element_at table attributes) (element_at table content)
        → IsElementFor graph (XmlTask wanted refused given left) e
    xml_is_for outside e is made = (
      is,
      subst (λ (e : Thing). (clause : Clause) → IsTaskOf clause (XmlTask wanted refused given left)
          → IsInClause (kind_of e) (reader graph e) clause) (sym made)
          (in_each_clause (thing.Xml (element_at table tag) (element_at table attributes) (element_at table content))
          (xml_of_task graph (element_at table tag) (element_at table attributes) (element_at table content) wanted refused given left
          (is_task ready) ready.parts.0 ready.parts.1.0 ready.parts.1.1.0 outside)),
    )

-- so it is with the elements at the first three places
pub xml_shaped : {graph : Graph} {table : List Thing} {wanted refused : List Triple} {given : List Triple × List Triple × List Triple}
    {left : List Triple} {ids : List ElementId} {more : Graph} → IsReady graph table (XmlTask wanted refused given left) ids
    → (default : ElementId) → graph ≡ built_ins ++ more
    → IsShape table (Xml (get_or ids 0 default) (get_or ids 1 default) (get_or ids 2 default))
xml_shaped {graph} {table} {wanted} {refused} {given} {left} {ids = tag ∷ attributes ∷ content ∷ []} {more} ready default =
    xml_is_shape graph wanted refused given left table tag attributes content ready more
xml_shaped {ids = []} ready default = absurd ready.parts
xml_shaped {ids = tag ∷ []} ready default = absurd ready.parts.1
xml_shaped {ids = tag ∷ attributes ∷ []} ready default = absurd ready.parts.1.1
xml_shaped {ids = tag ∷ attributes ∷ content ∷ other ∷ ids} ready default = absurd ready.parts.1.1.1

pub xml_attempted : {graph : Graph} {table : List Thing} {wanted refused : List Triple} {given : List Triple × List Triple × List Triple}
    {left : List Triple} {ids : List ElementId} {e : Thing} → IsReady graph table (XmlTask wanted refused given left) ids
    → (default : ElementId)
    → AllOf (λ parts. xml_in graph (element_at table (get_or ids 0 default)) (element_at table (get_or ids 1 default))
    (element_at table (get_or ids 2 default)) parts false) left
    → IsElement e
    → e ≡ thing.Xml (element_at table (get_or ids 0 default)) (element_at table (get_or ids 1 default))
    (element_at table (get_or ids 2 default))
    → IsElementFor graph (XmlTask wanted refused given left) e
xml_attempted {graph} {table} {wanted} {refused} {given} {left} {ids = tag ∷ attributes ∷ content ∷ []} {e} ready default outside =
    xml_is_for graph wanted refused given left table tag attributes content ready outside e
xml_attempted {ids = []} ready default outside = absurd ready.parts
xml_attempted {ids = tag ∷ []} ready default outside = absurd ready.parts.1
xml_attempted {ids = tag ∷ attributes ∷ []} ready default outside = absurd ready.parts.1.1
xml_attempted {ids = tag ∷ attributes ∷ content ∷ other ∷ ids} ready default outside = absurd ready.parts.1.1.1

-- an XML formula that is left holds the XML element
pub xml_held : {graph : Graph} {table : List Thing} {wanted refused : List Triple} {given : List Triple × List Triple × List Triple}
    {left : List Triple} {ids : List ElementId} → IsReady graph table (XmlTask wanted refused given left) ids
    → (default : ElementId) (place : ℕ)
    → IsSoAt (xml_in graph (element_at table (get_or ids 0 default)) (element_at table (get_or ids 1 default))
    (element_at table (get_or ids 2 default))) left place
    → IsHeldAt graph (map (element_at table) ids) (XmlTask wanted refused given left) place
xml_held {ids = tag ∷ attributes ∷ content ∷ []} ready default place held = held
xml_held {ids = []} ready default place held = absurd ready.parts
xml_held {ids = tag ∷ []} ready default place held = absurd ready.parts.1
xml_held {ids = tag ∷ attributes ∷ []} ready default place held = absurd ready.parts.1.1
xml_held {ids = tag ∷ attributes ∷ content ∷ other ∷ ids} ready default place held = absurd ready.parts.1.1.1

pub xmls_held : {graph : Graph} {table : List Thing} {wanted refused : List Triple} {given : List Triple × List Triple × List Triple}
    {left : List Triple} {ids : List ElementId} → IsReady graph table (XmlTask wanted refused given left) ids
    → (default : ElementId) (places : List ℕ)
    → AllOf (IsSoAt (xml_in graph (element_at table (get_or ids 0 default)) (element_at table (get_or ids 1 default))
    (element_at table (get_or ids 2 default))) left) places
    → AllOf (IsHeldAt graph (map (element_at table) ids) (XmlTask wanted refused given left)) places
xmls_held ready default [] held = tt
xmls_held ready default (place ∷ places) held = (xml_held ready default place held.0, xmls_held ready default places held.1)
