-- The needs of a clause that has a member are met: its parts are in the questions of one way of each need, or of a row.
use Rattle.std.proofs.Common.{◌≡◌, true, false, List, [], ◌∷◌, ◌++◌, map, inr, refl}
use Rattle.cd_model.specs.Thing as thing
use Rattle.cd_model.specs.Thing.{Thing, IsElement}
use Rattle.cd_model.specs.BuiltIns.{built_ins}
use Rattle.cd_model.specs.AllOf.{AllOf}
use Rattle.cd_model.specs.Formula.{Graph}
use Rattle.cd_model.specs.Kinds.{kind_of}
use Rattle.cd_model.specs.Membership as node
use Rattle.cd_model.specs.Membership.{answers, reader}
use Rattle.cd_model.specs.Types.{no_closure}
use Rattle.cd_rules.specs.Clauses.{Clause, Ints, Chars, Atoms, Pairs, Xmls, Records, Arrows, Pair, IsInClause}
use Rattle.cd_rules.specs.Needs.{arrow_way, splits}
use Rattle.cd_rules.specs.Members.{HasElement, IsMet, IsSupplied}
use Rattle.cd_rules.proofs.ArrowsForward.{ElementsHave, arrows_forward, parts_have}
use Rattle.cd_rules.proofs.NoMember.{tag_in, attributes_in}
use Rattle.cd_rules.proofs.PairsForward.{pairs_forward}
use Rattle.cd_rules.proofs.RecordsForward.{records_forward}
use Rattle.cd_rules.proofs.RecordsOfThings.{FieldsHave, record_has}
use Rattle.cd_rules.proofs.XmlsForward.{xmls_forward}

module _ (graph : Graph) (begins : (more : Graph) × (graph ≡ built_ins ++ more)) where
  -- what an element is asked has an element
  asked_has : ElementsHave graph (HasElement graph)
  asked_has e is question asking = (e, is, asking)

  fields_have : (fields : thing.Fields) → thing.AreFields fields → FieldsHave graph no_closure (HasElement graph) fields
  fields_have thing.NoField are = tt
  fields_have (thing.Field name is rest) are = (asked_has is are.1, fields_have rest are.2)

  -- each refused arrow's need is met
  arrows_met : (pairs : thing.Pairs) → IsElement (thing.Function pairs) → (wanted refused : List Pair)
      → AllOf (λ parts. node.mapping graph pairs parts.0 parts.1 true) wanted
      → AllOf (λ parts. node.mapping graph pairs parts.0 parts.1 false) refused
      → AllOf (IsMet (HasElement graph)) (map (λ one. map (arrow_way one) (splits wanted)) refused)
  arrows_met pairs is wanted [] inside outside = tt
  arrows_met pairs is wanted (one ∷ refused) inside outside = (
    arrows_forward graph no_closure (HasElement graph) pairs (parts_have graph (HasElement graph) asked_has pairs is) wanted one inside outside.0,
    arrows_met pairs is wanted refused inside outside.1,
  )

  pub member_supplies : (clause : Clause) (e : Thing) → IsElement e → IsInClause (kind_of e) (reader graph e) clause
      → IsSupplied (HasElement graph) clause
  member_supplies (Ints wanted refused) (thing.Integer n) is within = ([], inr (n, (is, within.1, within.2), refl), tt)
  member_supplies (Ints wanted refused) _ is within = absurd cc
  member_supplies (Chars wanted refused) (thing.Character c) is within = ([], inr (c, (is, within.1, within.2), refl), tt)
  member_supplies (Chars wanted refused) _ is within = absurd cc
  member_supplies (Atoms wanted refused) (thing.Atom name) is within = ([], inr (name, (is, within.1, within.2), refl), tt)
  member_supplies (Atoms wanted refused) _ is within = absurd cc
  member_supplies (Pairs wanted refused) (thing.Pair first second) is within = (
    _,
    refl,
    (
      pairs_forward (answers graph first) (answers graph second) (HasElement graph)
          (asked_has first is.0) (asked_has second is.1) wanted refused within.1 within.2,
      tt,
    ),
  )
  member_supplies (Pairs wanted refused) _ is within = absurd cc
  member_supplies (Xmls wanted refused) (thing.Xml tag attributes content) is within = (
    _,
    refl,
    (
      xmls_forward (answers graph tag) (answers graph attributes) (answers graph content) (HasElement graph)
          (asked_has tag is.2) (asked_has attributes is.3) (asked_has content is.4)
          (tag_in graph begins no_closure tag is.0) (attributes_in graph begins no_closure attributes is.1) wanted refused within.1 within.2,
      tt,
    ),
  )
  member_supplies (Xmls wanted refused) _ is within = absurd cc
  member_supplies (Records wanted refused) (thing.Record fields) is within =
      records_forward (node.labelled graph fields) (HasElement graph)
      (record_has graph no_closure (HasElement graph) fields (fields_have fields is.1)) wanted refused within.1 within.2
  member_supplies (Records wanted refused) _ is within = absurd cc
  member_supplies (Arrows wanted refused) (thing.Function pairs) is within =
      (_, refl, arrows_met pairs is wanted refused within.1 within.2)
  member_supplies (Arrows wanted refused) (thing.Closure function environment) is within = absurd is
  member_supplies (Arrows wanted refused) _ is within = absurd cc
