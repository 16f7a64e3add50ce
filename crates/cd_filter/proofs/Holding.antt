-- The node of a place holds exactly what is caught there.
use Rattle.std.proofs.Common.{◌≡◌, ◌↔◌, ℕ, true, Option, Some, None, refl, sym, ap, subst}
use Rattle.std.proofs.lemmas.Option.{none-some, same_Some}
use Rattle.cd_sets.specs.declared.node_id.NodeId.{NodeId}
use Rattle.cd_sets.specs.declared.question.Question.{Question}
use Rattle.cd_model.specs.Thing as thing
use Rattle.cd_model.specs.Thing.{Thing}
use Rattle.cd_model.specs.Types.{Answers}
use Rattle.cd_model.proofs.Sorts.{Sort}
use Rattle.cd_matching.specs.Sequences.{thing_of}
use Rattle.cd_filter.specs.CapturedNodes.{Reaches, itself, further, GivesAt, IsNodeOf, AreNodes}
use Rattle.cd_filter.specs.Caught.{Caught, takes_it, puts_it, leads_on, gathers_it}
use Rattle.cd_filter.specs.Table.{Place, Step, Takes, Puts, Leads, Gathers, Table, HasStep}

abbrev second_of : Thing → Option Thing
second_of (thing.Pair d e) = Some e
second_of d = None

module _ (answers : Thing → Answers NodeId) (sort : Sort) (table : Table) (variable : ℕ)
    (id : Place → NodeId) where
  abbrev IsCaught : Place → Thing → Type 0
  IsCaught = Caught answers sort.Of table variable

  abbrev IsNode : Place → Type 0
  IsNode = IsNodeOf answers sort.Of table variable id

  -- what is caught at a place that is reached is caught
  up : (place last : Place) → Reaches table variable place last → (what : Thing)
      → IsCaught last what → IsCaught place what
  up _ _ (itself place) what caught = caught
  up _ _ (further place next last but is other rest) what caught =
      leads_on place next but what is other (up next last rest what caught)

  longer : (place last : Place) → Reaches table variable place last → (next : Place)
      (but : Option ℕ) → HasStep table last (Leads but next) → (but ≡ Some variable → ⊥)
      → Reaches table variable place next
  longer _ _ (itself place) next but is other =
      further place next next but is other (itself next)
  longer _ _ (further place middle last one is other rest) next but is_last other_last =
      further place middle next one is other (longer middle last rest next but is_last other_last)

  module _ (gathered : (place next : Place) (item : Question)
      → HasStep table place (Gathers variable item next) → IsNode next) where
    -- by induction on how it is caught
    to_node : (last : Place) (what : Thing) → IsCaught last what → sort.Of what → (place : Place)
        → IsNode place → Reaches table variable place last → answers what (id place) true
    to_node _ _ (takes_it last what is sound_it inside) sound place node way =
        (node what sound).1 (last, Takes variable, way, is, (refl, inside))
    to_node _ _ (puts_it last constant is) sound place node way =
        (node (thing_of constant) sound).1 (last, Puts variable constant, way, is, (refl, refl))
    to_node _ _ (leads_on last next but what is other caught) sound place node way =
        to_node next what caught sound place node (longer place last way next but is other)
    to_node _ _ (gathers_it last next item first rest is sound_first inside caught) sound place node
        way =
        let sound_rest = (sort.pair first rest sound).1 in
        let inside_rest = to_node next rest caught sound_rest next (gathered last next item is)
        (itself next) in
        (node (thing.Pair first rest) sound).1 (
          last,
          Gathers variable item next,
          way,
          is,
          (refl, (first, rest, sound_first, sound_rest, refl, inside, inside_rest)),
        )

    abbrev Catches : Thing → Type 0
    Catches d = (place : Place) → IsNode place → answers d (id place) true → IsCaught place d

    by_step : (d : Thing) → sort.Of d → ((e : Thing) → second_of d ≡ Some e → Catches e)
        → (last : Place) (step : Step) → HasStep table last step
        → GivesAt answers sort.Of variable id last d step → IsCaught last d
    by_step d sound again last (Takes other) there (same, inside) =
        takes_it last d (subst (λ v. HasStep table last (Takes v)) same there) sound inside
    by_step d sound again last (Puts other constant) there (same, made) =
        subst (IsCaught last) (sym made)
        (puts_it last constant (subst (λ v. HasStep table last (Puts v constant)) same there))
    by_step d sound again last (Leads but next) there given = absurd given
    by_step d sound again last (Gathers other item next) there
        (same, (first, rest, sound_first, sound_rest, made, inside, inside_rest)) =
        let step = subst (λ v. HasStep table last (Gathers v item next)) same there in
        subst (IsCaught last) (sym made)
        (gathers_it last next item first rest step sound_first inside
        (again rest (ap second_of made) next (gathered last next item step) inside_rest))

    given : (d : Thing) → sort.Of d → ((e : Thing) → second_of d ≡ Some e → Catches e) → Catches d
    given d sound again place node h =
        let found = (node d sound).0 h in
        up place found.0 found.2 d (by_step d sound again found.0 found.1 found.3 found.4)

    -- by recursion on the thing
    from_node : (d : Thing) → sort.Of d → Catches d
    from_node (thing.Pair d e) sound = given (thing.Pair d e) sound
        (λ second h. subst Catches (same_Some e second h) (from_node e (sort.pair d e sound).1))
    from_node (thing.Integer n) sound =
        given (thing.Integer n) sound (λ second h. absurd (none-some second h))
    from_node (thing.Character c) sound =
        given (thing.Character c) sound (λ second h. absurd (none-some second h))
    from_node (thing.Atom name) sound =
        given (thing.Atom name) sound (λ second h. absurd (none-some second h))
    from_node (thing.Xml d e f) sound =
        given (thing.Xml d e f) sound (λ second h. absurd (none-some second h))
    from_node (thing.Record fields) sound =
        given (thing.Record fields) sound (λ second h. absurd (none-some second h))
    from_node (thing.Function pairs) sound =
        given (thing.Function pairs) sound (λ second h. absurd (none-some second h))
    from_node (thing.Closure function environment) sound =
        given (thing.Closure function environment) sound (λ second h. absurd (none-some second h))

pub nodes_hold : (answers : Thing → Answers NodeId) (sort : Sort) (table : Table) (variable : ℕ)
    (root : Place) (id : Place → NodeId) → AreNodes answers sort.Of table variable root id
    → (what : Thing) → sort.Of what
    → answers what (id root) true ↔ Caught answers sort.Of table variable root what
nodes_hold answers sort table variable root id are what sound = (
  from_node answers sort table variable id are.gathered what sound root are.of_root,
  λ caught. to_node answers sort table variable id are.gathered root what caught sound root
      are.of_root (itself root),
)
