-- The record type that asks for something at a label, and for nothing else.
use Rattle.std.proofs.Common.{◌≡◌, ◌↔◌, ◌<◌, ◌+◌, ◌++◌, ℕ, true, false, Bool, [], ◌∷◌, Some}
use Rattle.std.proofs.Common.{refl, sym, ap, subst, bytes_eq, if◌then◌else◌, true≢false, length}
use Rattle.std.proofs.Common.{arith, length-append}
use Rattle.std.proofs.lemmas.Option.{none-some}
use Rattle.std.proofs.lemmas.Slice.Eq.{bytes_eq-Decides}
use Rattle.cd_sets.specs.declared.node_id.NodeId.{NodeId}
use Rattle.cd_syntax.specs.Name.{Name, IsLabel}
use Rattle.cd_model.specs.AllOf.{AllOf}
use Rattle.cd_model.specs.BuiltIns.{built_ins, node, ANY}
use Rattle.cd_model.specs.Formula.{Graph, Formula, Field, Record, IsFormula, IsGraph}
use Rattle.cd_model.specs.Membership.{holds, reader, answers, labelled}
use Rattle.cd_model.specs.Thing as thing
use Rattle.cd_model.specs.Thing.{Thing}
use Rattle.cd_model.specs.Types.{chosen, field_of}
use Rattle.cd_rules.specs.InRow.{thing_at}
use Rattle.cd_meaning.specs.Records.{HasFieldAt}
use Rattle.cd_meaning.specs.Sets.{◌⊆◌, elements_of}
use Rattle.cd_forms.proofs.LongerGraphs.{new_node_holds}
use Rattle.cd_model.proofs.ReadHeads.{record_holds}
use Rattle.cd_model.specs.Types.{no_closure}
use Rattle.cd_operators.proofs.BuiltInNodes.{all_are_any}

abbrev something : Field
something = record { optional = false; type = ANY }

abbrev anything : Field
anything = record { optional = true; type = ANY }

abbrev pub open_at : Name → Formula
open_at label = Record ((label, something) ∷ []) ANY

module _ (graph : Graph) (begins : (more : Graph) × (graph ≡ built_ins ++ more)) where
  may_have : (fields : thing.Fields) (label : Name) → labelled graph fields label anything true
  may_have thing.NoField label = refl
  may_have (thing.Field name d rest) label =
      by_test (bytes_eq name label) (may_have rest label)
    where
      by_test : (same : Bool) → labelled graph rest label anything true
          → chosen same (answers graph d ANY true) (labelled graph rest label anything true)
      by_test true later = all_are_any graph begins d
      by_test false later = later

  has_something : (fields : thing.Fields) (label : Name) (what : Thing)
      → thing_at fields label ≡ Some what → labelled graph fields label something true
  has_something thing.NoField label what is = absurd (none-some what is)
  has_something (thing.Field name d rest) label what is =
      by_test (bytes_eq name label) is (has_something rest label what)
    where
      by_test : (same : Bool) → (if same then Some d else thing_at rest label) ≡ Some what
          → (thing_at rest label ≡ Some what → labelled graph rest label something true)
          → chosen same (answers graph d ANY true) (labelled graph rest label something true)
      by_test true is later = all_are_any graph begins d
      by_test false is later = later is

  is_there : (fields : thing.Fields) (label : Name) → labelled graph fields label something true
      → (what : Thing) × (thing_at fields label ≡ Some what)
  is_there thing.NoField label has = absurd (true≢false (sym has))
  is_there (thing.Field name d rest) label has =
      by_test (bytes_eq name label) has (is_there rest label)
    where
      by_test : (same : Bool)
          → chosen same (answers graph d ANY true) (labelled graph rest label something true)
          → (labelled graph rest label something true
          → (what : Thing) × (thing_at rest label ≡ Some what))
          → (what : Thing) × ((if same then Some d else thing_at rest label) ≡ Some what)
      by_test true has later = (d, refl)
      by_test false has later = later has

  at_itself : (label : Name) → field_of ((label, something) ∷ []) ANY label ≡ something
  at_itself label = ap (λ (same : Bool). if same then something else anything)
      ((bytes_eq-Decides label label).1 refl)

  module _ (label : Name) where
    in_open : (e : Thing) → HasFieldAt label e → holds (reader graph e) (open_at label) true
    in_open e (fields, what, same, there) =
        (record_holds graph no_closure ((label, something) ∷ []) ANY e).1
        (fields, same, λ other. by_test other (bytes_eq label other) refl)
      where
        by_test : (other : Name) (is : Bool) → bytes_eq label other ≡ is
            → labelled graph fields other (if is then something else anything) true
        by_test other true is =
            subst (λ (name : Name). labelled graph fields name something true)
            ((bytes_eq-Decides label other).0 is) (has_something fields label what there)
        by_test other false is = may_have fields other

    of_open : (e : Thing) → holds (reader graph e) (open_at label) true → HasFieldAt label e
    of_open e inside =
        let found = (record_holds graph no_closure ((label, something) ∷ []) ANY e).0 inside in
        let has = is_there found.0 label
        (subst (λ (field : Field). labelled graph found.0 label field true) (at_itself label)
        (found.2 label)) in
        (found.0, has.0, found.1, has.1)

    is_formula : IsLabel label → (count : ℕ) → 1 < count → IsFormula count (open_at label)
    is_formula is_label count below = ((is_label, tt, tt), (below, tt), below)

    any_below : 1 < length graph
    any_below = subst (λ (g : Graph). 1 < length g) (sym begins.1)
        (omega (arith, length-append built_ins begins.0))

    module _ (sound : IsGraph graph) (is_label : IsLabel label) where
      pub open_sound : AllOf (IsFormula (length graph + 1)) (open_at label ∷ [])
      open_sound = (is_formula is_label (length graph + 1) (omega (arith, any_below)), tt)

      -- it is put after the graph
      module _ (id : NodeId) (last : id.0 ≡ length graph) where
        abbrev whole : Graph
        whole = graph ++ open_at label ∷ []

        in_node : (e : Thing) → holds (reader graph e) (open_at label) true
            ↔ answers whole e id true
        in_node e = subst (λ (n : ℕ). holds (reader graph e) (open_at label) true
            ↔ answers whole e (node n) true) (sym last)
            (new_node_holds graph sound (open_at label)
            (is_formula is_label (length graph) any_below) e)

        pub open_only : elements_of whole id ⊆ HasFieldAt label
        open_only e element inside = of_open e ((in_node e).1 inside)

        pub open_all : HasFieldAt label ⊆ elements_of whole id
        open_all e element has = (in_node e).0 (in_open e has)

        pub open_below : id.0 < length whole
        open_below = omega (arith, last, length-append graph (open_at label ∷ []))
