-- The fields of a record one by one.
use Rattle.std.proofs.Common.{◌≡◌, ℕ, ◌+◌, ◌<◌, ◌≤◌, arith, Bool, true, false, List, ◌∷◌, length, drop, inl, inr, Option, Some, None, option_map}
use Rattle.std.proofs.Common.{refl, sym, ap, ap₂, ◌∙◌, subst, get_or, add-one, bytes_eq, if◌then◌else◌}
use Rattle.std.proofs.Math.Seq.{drop-cons}
use Rattle.std.proofs.lemmas.List.{drop_all}
use Rattle.std.proofs.lemmas.Option.{slice_get_cases}
use Rattle.std.specs.List.{slice_get}
use Rattle.cd_sets.specs.declared.node_id.NodeId.{NodeId}
use Rattle.cd_syntax.specs.Name.{Name}
use Rattle.cd_model.specs.Thing as thing
use Rattle.cd_model.specs.Thing.{Thing}
use Rattle.cd_matching.specs.Captures.{Captures, nothing, both, if_so}
use Rattle.cd_matching.specs.Kernel.{KernelField, Present, Optional, Taken, taken, taken_at, on_field, on_fields}
use Rattle.cd_matching.specs.Take.{at_label}
use Rattle.cd_taking.specs.Inner.Machine.{Node, Named, FieldWork, Ends, Lacks, Passes, Asks, Looks, field_work, next_field, work_at}
use Rattle.cd_taking.specs.Inner.Meaning.{rest_of_fields}
use Rattle.cd_taking.specs.Inner.Work.{Effort, effort, effort_at, field_effort, fields_work, fields_effort}
use Rattle.cd_taking.proofs.Joining.{both_nothing}

module _ {X : Type 0} where
  -- the items from a place on
  drop_at : (xs : List X) (i : ℕ) (x : X) → i < length xs → get_or xs i x ≡ x → drop i xs ≡ x ∷ drop (i + 1) xs
  drop_at xs i x within is = drop-cons xs i x within ∙ ap₂ (λ y k. y ∷ drop k xs) is (sym (add-one i))

module _ (nodes : List Node) where
  -- the work of a field
  abbrev pub work_gives : FieldWork → ℕ → ℕ
  work_gives Ends next = 1
  work_gives Lacks next = 1
  work_gives Passes next = 3 + next
  work_gives (Asks type e) next = 3 + next
  work_gives (Looks e number) next = 3 + (effort nodes e number + next)

  effort_is : (b : Bool) (d : Thing) (o : Option Effort) (p : Option Thing) → o ≡ option_map (effort nodes) p
      → (if b then Some (effort nodes d) else o) ≡ option_map (effort nodes) (if b then Some d else p)
  effort_is true d o p same = refl
  effort_is false d o p same = same

  effort_at_label : (fields : thing.Fields) (label : Name) → effort_at nodes fields label ≡ option_map (effort nodes) (at_label fields label)
  effort_at_label thing.NoField label = refl
  effort_at_label (thing.Field name d rest) label =
      effort_is (bytes_eq name label) d (effort_at nodes rest label) (at_label rest label) (effort_at_label rest label)

  work_of_kind : (kind : KernelField NodeId) (o : Option Thing) (next : ℕ)
      → work_gives (field_work kind o) next ≤ 3 + (field_effort kind (option_map (effort nodes) o) + next)
  work_of_kind (Present node) None next = omega arith
  work_of_kind (Present node) (Some d) next = omega arith
  work_of_kind (Optional type) None next = omega arith
  work_of_kind (Optional type) (Some d) next = omega arith

  module _ (fields : thing.Fields) (node : Named × Bool) (index : ℕ) where
    abbrev left : ℕ → ℕ
    left from = fields_work (effort_at nodes fields) (drop from node.0)

    -- the work of the next field, and then of those after it
    next_work : work_gives (next_field fields (slice_get node.0 index)) (left (index + 1)) ≤ left index
    next_work = elim (slice_get_cases node.0 index).1 [
      | inl found ↦
          let x : Name × KernelField NodeId = found.0 in
          let one : work_gives (field_work x.1 (at_label fields x.0)) (left (index + 1))
          ≤ 3 + (field_effort x.1 (option_map (effort nodes) (at_label fields x.0)) + left (index + 1)) =
          work_of_kind x.1 (at_label fields x.0) (left (index + 1)) in
          let here : left index ≡ 3 + (field_effort x.1 (effort_at nodes fields x.0) + left (index + 1)) =
          ap (fields_work (effort_at nodes fields)) (drop_at node.0 index x found.1 found.3) in
          let same : field_effort x.1 (effort_at nodes fields x.0) ≡ field_effort x.1 (option_map (effort nodes) (at_label fields x.0)) =
          ap (field_effort x.1) (effort_at_label fields x.0) in
          subst (λ o. work_gives (next_field fields o) (left (index + 1)) ≤ left index) (sym found.2) (omega (arith, one, here, same))
      | inr past ↦
          let here : left index ≡ 1 = ap (fields_work (effort_at nodes fields)) (drop_all index node.0 past.0) in
          subst (λ o. work_gives (next_field fields o) (left (index + 1)) ≤ left index) (sym past.1) (omega (arith, here))
    ]

  pub fields_fall : (fields : Option thing.Fields) (node : Option (Named × Bool)) (index : ℕ)
      → work_gives (work_at fields node index) (fields_effort nodes fields node (index + 1)) ≤ fields_effort nodes fields node index
  fields_fall (Some fields) (Some node) index = next_work fields node index
  fields_fall (Some fields) None index = omega arith
  fields_fall None _ index = omega arith

  module _ (test : NodeId → Thing → Bool) where
    -- the captures of a field, and of those after it
    abbrev pub field_gives : FieldWork → Option (Captures ℕ) → Option (Captures ℕ)
    field_gives Ends next = Some nothing
    field_gives Lacks next = None
    field_gives Passes next = next
    field_gives (Asks type e) next = both (if_so (test type e)) next
    field_gives (Looks e number) next = both (taken NodeId test nodes e number) next

    abbrev with_taken : Option Thing → Option (Thing × Taken)
    with_taken None = None
    with_taken (Some d) = Some (d, taken NodeId test nodes d)

    taken_is : (b : Bool) (d : Thing) (o : Option (Thing × Taken)) (p : Option Thing) → o ≡ with_taken p
        → (if b then Some (d, taken NodeId test nodes d) else o) ≡ with_taken (if b then Some d else p)
    taken_is true d o p same = refl
    taken_is false d o p same = same

    taken_at_label : (fields : thing.Fields) (label : Name) → taken_at NodeId test nodes fields label ≡ with_taken (at_label fields label)
    taken_at_label thing.NoField label = refl
    taken_at_label (thing.Field name d rest) label =
        taken_is (bytes_eq name label) d (taken_at NodeId test nodes rest label) (at_label rest label) (taken_at_label rest label)

    of_kind : (kind : KernelField NodeId) (o : Option Thing) (next : Option (Captures ℕ))
        → both (on_field NodeId test nodes (with_taken o) kind) next ≡ field_gives (field_work kind o) next
    of_kind (Present node) None next = refl
    of_kind (Present node) (Some d) next = refl
    of_kind (Optional type) None next = both_nothing next
    of_kind (Optional type) (Some d) next = refl

    module _ (fields : thing.Fields) (node : Named × Bool) (index : ℕ) where
      abbrev rest : ℕ → Option (Captures ℕ)
      rest from = on_fields NodeId test nodes (taken_at NodeId test nodes fields) (drop from node.0)

      next_gives : rest index ≡ field_gives (next_field fields (slice_get node.0 index)) (rest (index + 1))
      next_gives = elim (slice_get_cases node.0 index).1 [
        | inl found ↦
            let x : Name × KernelField NodeId = found.0 in
            ap (on_fields NodeId test nodes (taken_at NodeId test nodes fields)) (drop_at node.0 index x found.1 found.3)
            ∙ ap (λ o. both (on_field NodeId test nodes o x.1) (rest (index + 1))) (taken_at_label fields x.0)
            ∙ of_kind x.1 (at_label fields x.0) (rest (index + 1))
            ∙ ap (λ o. field_gives (next_field fields o) (rest (index + 1))) (sym found.2)
        | inr past ↦
            ap (on_fields NodeId test nodes (taken_at NodeId test nodes fields)) (drop_all index node.0 past.0)
            ∙ ap (λ o. field_gives (next_field fields o) (rest (index + 1))) (sym past.1)
      ]

    pub fields_give : (fields : Option thing.Fields) (node : Option (Named × Bool)) (index : ℕ)
        → rest_of_fields test nodes fields node index ≡ field_gives (work_at fields node index) (rest_of_fields test nodes fields node (index + 1))
    fields_give (Some fields) (Some node) index = next_gives fields node index
    fields_give (Some fields) None index = refl
    fields_give None _ index = refl
