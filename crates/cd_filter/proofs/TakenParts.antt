-- What is taken of the parts of a record.
use Rattle.std.proofs.Common.{◌≡◌, ℕ, Bool, true, false, List, [], ◌∷◌, Option, Some, None}
use Rattle.std.proofs.Common.{option_map, refl, sym, ap, ◌∙◌, bytes_eq, if◌then◌else◌}
use Rattle.std.proofs.lemmas.Option.{none-some, same_Some}
use Rattle.cd_sets.specs.declared.node_id.NodeId.{NodeId}
use Rattle.cd_syntax.specs.Name.{Name}
use Rattle.cd_model.specs.Thing as thing
use Rattle.cd_model.specs.Thing.{Thing}
use Rattle.cd_matching.specs.Captures.{Captures, nothing}
use Rattle.cd_matching.specs.Kernel.{KernelNode, KernelField, Present, Optional, Taken, on_field}
use Rattle.cd_matching.specs.Kernel.{on_fields, taken, taken_at}
use Rattle.cd_matching.specs.Take.{at_label}
use Rattle.cd_matching.proofs.TakenCaptures.{both_some, if_so_nothing}
use Rattle.cd_filter.specs.Rows.{ArePresent}

module _ (test : NodeId → Thing → Bool) (nodes : List (KernelNode NodeId)) where
  abbrev with_taken : Thing → Thing × Taken
  with_taken d = (d, taken NodeId test nodes d)

  abbrev pub takes_at : thing.Fields → Name → Option (Thing × Taken)
  takes_at = taken_at NodeId test nodes

  abbrev pub field_takes : thing.Fields → Name × KernelField NodeId → Option (Captures ℕ)
  field_takes fields field = on_field NodeId test nodes (takes_at fields field.0) field.1

  abbrev pub fields_take : thing.Fields → List (Name × KernelField NodeId) → Option (Captures ℕ)
  fields_take fields = on_fields NodeId test nodes (takes_at fields)

  taken_label : (fields : thing.Fields) (label : Name)
      → takes_at fields label ≡ option_map with_taken (at_label fields label)
  taken_label thing.NoField label = refl
  taken_label (thing.Field name d rest) label =
      by_test (bytes_eq name label) (taken_label rest label)
    where
      by_test : (b : Bool) → takes_at rest label ≡ option_map with_taken (at_label rest label)
          → (if b then Some (with_taken d) else takes_at rest label)
          ≡ option_map with_taken (if b then Some d else at_label rest label)
      by_test true further = refl
      by_test false further = further

  -- at a label where something is, and where nothing is
  pub present_takes : (fields : thing.Fields) (label : Name) (number : ℕ) (d : Thing)
      → at_label fields label ≡ Some d
      → field_takes fields (label, Present number) ≡ taken NodeId test nodes d number
  present_takes fields label number d there =
      ap (λ o. on_field NodeId test nodes o (Present number))
      (taken_label fields label ∙ ap (option_map with_taken) there)

  pub absent_takes : (fields : thing.Fields) (label : Name) (number : ℕ)
      → at_label fields label ≡ None → field_takes fields (label, Present number) ≡ None
  absent_takes fields label number none =
      ap (λ o. on_field NodeId test nodes o (Present number))
      (taken_label fields label ∙ ap (option_map with_taken) none)

  pub optional_none : (variable : ℕ) (o : Option (Thing × Taken)) (type : NodeId)
      (captures : Captures ℕ) → on_field NodeId test nodes o (Optional type) ≡ Some captures
      → None ≡ captures variable
  optional_none variable None type captures takes =
      ap (λ (c : Captures ℕ). c variable) (same_Some nothing captures takes)
  optional_none variable (Some one) type captures takes =
      ap (λ (c : Captures ℕ). c variable) (if_so_nothing (test type one.0) captures takes)

  -- fields that are taken are present
  pub are_present : (fields : thing.Fields) (named : List (Name × KernelField NodeId))
      (all : Captures ℕ) → fields_take fields named ≡ Some all → ArePresent fields named
  are_present fields [] all takes = tt
  are_present fields ((label, Present number) ∷ named) all takes =
      let two = both_some (field_takes fields (label, Present number)) (fields_take fields named)
      all takes in
      (by_part (at_label fields label) refl two.0 two.2, are_present fields named two.1 two.3)
    where
      by_part : (o : Option Thing) → at_label fields label ≡ o → (c : Captures ℕ)
          → field_takes fields (label, Present number) ≡ Some c
          → (d : Thing) × (at_label fields label ≡ Some d)
      by_part (Some d) there c takes_c = (d, there)
      by_part None none c takes_c =
          absurd (none-some c (sym (absent_takes fields label number none) ∙ takes_c))
  are_present fields ((label, Optional type) ∷ named) all takes =
      let two = both_some (field_takes fields (label, Optional type)) (fields_take fields named)
      all takes in
      are_present fields named two.1 two.3
