-- The record type of a record node holds the records that the node takes, where the nodes of its
-- fields hold what these take.
use Rattle.std.proofs.Common.{◌≡◌, ℕ, ◌<◌, Bool, true, false, ◌||◌, ◌&&◌, List, [], ◌∷◌, length}
use Rattle.std.proofs.Common.{Option, Some, None, is_some, refl, sym, ap, subst, ◌∙◌, bytes_eq}
use Rattle.std.proofs.Common.{if◌then◌else◌}
use Rattle.std.proofs.lemmas.Bool.{true≢false}
use Rattle.std.proofs.lemmas.Option.{none-some}
use Rattle.cd_sets.specs.declared.node_id.NodeId.{NodeId}
use Rattle.cd_syntax.specs.Name.{Name}
use Rattle.cd_model.specs.AllOf.{AllOf, AnyOf}
use Rattle.cd_model.specs.BuiltIns.{ANY, EMPTY}
use Rattle.cd_model.specs.Formula as formula
use Rattle.cd_model.specs.Formula.{Graph, Formula, Field, formula_at, at_formula, holds, AreRisingLabels}
use Rattle.cd_model.specs.Formula.{nodes as at_node}
use Rattle.cd_model.specs.Thing as thing
use Rattle.cd_model.specs.Thing.{Thing}
use Rattle.cd_model.specs.Types.{Mapping, Records, absent, chosen, reader, labelled, answers}
use Rattle.cd_model.specs.Types.{field_of as type_field}
use Rattle.cd_model.proofs.Sorts.{Sort}
use Rattle.cd_matching.specs.Captures.{Captures}
use Rattle.cd_matching.specs.Kernel.{KernelNode, KernelField, Present, Optional, Record, Taken}
use Rattle.cd_matching.specs.Kernel.{field_nodes, optional_types, is_named}
use Rattle.cd_matching.specs.Kernel.{all_named, on_field, on_fields, apart_of, taken, taken_at}
use Rattle.cd_filter.specs.Accepting.{AreRight, place, field_of, fields_of, rest_of}
use Rattle.cd_filter.proofs.Combined.{is_some_so, both_answer}
use Rattle.cd_filter.proofs.NamedFields.{same_names, name_itself, split_nodes, split_types}
use Rattle.cd_filter.proofs.NamedFields.{both_of_all, any_of_all, Says, says_each, says_rest}
use Rattle.cd_filter.proofs.NamedFields.{at_named}

-- by the things of any sort
module _ (graph : Graph) (closed : ℕ → Mapping NodeId) (sort : Sort)
    (nodes : List (KernelNode NodeId)) (first : ℕ) (test : NodeId → Thing → Bool)
    (right : AreRight (answers (at_node graph) closed) sort.Of first test)
    (everything : formula_at graph ANY ≡ formula.Everything)
    (nothing_is : formula_at graph EMPTY ≡ formula.Nothing) where
  abbrev in_it : Thing → NodeId → Bool → Type 0
  in_it = answers (at_node graph) closed

  abbrev at_it : thing.Fields → Name → Field → Bool → Type 0
  at_it = labelled (at_node graph) closed

  abbrev takes : Thing → Taken
  takes = taken NodeId test nodes

  abbrev takes_at : thing.Fields → Name → Option (Thing × Taken)
  takes_at = taken_at NodeId test nodes

  abbrev pub IsAccepted : Thing → Type 0
  IsAccepted d = (number : ℕ) → number < length nodes
      → in_it d (place first number) (is_some (takes d number))

  abbrev pub AreAccepted : thing.Fields → Type 0
  AreAccepted thing.NoField = Unit {0}
  AreAccepted (thing.Field label d rest) = IsAccepted d × AreAccepted rest

  -- what a record answers at a label, by what it has there
  abbrev AnswersAt : thing.Fields → Name → Option (Thing × Taken) → Type 0
  AnswersAt fields label None =
      (field : Field) (answer : Bool) → absent field answer → at_it fields label field answer
  AnswersAt fields label (Some one) = (one.1 ≡ takes one.0) × (sort.Of one.0 × IsAccepted one.0)
      × ((field : Field) (answer : Bool) → in_it one.0 field.type answer
      → at_it fields label field answer)

  answers_at : (fields : thing.Fields) → sort.OfFields fields → AreAccepted fields
      → (label : Name) → AnswersAt fields label (takes_at fields label)
  answers_at thing.NoField sound all label = λ field answer h. h
  answers_at (thing.Field name d rest) sound all label =
      by_test (bytes_eq name label) refl (sort.field name d rest sound) (takes_at rest label)
      (answers_at rest (sort.field name d rest sound).1 all.1 label)
    where
      at_test : (b : Bool) → bytes_eq name label ≡ b → (field : Field) (answer : Bool)
          → chosen b (in_it d field.type answer) (at_it rest label field answer)
          → at_it (thing.Field name d rest) label field answer
      at_test b same field answer h = subst
          (λ b. chosen b (in_it d field.type answer) (at_it rest label field answer)) (sym same) h

      by_test : (b : Bool) → bytes_eq name label ≡ b → sort.Of d × sort.OfFields rest
          → (o : Option (Thing × Taken)) → AnswersAt rest label o
          → AnswersAt (thing.Field name d rest) label (if b then Some (d, takes d) else o)
      by_test true same sounds o further =
          (refl, (sounds.0, all.0), λ field answer h. at_test true same field answer h)
      by_test false same sounds None further =
          λ field answer h. at_test false same field answer (further field answer h)
      by_test false same sounds (Some one) (made, accepted, further) = (
        made,
        accepted,
        λ field answer h. at_test false same field answer (further field answer h),
      )

  -- a field of the node there
  field_answer : (fields : thing.Fields) (label : Name) (o : Option (Thing × Taken))
      → AnswersAt fields label o → (field : KernelField NodeId)
      → AllOf (λ number. number < length nodes) (field_nodes ((label, field) ∷ []))
      → AllOf (λ id. id.0 < first) (optional_types ((label, field) ∷ []))
      → at_it fields label (field_of first field) (is_some (on_field NodeId test nodes o field))
  field_answer fields label None on (Present number) within typed = on _ false refl
  field_answer fields label None on (Optional id) within typed = on _ true refl
  field_answer fields label (Some one) (made, accepted, on) (Present number) within typed =
      on _ _ (subst (λ (t : Taken). in_it one.0 (place first number) (is_some (t number)))
      (sym made) (accepted.1 number within.0))
  field_answer fields label (Some one) (made, accepted, on) (Optional id) within typed =
      on _ _ (subst (in_it one.0 id) (sym (is_some_so ℕ (test id one.0)))
      (right id typed.0 one.0 accepted.0))

  module _ (fields : thing.Fields)
      (on : (label : Name) → AnswersAt fields label (takes_at fields label)) where
    abbrev FieldAnswers : Bool → Name × KernelField NodeId → Type 0
    FieldAnswers answer field = at_it fields field.0 (field_of first field.1) answer

    abbrev AllOrAny : List (Name × KernelField NodeId) → Bool → Type 0
    AllOrAny named true = AllOf (FieldAnswers true) named
    AllOrAny named false = AnyOf (FieldAnswers false) named

    fields_answer : (named : List (Name × KernelField NodeId))
        → AllOf (λ number. number < length nodes) (field_nodes named)
        → AllOf (λ id. id.0 < first) (optional_types named)
        → AllOrAny named (is_some (on_fields NodeId test nodes (takes_at fields) named))
    fields_answer [] within typed = tt
    fields_answer ((label, field) ∷ named) within typed =
        let parts = split_nodes label field named (λ number. number < length nodes) within in
        let types = split_types label field named (λ id. id.0 < first) typed in
        both_answer (λ answer. FieldAnswers answer (label, field)) (AllOrAny named)
        (AllOrAny ((label, field) ∷ named))
        (on_field NodeId test nodes (takes_at fields label) field)
        (on_fields NodeId test nodes (takes_at fields) named)
        (field_answer fields label (takes_at fields label) (on label) field parts.0 types.0)
        (fields_answer named parts.1 types.1) (λ a b. (a, b)) (λ out. out)

    -- at each label
    module _ (named : List (Name × KernelField NodeId)) (rises : AreRisingLabels None named)
        (rest : NodeId) where
      abbrev AtLabel : Bool → Name → Type 0
      AtLabel answer label =
          at_it fields label (type_field (fields_of first named) rest label) answer

      any_fails : AllOrAny named false → (label : Name) × AtLabel false label
      any_fails one = any_of_all (FieldAnswers false) (Says first rest named)
          ((label : Name) × AtLabel false label)
          (λ field fails says. (
            field.0,
            subst (λ (f : Field). at_it fields field.0 f false) (sym says) fails,
          )) named one
          (says_each first rest named None rises)

      -- others are absent or in the rest
      all_hold : AllOrAny named true → ((label : Name) → is_named named label ≡ false
          → at_it fields label (record { optional = true; type = rest }) true)
          → (label : Name) → AtLabel true label
      all_hold all others label = by_named (is_named named label) refl
        where
          each_holds : AllOf (λ field. AtLabel true field.0) named
          each_holds = both_of_all (FieldAnswers true) (Says first rest named)
              (λ field. AtLabel true field.0)
              (λ field holds_ says.
              subst (λ (f : Field). at_it fields field.0 f true) (sym says) holds_) named all
              (says_each first rest named None rises)

          by_named : (b : Bool) → is_named named label ≡ b → AtLabel true label
          by_named true h = at_named (AtLabel true) named label h each_holds
          by_named false h = subst (λ (f : Field). at_it fields label f true)
              (sym (says_rest first rest named label h)) (others label h)

  -- a label that is not named
  unnamed : (named : List (Name × KernelField NodeId)) (fields : thing.Fields)
      → all_named named fields ≡ false
      → (label : Name) × (is_named named label ≡ false)
      × ((one : Thing × Taken) × (takes_at fields label ≡ Some one))
  unnamed named thing.NoField h = absurd (true≢false h)
  unnamed named (thing.Field name d rest) h =
      by_named (is_named named name) refl (unnamed named rest) h
    where
      some_one : (b : Bool) (o : Option (Thing × Taken))
          → (one : Thing × Taken) × (o ≡ Some one)
          → (one : Thing × Taken) × ((if b then Some (d, takes d) else o) ≡ Some one)
      some_one true o it = ((d, takes d), refl)
      some_one false o it = it

      by_named : (b : Bool) → is_named named name ≡ b
          → (all_named named rest ≡ false → (label : Name) × (is_named named label ≡ false)
          × ((one : Thing × Taken) × (takes_at rest label ≡ Some one)))
          → (b && all_named named rest) ≡ false
          → (label : Name) × (is_named named label ≡ false)
          × ((one : Thing × Taken) × (takes_at (thing.Field name d rest) label ≡ Some one))
      by_named false none further h = (
        name,
        none,
        (
          (d, takes d),
          ap (λ (b : Bool). if b then Some (d, takes d) else takes_at rest name) (name_itself name),
        ),
      )
      by_named true there further h = let found = further h in
          (found.0, found.1, some_one (bytes_eq name found.0) (takes_at rest found.0) found.2)

  -- where each label is named, nothing is at others
  only_named : (named : List (Name × KernelField NodeId)) (fields : thing.Fields) (label : Name)
      → all_named named fields ≡ true → is_named named label ≡ false
      → takes_at fields label ≡ None
  only_named named thing.NoField label h none = refl
  only_named named (thing.Field name d rest) label h none =
      let parts = both_true (is_named named name) (all_named named rest) h in
      ap (λ (b : Bool). if b then Some (d, takes d) else takes_at rest label)
      (differs (bytes_eq name label) refl parts.0) ∙ only_named named rest label parts.1 none
    where
      both_true : (a b : Bool) → (a && b) ≡ true → (a ≡ true) × (b ≡ true)
      both_true true b h = (refl, h)
      both_true false b h = absurd (true≢false (sym h))

      differs : (b : Bool) → bytes_eq name label ≡ b → is_named named name ≡ true
          → bytes_eq name label ≡ false
      differs false h there = h
      differs true h there = absurd (true≢false
          (sym there ∙ ap (is_named named) (same_names name label h) ∙ none))

  -- each thing is in ANY, and none in EMPTY
  in_any : (d : Thing) → in_it d ANY true
  in_any d = subst
      (λ (f : Formula). holds (at_formula (reader (at_node graph) closed d)) f true)
      (sym everything) refl

  not_in_empty : (d : Thing) → in_it d EMPTY false
  not_in_empty d = subst
      (λ (f : Formula). holds (at_formula (reader (at_node graph) closed d)) f false)
      (sym nothing_is) refl

  abbrev Reads : thing.Fields → List (Name × KernelField NodeId) → Bool → Bool → Type 0
  Reads fields named more answer = reader (at_node graph) closed (thing.Record fields)
      (Records (fields_of first named) (rest_of more)) answer

  pub records : (fields : thing.Fields) → sort.OfFields fields → AreAccepted fields
      → (named : List (Name × KernelField NodeId)) (more : Bool)
      → AllOf (λ number. number < length nodes) (field_nodes named)
      → AreRisingLabels None named → AllOf (λ id. id.0 < first) (optional_types named)
      → Reads fields named more
      (is_some (apart_of NodeId test nodes (thing.Record fields) (Record named more)))
  records fields sound all named more within rises typed =
      by_more more (all_named named fields) refl
    where
      on : (label : Name) → AnswersAt fields label (takes_at fields label)
      on = answers_at fields sound all

      any_rest : (label : Name) (o : Option (Thing × Taken)) → AnswersAt fields label o
          → at_it fields label (record { optional = true; type = ANY }) true
      any_rest label None on = on _ true refl
      any_rest label (Some one) (made, accepted, on) = on _ true (in_any one.0)

      no_rest : (label : Name) (o : Option (Thing × Taken)) → o ≡ None
          → AnswersAt fields label o
          → at_it fields label (record { optional = true; type = EMPTY }) true
      no_rest label None none on = on _ true refl
      no_rest label (Some one) some_ on = absurd (none-some one (sym some_))

      out_rest : (label : Name) (o : Option (Thing × Taken)) (one : Thing × Taken)
          → o ≡ Some one → AnswersAt fields label o
          → at_it fields label (record { optional = true; type = EMPTY }) false
      out_rest label None one none on = absurd (none-some one none)
      out_rest label (Some other) one some_ (made, accepted, on) =
          on _ false (not_in_empty other.0)

      by_some : (more : Bool) → ((label : Name) → is_named named label ≡ false
          → at_it fields label (record { optional = true; type = rest_of more }) true)
          → (o : Option (Captures ℕ)) → AllOrAny fields on named (is_some o)
          → Reads fields named more (is_some o)
      by_some more others (Some captures) all =
          all_hold fields on named rises (rest_of more) all others
      by_some more others None one = any_fails fields on named rises (rest_of more) one

      answered : AllOrAny fields on named
          (is_some (on_fields NodeId test nodes (takes_at fields) named))
      answered = fields_answer fields on named within typed

      by_more : (more b : Bool) → all_named named fields ≡ b
          → Reads fields named more (is_some (if more || b
          then on_fields NodeId test nodes (takes_at fields) named else None))
      by_more true b h = by_some true
          (λ label none. any_rest label (takes_at fields label) (on label))
          (on_fields NodeId test nodes (takes_at fields) named) answered
      by_more false true h = by_some false
          (λ label none. no_rest label (takes_at fields label)
          (only_named named fields label h none) (on label))
          (on_fields NodeId test nodes (takes_at fields) named) answered
      by_more false false h = let found = unnamed named fields h in (
        found.0,
        subst (λ (f : Field). at_it fields found.0 f false)
            (sym (says_rest first EMPTY named found.0 found.1))
            (out_rest found.0 (takes_at fields found.0) found.2.0 found.2.1 (on found.0)),
      )
