-- A node takes the records that a pattern takes, where each of its fields takes what the pattern's
-- does.
use Rattle.std.proofs.Common.{◌≡◌, ℕ, Bool, true, false, ◌||◌, ◌&&◌, List, [], ◌∷◌, ◌++◌, ◌⊎◌, inl}
use Rattle.std.proofs.Common.{inr, Option, Some, None, option_map, refl, sym, ap, ap₂, subst, ◌∙◌}
use Rattle.std.proofs.Common.{bytes_eq, if◌then◌else◌}
use Rattle.std.proofs.lemmas.Bool.{or_parts}
use Rattle.cd_syntax.specs.Name.{Name}
use Rattle.cd_model.specs.AllOf.{AllOf}
use Rattle.cd_model.specs.Thing as thing
use Rattle.cd_model.specs.Thing.{Thing}
use Rattle.cd_model.proofs.Ones.{each_weaker}
use Rattle.cd_matching.specs.Captures.{Captures, both, if_so}
use Rattle.cd_matching.specs.Kernel as kernel
use Rattle.cd_matching.specs.Kernel.{KernelNode, KernelField, Present, Optional, Bind, Put, Pair}
use Rattle.cd_matching.specs.Kernel.{Xml, Record, on_field, on_fields, is_named, taken, taken_at}
use Rattle.cd_matching.specs.Naming.{FieldsDisjoint}
use Rattle.cd_matching.specs.Pattern as pattern
use Rattle.cd_matching.specs.Pattern.{Pattern, Patterns, NoPattern, APattern, Fields, NoField}
use Rattle.cd_matching.specs.Pattern.{Regular, Regulars, NoRegular, ARegular}
use Rattle.cd_matching.specs.Take.{at_label, take_present, take_optional}
use Rattle.cd_matching.specs.Take.{take, take_fields, all_named}
use Rattle.cd_matching.specs.Variables.{binds, fields_bind, names_label}
use Rattle.cd_matching.proofs.UnboundVariables.{Lacks, lacks}
use Rattle.cd_kernel.specs.Copies.{Types, IsAt}
use Rattle.cd_kernel.specs.Making.{IsReordered}
use Rattle.cd_kernel.proofs.AnyOrder.{EachTwo, all_both}
use Rattle.cd_kernel.proofs.AnyOrder.{HaveDisjoint, any_order}
use Rattle.cd_kernel.proofs.CapturesByName.{named, named_both, named_so}
use Rattle.cd_kernel.proofs.KeptCaptures.{kept, kept_both, kept_so, kept_lacks}
use Rattle.cd_kernel.proofs.StatesTake.{AreRight, takes_named, TakesKept}
use Rattle.cd_kernel.proofs.StatesTake.{unfolds_at}

or_between : (a b c : Bool) → (a || (b || c)) ≡ (b || (a || c))
or_between true true c = refl
or_between true false c = refl
or_between false b c = refl

-- labels
labels_put : {T : Type 0} (before after : List (Name × KernelField T)) (x : Name × KernelField T)
    (label : Name) → is_named (before ++ x ∷ after) label
    ≡ (bytes_eq x.0 label || is_named (before ++ after) label)
labels_put [] after x label = refl
labels_put (y ∷ before) after x label =
    ap (λ (b : Bool). bytes_eq y.0 label || b) (labels_put before after x label)
    ∙ or_between (bytes_eq y.0 label) (bytes_eq x.0 label) (is_named (before ++ after) label)

labels_order : {T : Type 0} (xs ys : List (Name × KernelField T)) → IsReordered xs ys
    → (label : Name) → is_named ys label ≡ is_named xs label
labels_order [] ys same label = ap (λ (l : List (Name × KernelField _)). is_named l label) same
labels_order (x ∷ xs) ys (before, after, same, rest) label =
    ap (λ (l : List (Name × KernelField _)). is_named l label) same
    ∙ labels_put before after x label
    ∙ ap (λ (b : Bool). bytes_eq x.0 label || b) (labels_order xs (before ++ after) rest label)

all_labels : {T : Type 0} (fields : Fields T) (rising : List (Name × KernelField T))
    → ((label : Name) → is_named rising label ≡ names_label fields label) → (d : thing.Fields)
    → kernel.all_named rising d ≡ all_named fields d
all_labels fields rising same thing.NoField = refl
all_labels fields rising same (thing.Field label d rest) =
    ap₂ (λ (a b : Bool). a && b) (same label) (all_labels fields rising same rest)

module _ {T : Type 0} (test : T → Thing → Bool) (types : Types T) (variables : List Name)
    (nodes : List (KernelNode T)) where
  -- each field of the kernel is as one of the pattern
  abbrev pub FieldsAlike : (keeps : Name → Bool) → Fields T → List (Name × KernelField T) → Type 0
  FieldsAlike keeps NoField written = written ≡ []
  FieldsAlike keeps (pattern.Present label p rest) written = (number : ℕ)
      × (others : List (Name × KernelField T)) × (written ≡ (label, Present number) ∷ others)
      × TakesKept test types variables nodes keeps p number × FieldsAlike keeps rest others
  FieldsAlike keeps (pattern.Optional label type rest) written =
      (others : List (Name × KernelField T)) × (written ≡ (label, Optional type) ∷ others)
      × FieldsAlike keeps rest others

  module _ (right : AreRight test types nodes) where
    abbrev taken_named : Thing → ℕ → Option (Captures Name)
    taken_named = takes_named test types variables nodes

    abbrev take_it : Pattern T → Thing → Option (Captures Name)
    take_it = take T test

    abbrev IsAlike : (Name → Bool) → Pattern T → ℕ → Type 0
    IsAlike = TakesKept test types variables nodes

    by_rule : (d : Thing) (number : ℕ) (node : KernelNode T) → IsAt nodes number node
        → taken T test nodes d number
        ≡ kernel.by_node T test nodes d (kernel.apart_of T test nodes d) (taken T test nodes d)
        (Some node)
    by_rule = unfolds_at test types variables nodes right

    module _ (keeps : Name → Bool) where
      abbrev held : Option (Captures Name) → Option (Captures Name)
      held = option_map (kept keeps)

      labels_alike : (fields : Fields T) (written : List (Name × KernelField T))
          → FieldsAlike keeps fields written → (label : Name)
          → is_named written label ≡ names_label fields label
      labels_alike NoField written same label =
          ap (λ (l : List (Name × KernelField T)). is_named l label) same
      labels_alike (pattern.Present name p rest) written (number, others, same, alike, on) label =
          ap (λ (l : List (Name × KernelField T)). is_named l label) same
          ∙ ap (λ (b : Bool). bytes_eq name label || b) (labels_alike rest others on label)
      labels_alike (pattern.Optional name type rest) written (others, same, on) label =
          ap (λ (l : List (Name × KernelField T)). is_named l label) same
          ∙ ap (λ (b : Bool). bytes_eq name label || b) (labels_alike rest others on label)

      abbrev with_taken : Thing → Thing × (ℕ → Option (Captures ℕ))
      with_taken d = (d, taken T test nodes d)

      at_labels : (fields : thing.Fields) (label : Name)
          → taken_at T test nodes fields label ≡ option_map with_taken (at_label fields label)
      at_labels thing.NoField label = refl
      at_labels (thing.Field name d rest) label =
          by_test (bytes_eq name label) (at_labels rest label)
        where
          by_test : (b : Bool)
              → taken_at T test nodes rest label ≡ option_map with_taken (at_label rest label)
              → (if b then Some (with_taken d) else taken_at T test nodes rest label)
              ≡ option_map with_taken (if b then Some d else at_label rest label)
          by_test true on = refl
          by_test false on = on

      module _ (parts : thing.Fields) where
        abbrev field_has : Name × KernelField T → Option (Captures Name)
        field_has field =
            named variables (on_field T test nodes (taken_at T test nodes parts field.0) field.1)

        abbrev fields_have : List (Name × KernelField T) → Option (Captures Name)
        fields_have = all_both field_has

        fields_named : (fields : List (Name × KernelField T))
            → named variables (on_fields T test nodes (taken_at T test nodes parts) fields)
            ≡ fields_have fields
        fields_named [] = named_so variables true
        fields_named (field ∷ fields) =
            named_both variables
            (on_field T test nodes (taken_at T test nodes parts field.0) field.1)
            (on_fields T test nodes (taken_at T test nodes parts) fields)
            ∙ ap (both (field_has field)) (fields_named fields)

        present_has : (label : Name) (p : Pattern T) (number : ℕ) → IsAlike keeps p number
            → field_has (label, Present number)
            ≡ held (take_present (take_it p) (at_label parts label))
        present_has label p number alike =
            ap (λ o. named variables (on_field T test nodes o (Present number)))
            (at_labels parts label) ∙ by_part (at_label parts label)
          where
            by_part : (o : Option Thing)
                → named variables (on_field T test nodes (option_map with_taken o) (Present number))
                ≡ held (take_present (take_it p) o)
            by_part None = refl
            by_part (Some d) = alike d

        optional_has : (label : Name) (type : T)
            → field_has (label, Optional type)
            ≡ held (take_optional (test type) (at_label parts label))
        optional_has label type =
            ap (λ o. named variables (on_field T test nodes o (Optional type)))
            (at_labels parts label) ∙ by_part (at_label parts label)
          where
            by_part : (o : Option Thing)
                → named variables (on_field T test nodes (option_map with_taken o) (Optional type))
                ≡ held (take_optional (test type) o)
            by_part None = named_so variables true ∙ sym (kept_so keeps true)
            by_part (Some d) = named_so variables (test type d) ∙ sym (kept_so keeps (test type d))

        fields_take : (fields : Fields T) (written : List (Name × KernelField T))
            → FieldsAlike keeps fields written
            → fields_have written ≡ held (take_fields T test fields parts)
        fields_take NoField written same = ap fields_have same ∙ sym (kept_so keeps true)
        fields_take (pattern.Present label p rest) written (number, others, same, alike, on) =
            ap fields_have same
            ∙ ap₂ both (present_has label p number alike) (fields_take rest others on)
            ∙ sym (kept_both keeps (take_present (take_it p) (at_label parts label))
            (take_fields T test rest parts))
        fields_take (pattern.Optional label type rest) written (others, same, on) =
            ap fields_have same
            ∙ ap₂ both (optional_has label type) (fields_take rest others on)
            ∙ sym (kept_both keeps (take_optional (test type) (at_label parts label))
            (take_fields T test rest parts))

        -- a variable that stands in no field has nothing from one
        abbrev FieldLacks : Fields T → Name × KernelField T → Type 0
        FieldLacks fields field = (name : Name) → fields_bind fields name ≡ false
            → Lacks name (field_has field)

        present_lacks : (label : Name) (p : Pattern T) (number : ℕ) → IsAlike keeps p number
            → (name : Name) → binds p name ≡ false → Lacks name (field_has (label, Present number))
        present_lacks label p number alike name none =
            subst (Lacks name) (sym (present_has label p number alike))
            (kept_lacks keeps name (take_present (take_it p) (at_label parts label))
            (by_part (at_label parts label)))
          where
            by_part : (o : Option Thing) → Lacks name (take_present (take_it p) o)
            by_part None = tt
            by_part (Some d) = lacks name T test p none d

        optional_lacks : (label : Name) (type : T) (name : Name)
            → Lacks name (field_has (label, Optional type))
        optional_lacks label type name =
            subst (Lacks name) (sym (optional_has label type)) (by_part (at_label parts label))
          where
            by_so : (b : Bool) → Lacks name (held (if_so b))
            by_so true = subst (Lacks name) (sym (kept_so keeps true)) refl
            by_so false = tt

            by_part : (o : Option Thing) → Lacks name (held (take_optional (test type) o))
            by_part None = by_so true
            by_part (Some d) = by_so (test type d)

        fields_lack : (fields : Fields T) (written : List (Name × KernelField T))
            → FieldsAlike keeps fields written → AllOf (FieldLacks fields) written
        fields_lack NoField written same = subst (AllOf (FieldLacks NoField)) (sym same) tt
        fields_lack (pattern.Present label p rest) written (number, others, same, alike, on) =
            subst (AllOf (FieldLacks (pattern.Present label p rest))) (sym same) (
              λ name none. present_lacks label p number alike name
                  (or_parts (binds p name) (fields_bind rest name) none).0,
              each_weaker (FieldLacks rest) (FieldLacks (pattern.Present label p rest))
                  (λ field lack name none. lack name
                  (or_parts (binds p name) (fields_bind rest name) none).1) others
                  (fields_lack rest others on),
            )
        fields_lack (pattern.Optional label type rest) written (others, same, on) =
            subst (AllOf (FieldLacks (pattern.Optional label type rest))) (sym same) (
              λ name none. optional_lacks label type name,
              each_weaker (FieldLacks rest) (FieldLacks (pattern.Optional label type rest))
                  (λ field lack. lack) others (fields_lack rest others on),
            )

        each_disjoint : (fields : Fields T) (written : List (Name × KernelField T))
            → FieldsAlike keeps fields written → FieldsDisjoint fields
            → EachTwo (HaveDisjoint field_has) written
        each_disjoint NoField written same apart = subst (EachTwo (HaveDisjoint field_has)) (sym same) tt
        each_disjoint (pattern.Present label p rest) written (number, others, same, alike, on) apart =
            subst (EachTwo (HaveDisjoint field_has)) (sym same) (
              each_weaker (FieldLacks rest) (HaveDisjoint field_has (label, Present number))
                  (λ field lack name. by_test field lack name (binds p name) refl) others
                  (fields_lack rest others on),
              each_disjoint rest others on apart.1,
            )
          where
            by_test : (field : Name × KernelField T) → FieldLacks rest field → (name : Name)
                → (b : Bool) → binds p name ≡ b
                → Lacks name (field_has (label, Present number)) ⊎ Lacks name (field_has field)
            by_test field lack name true bound = inr (lack name (apart.0 name bound))
            by_test field lack name false none = inl (present_lacks label p number alike name none)
        each_disjoint (pattern.Optional label type rest) written (others, same, on) apart =
            subst (EachTwo (HaveDisjoint field_has)) (sym same) (
              each_weaker (FieldLacks rest) (HaveDisjoint field_has (label, Optional type))
                  (λ field lack name. inl (optional_lacks label type name)) others
                  (fields_lack rest others on),
              each_disjoint rest others on apart,
            )

      pub record_alike : (fields : Fields T) (more : Bool) (number : ℕ)
          (written rising : List (Name × KernelField T)) → IsAt nodes number (Record rising more)
          → IsReordered written rising → FieldsDisjoint fields → FieldsAlike keeps fields written
          → IsAlike keeps (pattern.Record fields more) number
      record_alike fields more number written rising there order apart alike d =
          ap (named variables) (by_rule d number (Record rising more) there) ∙ by_thing d
        where
          by_test : (parts : thing.Fields) (b : Bool)
              → named variables
              (if b then on_fields T test nodes (taken_at T test nodes parts) rising else None)
              ≡ held (if b then take_fields T test fields parts else None)
          by_test parts false = refl
          by_test parts true = fields_named parts rising
              ∙ sym (any_order (field_has parts) written rising order
              (each_disjoint parts fields written alike apart))
              ∙ fields_take parts fields written alike

          by_more : (parts : thing.Fields) (a b : Bool) → a ≡ b
              → named variables
              (if more || a then on_fields T test nodes (taken_at T test nodes parts) rising
              else None)
              ≡ held (if more || b then take_fields T test fields parts else None)
          by_more parts a b same =
              ap (λ (c : Bool). named variables
              (if more || c then on_fields T test nodes (taken_at T test nodes parts) rising
              else None)) same ∙ by_test parts (more || b)

          by_thing : (d : Thing)
              → named variables (kernel.apart_of T test nodes d (Record rising more))
              ≡ held (take_it (pattern.Record fields more) d)
          by_thing (thing.Record parts) =
              by_more parts (kernel.all_named rising parts) (all_named fields parts)
              (all_labels fields rising (λ label. labels_order written rising order label
              ∙ labels_alike fields written alike label) parts)
          by_thing (thing.Integer n) = refl
          by_thing (thing.Character c) = refl
          by_thing (thing.Atom name) = refl
          by_thing (thing.Pair first second) = refl
          by_thing (thing.Xml tag attributes content) = refl
          by_thing (thing.Function pairs) = refl
          by_thing (thing.Closure function environment) = refl
