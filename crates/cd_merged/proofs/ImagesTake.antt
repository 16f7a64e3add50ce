-- Images take the same, with the same captures.
use Rattle.std.proofs.Common.{◌≡◌, ℕ, zero, suc, ◌<◌, Bool, true, false, ◌||◌, List, [], ◌∷◌, map}
use Rattle.std.proofs.Common.{length, Option, Some, None, option_map, refl, sym, ap, ap₂}
use Rattle.std.proofs.Common.{◌∙◌, arith, bytes_eq, if◌then◌else◌}
use Rattle.std.specs.List.{slice_get}
use Rattle.std.proofs.lemmas.Option.{slice_get_within}
use Rattle.cd_syntax.specs.Name.{Name}
use Rattle.cd_model.specs.AllOf.{AllOf}
use Rattle.cd_model.specs.Thing as thing
use Rattle.cd_model.specs.Thing.{Thing}
use Rattle.cd_model.proofs.Ones.{each_weaker}
use Rattle.cd_matching.specs.Captures.{Captures, or_else, both}
use Rattle.cd_matching.specs.Kernel.{KernelNode, KernelField, Present, Optional, Test, Bind, Put}
use Rattle.cd_matching.specs.Kernel.{Pair, Xml, Record, Both, First, Gather, leads_to, gathered}
use Rattle.cd_matching.specs.Kernel.{Taken, Ends, Labelled, Apart, no_parts, on_pair, on_xml}
use Rattle.cd_matching.specs.Kernel.{on_field, on_fields, on_record, by_node, in_a_row, apart_of}
use Rattle.cd_matching.specs.Kernel.{taken, taken_at}
use Rattle.cd_matching.proofs.Unfolding.{unfolds}
use Rattle.cd_merged.specs.Merged.{renamed, renamed_field, renamed_kind, AreImages}
use Rattle.cd_merged.proofs.FallingEnds.{falling_ends}
use Rattle.cd_merged.proofs.Renaming.{all_named_kept}

module _ {T : Type 0} (test : T → Thing → Bool) (class : ℕ → ℕ) (nodes merged : List (KernelNode T))
  where
    -- what is answered at each number and at its class
    abbrev TakeAlike : (one other : Taken) → Type 0
    TakeAlike one other = (number : ℕ) → one (class number) ≡ other number

    abbrev ApartAlike : (one other : Apart T) → Type 0
    ApartAlike one other = (node : KernelNode T) → one (renamed class node) ≡ other node

    abbrev AlikeAt : (one other : Option (Thing × Taken)) → Type 0
    AlikeAt None None = Unit {0}
    AlikeAt (Some d) (Some e) = (d.0 ≡ e.0) × TakeAlike d.1 e.1
    AlikeAt _ _ = ⊥

    by_nodes : (d : Thing) (apart_one apart_other : Apart T) → ApartAlike apart_one apart_other
        → (one other : Taken) (node : KernelNode T)
        → AllOf (λ next. one (class next) ≡ other next) (leads_to node)
        → by_node T test merged d apart_one one (Some (renamed class node))
        ≡ by_node T test nodes d apart_other other (Some node)
    by_nodes d apart_one apart_other apart one other (Test type) same = refl
    by_nodes d apart_one apart_other apart one other (Bind variable) same = refl
    by_nodes d apart_one apart_other apart one other (Put variable constant) same = refl
    by_nodes d apart_one apart_other apart one other (Both first second) same =
        ap₂ both same.0 same.1.0
    by_nodes d apart_one apart_other apart one other (First first second) same =
        ap₂ or_else same.0 same.1.0
    by_nodes d apart_one apart_other apart one other (Pair first second) same =
        apart (Pair first second)
    by_nodes d apart_one apart_other apart one other (Xml tag attributes content) same =
        apart (Xml tag attributes content)
    by_nodes d apart_one apart_other apart one other (Record fields more) same =
        apart (Record fields more)
    by_nodes d apart_one apart_other apart one other (Gather variable first second) same =
        apart (Gather variable first second)

    -- things without parts, pairs, XML things and records
    no_parts_alike : ApartAlike no_parts no_parts
    no_parts_alike node = refl

    pair_alike : (first : Thing) (one other same next : Taken) → TakeAlike one same
        → TakeAlike other next → ApartAlike (on_pair first one other) (on_pair first same next)
    pair_alike first one other same next a b (Test type) = refl
    pair_alike first one other same next a b (Bind variable) = refl
    pair_alike first one other same next a b (Put variable constant) = refl
    pair_alike first one other same next a b (Pair p q) = ap₂ both (a p) (b q)
    pair_alike first one other same next a b (Xml p q r) = refl
    pair_alike first one other same next a b (Record fields more) = refl
    pair_alike first one other same next a b (Both p q) = refl
    pair_alike first one other same next a b (First p q) = refl
    pair_alike first one other same next a b (Gather variable p q) =
        ap₂ (gathered variable first) (a p) (b q)

    xml_alike : (one other last same next end : Taken) → TakeAlike one same
        → TakeAlike other next → TakeAlike last end
        → ApartAlike (on_xml one other last) (on_xml same next end)
    xml_alike one other last same next end a b c (Test type) = refl
    xml_alike one other last same next end a b c (Bind variable) = refl
    xml_alike one other last same next end a b c (Put variable constant) = refl
    xml_alike one other last same next end a b c (Pair p q) = refl
    xml_alike one other last same next end a b c (Xml p q r) =
        ap₂ both (a p) (ap₂ both (b q) (c r))
    xml_alike one other last same next end a b c (Record fields more) = refl
    xml_alike one other last same next end a b c (Both p q) = refl
    xml_alike one other last same next end a b c (First p q) = refl
    xml_alike one other last same next end a b c (Gather variable p q) = refl

    field_alike : (one other : Option (Thing × Taken)) (kind : KernelField T) → AlikeAt one other
        → on_field T test merged one (renamed_kind class kind) ≡ on_field T test nodes other kind
    field_alike None None (Present node) same = refl
    field_alike None None (Optional type) same = refl
    field_alike (Some d) (Some e) (Present node) same = same.1 node
    field_alike (Some d) (Some e) (Optional type) same = cc (same.0)
    field_alike None (Some e) kind same = absurd same
    field_alike (Some d) None kind same = absurd same

    fields_alike : (one other : Labelled) → ((label : Name) → AlikeAt (one label) (other label))
        → (fields : List (Name × KernelField T))
        → on_fields T test merged one (map (renamed_field class) fields)
        ≡ on_fields T test nodes other fields
    fields_alike one other same [] = refl
    fields_alike one other same (field ∷ fields) =
        ap₂ both (field_alike (one field.0) (other field.0) field.1 (same field.0))
        (fields_alike one other same fields)

    record_alike : (those : thing.Fields) (one other : Labelled)
        → ((label : Name) → AlikeAt (one label) (other label))
        → ApartAlike (on_record T test merged those one) (on_record T test nodes those other)
    record_alike those one other same (Test type) = refl
    record_alike those one other same (Bind variable) = refl
    record_alike those one other same (Put variable constant) = refl
    record_alike those one other same (Pair p q) = refl
    record_alike those one other same (Xml p q r) = refl
    record_alike those one other same (Record fields more) =
        ap₂ (λ (b : Bool) (all : Option (Captures ℕ)). if b then all else None)
        (ap (λ b. more || b) (all_named_kept class fields those))
        (fields_alike one other same fields)
    record_alike those one other same (Both p q) = refl
    record_alike those one other same (First p q) = refl
    record_alike those one other same (Gather variable p q) = refl

    module _ (are : AreImages class nodes merged) where
      taken_is : (all : List (KernelNode T)) (d : Thing) (number : ℕ) → taken T test all d number
          ≡ in_a_row T test all d (apart_of T test all d) (length all) number
      taken_is all (thing.Integer n) number = refl
      taken_is all (thing.Character c) number = refl
      taken_is all (thing.Atom name) number = refl
      taken_is all (thing.Pair d e) number = refl
      taken_is all (thing.Xml d e f) number = refl
      taken_is all (thing.Record fields) number = refl
      taken_is all (thing.Function pairs) number = refl
      taken_is all (thing.Closure function environment) number = refl

      -- a number that names no node takes nothing
      nowhere_in : (all : List (KernelNode T)) (d : Thing) (apart : Apart T) (steps number : ℕ)
          → slice_get all number ≡ None → in_a_row T test all d apart steps number ≡ None
      nowhere_in all d apart zero number none = refl
      nowhere_in all d apart (suc steps) number none =
          ap (by_node T test all d apart (in_a_row T test all d apart steps)) none

      nowhere : (all : List (KernelNode T)) (d : Thing) (number : ℕ) → slice_get all number ≡ None
          → taken T test all d number ≡ None
      nowhere all d number none = taken_is all d number
          ∙ nowhere_in all d (apart_of T test all d) (length all) number none

      rule_at : (all : List (KernelNode T))
          → ((number : ℕ) → number < length all → Ends all (length all) number) → (d : Thing)
          (number : ℕ) (node : KernelNode T) → slice_get all number ≡ Some node
          → taken T test all d number
          ≡ by_node T test all d (apart_of T test all d) (taken T test all d) (Some node)
      rule_at all ends d number node there =
          unfolds T test all d number (ends number (slice_get_within all number node there))
          ∙ ap (by_node T test all d (apart_of T test all d) (taken T test all d)) there

      module _ (d : Thing)
          (apart : ApartAlike (apart_of T test merged d) (apart_of T test nodes d)) where
        at_node : (number : ℕ) (node : Option (KernelNode T)) → slice_get nodes number ≡ node
            → ((next : ℕ) → next < number
            → taken T test merged d (class next) ≡ taken T test nodes d next)
            → taken T test merged d (class number) ≡ taken T test nodes d number
        at_node number None there before =
            nowhere merged d (class number)
            (are.images number ∙ ap (option_map (renamed class)) there)
            ∙ sym (nowhere nodes d number there)
        at_node number (Some node) there before =
            rule_at merged (falling_ends merged are.merged_falling) d (class number)
            (renamed class node) (are.images number ∙ ap (option_map (renamed class)) there)
            ∙ by_nodes d (apart_of T test merged d) (apart_of T test nodes d) apart
            (taken T test merged d) (taken T test nodes d) node
            (each_weaker (λ next. next < number)
            (λ next. taken T test merged d (class next) ≡ taken T test nodes d next) before
            (leads_to node) (are.falling number node there))
            ∙ sym (rule_at nodes (falling_ends nodes are.falling) d number node there)

        below : (bound number : ℕ) → number < bound
            → taken T test merged d (class number) ≡ taken T test nodes d number
        below zero number less = absurd (omega (arith, less))
        below (suc bound) number less = at_node number (slice_get nodes number) refl
            (λ next earlier. below bound next (omega (arith, less, earlier)))

        alike : TakeAlike (taken T test merged d) (taken T test nodes d)
        alike number = below (suc number) number (omega arith)

      at_label : (b : Bool) (d : Thing) (one other : Option (Thing × Taken))
          → TakeAlike (taken T test merged d) (taken T test nodes d) → AlikeAt one other
          → AlikeAt (if b then Some (d, taken T test merged d) else one)
          (if b then Some (d, taken T test nodes d) else other)
      at_label true d one other same rest = (refl, same)
      at_label false d one other same rest = rest

      mutual
        pub images_take : (d : Thing) (number : ℕ)
            → taken T test merged d (class number) ≡ taken T test nodes d number
        images_take (thing.Integer n) = alike (thing.Integer n) no_parts_alike
        images_take (thing.Character c) = alike (thing.Character c) no_parts_alike
        images_take (thing.Atom name) = alike (thing.Atom name) no_parts_alike
        images_take (thing.Function pairs) = alike (thing.Function pairs) no_parts_alike
        images_take (thing.Closure function environment) =
            alike (thing.Closure function environment) no_parts_alike
        images_take (thing.Pair d e) = alike (thing.Pair d e)
            (pair_alike d (taken T test merged d) (taken T test merged e) (taken T test nodes d)
            (taken T test nodes e) (images_take d) (images_take e))
        images_take (thing.Xml d e f) = alike (thing.Xml d e f)
            (xml_alike (taken T test merged d) (taken T test merged e) (taken T test merged f)
            (taken T test nodes d) (taken T test nodes e) (taken T test nodes f) (images_take d)
            (images_take e) (images_take f))
        images_take (thing.Record fields) = alike (thing.Record fields)
            (record_alike fields (taken_at T test merged fields) (taken_at T test nodes fields)
            (fields_take fields))

        fields_take : (fields : thing.Fields) (label : Name)
            → AlikeAt (taken_at T test merged fields label) (taken_at T test nodes fields label)
        fields_take thing.NoField label = tt
        fields_take (thing.Field name d rest) label =
            at_label (bytes_eq name label) d (taken_at T test merged rest label)
            (taken_at T test nodes rest label) (images_take d) (fields_take rest label)
