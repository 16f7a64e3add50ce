-- What each node of a kernel takes, and how much work it is, where each way through Both and First ends.
use Rattle.std.proofs.Common.{◌≡◌, ℕ, zero, suc, ◌<◌, Bool, List, length, ◌⊎◌, inl, inr, Option, Some, None, refl, sym, ap, ◌∙◌}
use Rattle.std.proofs.Common.{subst₂, ◌||◌, if◌then◌else◌}
use Rattle.std.proofs.lemmas.Option.{slice_get_cases, none-some, same_Some}
use Rattle.std.specs.List.{slice_get}
use Rattle.cd_sets.specs.declared.node_id.NodeId.{NodeId}
use Rattle.cd_model.specs.Thing as thing
use Rattle.cd_model.specs.Thing.{Thing}
use Rattle.cd_matching.specs.Captures.{Captures, both}
use Rattle.cd_matching.specs.Kernel as kernel
use Rattle.cd_matching.specs.Kernel.{Ends, EachEnds, leads_to, Apart, apart_of, by_node, in_a_row, taken, taken_at, on_fields, all_named}
use Rattle.cd_matching.proofs.Unfolding.{unfolds}
use Rattle.cd_taking.specs.declared.node_parts.PairNode.{PairNode}
use Rattle.cd_taking.specs.Inner.Machine.{as_pair, as_xml, as_record, Node, Named, pair_node, xml_node, record_node}
use Rattle.cd_taking.specs.Inner.Meaning.{join_second}

module _ (nodes : List Node) (ends : (number : ℕ) → number < length nodes → Ends nodes (length nodes) number) where
  -- a number that names a node, or none
  abbrev IsThere : ℕ → Type 0
  IsThere number = (Ends nodes (length nodes) number) ⊎ (slice_get nodes number ≡ None)

  is_there : (number : ℕ) → IsThere number
  is_there number = elim (slice_get_cases nodes number).1 [
    | inl found ↦ inl (ends number found.1)
    | inr past ↦ inr past.1
  ]

  module _ (test : NodeId → Thing → Bool) where
    none_in_a_row : (d : Thing) (apart : Apart NodeId) (steps number : ℕ) → slice_get nodes number ≡ None
        → in_a_row NodeId test nodes d apart steps number ≡ None
    none_in_a_row d apart zero number none = refl
    none_in_a_row d apart (suc steps) number none =
        ap (by_node NodeId test nodes d apart (in_a_row NodeId test nodes d apart steps)) none

    none_there : (d : Thing) (number : ℕ) → slice_get nodes number ≡ None → taken NodeId test nodes d number ≡ None
    none_there (thing.Pair first second) number none = none_in_a_row _ (apart_of NodeId test nodes (thing.Pair first second)) (length nodes) number none
    none_there (thing.Xml tag attributes content) number none =
        none_in_a_row _ (apart_of NodeId test nodes (thing.Xml tag attributes content)) (length nodes) number none
    none_there (thing.Record fields) number none = none_in_a_row _ (apart_of NodeId test nodes (thing.Record fields)) (length nodes) number none
    none_there (thing.Integer n) number none = none_in_a_row _ (apart_of NodeId test nodes (thing.Integer n)) (length nodes) number none
    none_there (thing.Character c) number none = none_in_a_row _ (apart_of NodeId test nodes (thing.Character c)) (length nodes) number none
    none_there (thing.Atom name) number none = none_in_a_row _ (apart_of NodeId test nodes (thing.Atom name)) (length nodes) number none
    none_there (thing.Function pairs) number none = none_in_a_row _ (apart_of NodeId test nodes (thing.Function pairs)) (length nodes) number none
    none_there (thing.Closure function environment) number none =
        none_in_a_row _ (apart_of NodeId test nodes (thing.Closure function environment)) (length nodes) number none

    -- each number is read by one rule
    abbrev pub by : Thing → Option Node → Option (Captures ℕ)
    by d = by_node NodeId test nodes d (apart_of NodeId test nodes d) (taken NodeId test nodes d)

    pub takes_by : (d : Thing) (number : ℕ) (found : Option Node) → slice_get nodes number ≡ found
        → taken NodeId test nodes d number ≡ by_node NodeId test nodes d (apart_of NodeId test nodes d) (taken NodeId test nodes d) found
    takes_by d number found is = elim (is_there number) [
      | inl there ↦ unfolds NodeId test nodes d number there ∙ ap (by d) is
      | inr none ↦ none_there d number none ∙ sym (ap (by d) (sym is ∙ none))
    ]

    -- a node of pairs, of XML things and of records
    pub of_pair : (d : Thing) (node : Option Node) (parts : PairNode) (pair : Thing × Thing) → pair_node node ≡ Some parts → as_pair d ≡ Some pair
        → by d node
        ≡ join_second parts.variable pair.0 (taken NodeId test nodes pair.0 parts.first) (taken NodeId test nodes pair.1 parts.second)
    of_pair (thing.Pair a b) (Some (kernel.Pair p q)) parts pair h g = subst₂
        (λ (parts : PairNode) (pair : Thing × Thing). both (taken NodeId test nodes a p) (taken NodeId test nodes b q)
        ≡ join_second parts.variable pair.0 (taken NodeId test nodes pair.0 parts.first) (taken NodeId test nodes pair.1 parts.second))
        (same_Some _ parts h) (same_Some _ pair g) refl
    of_pair (thing.Pair a b) (Some (kernel.Gather variable p q)) parts pair h g = subst₂
        (λ (parts : PairNode) (pair : Thing × Thing). kernel.gathered variable a (taken NodeId test nodes a p) (taken NodeId test nodes b q)
        ≡ join_second parts.variable pair.0 (taken NodeId test nodes pair.0 parts.first) (taken NodeId test nodes pair.1 parts.second))
        (same_Some _ parts h) (same_Some _ pair g) refl
    of_pair (thing.Pair a b) _ parts pair h g = absurd (none-some parts h)
    of_pair _ _ parts pair h g = absurd (none-some pair g)

    pub of_no_pair : (d : Thing) (node : Option Node) (parts : PairNode) → pair_node node ≡ Some parts → as_pair d ≡ None
        → by d node ≡ None
    of_no_pair (thing.Pair a b) _ parts h g = absurd (none-some _ (sym g))
    of_no_pair (thing.Xml a b c) (Some (kernel.Pair p q)) parts h g = refl
    of_no_pair (thing.Xml a b c) (Some (kernel.Gather variable p q)) parts h g = refl
    of_no_pair (thing.Xml a b c) _ parts h g = absurd (none-some parts h)
    of_no_pair (thing.Record fields) (Some (kernel.Pair p q)) parts h g = refl
    of_no_pair (thing.Record fields) (Some (kernel.Gather variable p q)) parts h g = refl
    of_no_pair (thing.Record fields) _ parts h g = absurd (none-some parts h)
    of_no_pair _ (Some (kernel.Pair p q)) parts h g = refl
    of_no_pair _ (Some (kernel.Gather variable p q)) parts h g = refl
    of_no_pair _ _ parts h g = absurd (none-some parts h)

    pub of_xml : (d : Thing) (node : Option Node) (parts : ℕ × ℕ × ℕ) (xml : Thing × Thing × Thing) → xml_node node ≡ Some parts → as_xml d ≡ Some xml
        → by d node
        ≡ both (taken NodeId test nodes xml.0 parts.0) (both (taken NodeId test nodes xml.1 parts.1) (taken NodeId test nodes xml.2 parts.2))
    of_xml (thing.Xml a b c) (Some (kernel.Xml p q r)) parts xml h g = subst₂
        (λ (parts : ℕ × ℕ × ℕ) (xml : Thing × Thing × Thing). both (taken NodeId test nodes a p) (both (taken NodeId test nodes b q) (taken NodeId test nodes c r))
        ≡ both (taken NodeId test nodes xml.0 parts.0) (both (taken NodeId test nodes xml.1 parts.1) (taken NodeId test nodes xml.2 parts.2)))
        (same_Some _ parts h) (same_Some _ xml g) refl
    of_xml (thing.Xml a b c) _ parts xml h g = absurd (none-some parts h)
    of_xml _ _ parts xml h g = absurd (none-some xml g)

    pub of_no_xml : (d : Thing) (node : Option Node) (parts : ℕ × ℕ × ℕ) → xml_node node ≡ Some parts → as_xml d ≡ None
        → by d node ≡ None
    of_no_xml (thing.Xml a b c) _ parts h g = absurd (none-some _ (sym g))
    of_no_xml (thing.Pair a b) (Some (kernel.Xml p q r)) parts h g = refl
    of_no_xml (thing.Pair a b) _ parts h g = absurd (none-some parts h)
    of_no_xml (thing.Record fields) (Some (kernel.Xml p q r)) parts h g = refl
    of_no_xml (thing.Record fields) _ parts h g = absurd (none-some parts h)
    of_no_xml _ (Some (kernel.Xml p q r)) parts h g = refl
    of_no_xml _ _ parts h g = absurd (none-some parts h)

    pub of_record : (d : Thing) (node : Option Node) (parts : Named × Bool) (fields : thing.Fields) → record_node node ≡ Some parts → as_record d ≡ Some fields
        → by d node ≡ (if parts.1 || all_named parts.0 fields then on_fields NodeId test nodes (taken_at NodeId test nodes fields) parts.0 else None)
    of_record (thing.Record fields) (Some (kernel.Record named more)) parts others h g = subst₂
        (λ (parts : Named × Bool) (others : thing.Fields).
        (if more || all_named named fields then on_fields NodeId test nodes (taken_at NodeId test nodes fields) named else None)
        ≡ (if parts.1 || all_named parts.0 others then on_fields NodeId test nodes (taken_at NodeId test nodes others) parts.0 else None))
        (same_Some _ parts h) (same_Some _ others g) refl
    of_record (thing.Record fields) _ parts others h g = absurd (none-some parts h)
    of_record _ _ parts others h g = absurd (none-some others g)

    pub of_no_record : (d : Thing) (node : Option Node) (parts : Named × Bool) → record_node node ≡ Some parts → as_record d ≡ None
        → by d node ≡ None
    of_no_record (thing.Record fields) _ parts h g = absurd (none-some _ (sym g))
    of_no_record (thing.Pair a b) (Some (kernel.Record named more)) parts h g = refl
    of_no_record (thing.Pair a b) _ parts h g = absurd (none-some parts h)
    of_no_record (thing.Xml a b c) (Some (kernel.Record named more)) parts h g = refl
    of_no_record (thing.Xml a b c) _ parts h g = absurd (none-some parts h)
    of_no_record _ (Some (kernel.Record named more)) parts h g = refl
    of_no_record _ _ parts h g = absurd (none-some parts h)
