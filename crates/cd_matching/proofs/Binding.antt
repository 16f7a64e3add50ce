-- A variable that captures something where a node takes a thing is bound by the node.
use Rattle.std.proofs.Common.{◌≡◌, ℕ, zero, suc, ◌<◌, Bool, true, false, ◌||◌, List, [], ◌∷◌, ◌++◌}
use Rattle.std.proofs.Common.{◌⊎◌, inl, inr, length, Option, Some, None, option_map, refl, sym, ap}
use Rattle.std.proofs.Common.{◌∙◌, eqb, if◌then◌else◌, bytes_eq}
use Rattle.std.specs.List.{slice_get}
use Rattle.std.proofs.lemmas.Option.{none-some, same_Some}
use Rattle.std.proofs.lemmas.Bool.Decides.{eqb_tells}
use Rattle.cd_syntax.specs.Name.{Name}
use Rattle.cd_model.specs.AllOf.{AllOf, AnyOf}
use Rattle.cd_model.specs.Thing as thing
use Rattle.cd_model.specs.Thing.{Thing}
use Rattle.cd_model.proofs.ByNumber.{all_got}
use Rattle.cd_matching.specs.Captures.{Captures, joined, both, if_so}
use Rattle.cd_matching.specs.Kernel.{KernelNode, KernelField, Present, Optional, Test, Bind, Put}
use Rattle.cd_matching.specs.Kernel.{Pair, Xml, Record, Both, First, Gather, leads_to, parts_of}
use Rattle.cd_matching.specs.Kernel.{field_nodes, Ends, EachEnds, Binds, itself, further, Taken}
use Rattle.cd_matching.specs.Kernel.{Labelled, just, before, on_field, on_fields, all_named}
use Rattle.cd_matching.specs.Kernel.{by_node, apart_of, taken, taken_at}
use Rattle.cd_matching.specs.Sequences.{thing_of}
use Rattle.cd_matching.proofs.AllOf.{any_is_one}
use Rattle.cd_matching.proofs.TakenCaptures.{both_some, or_else_some, if_some, just_some}
use Rattle.cd_matching.proofs.TakenCaptures.{if_so_nothing, gathered_some}
use Rattle.cd_matching.proofs.Unfolding.{unfolds}

module _ (T : Type 0) (test : T → Thing → Bool) (nodes : List (KernelNode T)) (variable : ℕ)
    (in_range : AllOf (λ node. AllOf (λ number. number < length nodes)
    (leads_to node ++ parts_of node)) nodes)
    (all_end : (number : ℕ) → number < length nodes → Ends nodes (length nodes) number) where
  -- what captures something is bound
  abbrev Bound : Taken → Type 0
  Bound takes = (number : ℕ) (captures : Captures ℕ) (what : Thing) → number < length nodes
      → takes number ≡ Some captures → captures variable ≡ Some what → Binds nodes variable number

  abbrev BoundIn : (ℕ → Type 0) → Taken → Type 0
  BoundIn IsShort takes = (number : ℕ) (captures : Captures ℕ) (what : Thing)
      → number < length nodes → IsShort number → takes number ≡ Some captures
      → captures variable ≡ Some what → Binds nodes variable number

  abbrev BoundAt : Option (Thing × Taken) → Type 0
  BoundAt None = Unit {0}
  BoundAt (Some d) = Bound d.1

  abbrev PartsBound : Thing → Type 0
  PartsBound (thing.Pair first second) =
      Bound (taken T test nodes first) × Bound (taken T test nodes second)
  PartsBound (thing.Xml tag attributes content) = Bound (taken T test nodes tag)
      × Bound (taken T test nodes attributes) × Bound (taken T test nodes content)
  PartsBound (thing.Record fields) = (label : Name) → BoundAt (taken_at T test nodes fields label)
  PartsBound d = Unit {0}

  -- what all captures say of the variable
  at_variable : (one other : Captures ℕ) (what : Thing) → one ≡ other
      → other variable ≡ Some what → one variable ≡ Some what
  at_variable one other what same has = ap (λ (c : Captures ℕ). c variable) same ∙ has

  no_capture : (b : Bool) (captures : Captures ℕ) (what : Thing) → if_so b ≡ Some captures
      → captures variable ≡ Some what → ⊥
  no_capture b captures what takes has =
      none-some what (at_variable _ captures what (if_so_nothing b captures takes) has)

  of_field : (d : Option (Thing × Taken)) → BoundAt d → (node : ℕ) (captures : Captures ℕ)
      (what : Thing) → node < length nodes
      → on_field T test nodes d (Present node) ≡ Some captures → captures variable ≡ Some what
      → Binds nodes variable node
  of_field None bound node captures what within takes has = absurd (none-some captures takes)
  of_field (Some d) bound node captures what within takes has =
      bound node captures what within takes has

  no_optional : (d : Option (Thing × Taken)) (type : T) (captures : Captures ℕ) (what : Thing)
      → on_field T test nodes d (Optional type) ≡ Some captures → captures variable ≡ Some what → ⊥
  no_optional None type captures what takes has = no_capture true captures what takes has
  no_optional (Some d) type captures what takes has =
      no_capture (test type d.0) captures what takes has

  of_two : (first second all : Captures ℕ) (what : Thing) → joined first second ≡ all
      → all variable ≡ Some what
      → (first variable ≡ Some what) ⊎ ((first variable ≡ None) × (second variable ≡ Some what))
  of_two first second all what same has =
      or_else_some (first variable) (second variable) what (at_variable _ all what same has)

  of_fields : (at : Labelled) → ((label : Name) → BoundAt (at label))
      → (fields : List (Name × KernelField T)) (captures : Captures ℕ) (what : Thing)
      → AllOf (λ number. number < length nodes) (field_nodes fields)
      → on_fields T test nodes at fields ≡ Some captures → captures variable ≡ Some what
      → AnyOf (Binds nodes variable) (field_nodes fields)
  of_fields at bound [] captures what within takes has =
      absurd (no_capture true captures what takes has)
  of_fields at bound ((label, Present node) ∷ fields) captures what within takes has =
      let parts = both_some (on_field T test nodes (at label) (Present node))
      (on_fields T test nodes at fields) captures takes in
      elim (of_two parts.0 parts.1 captures what parts.4 has) [
        | inl one ↦
            inl (of_field (at label) (bound label) node parts.0 what within.0 parts.2 one)
        | inr other ↦
            inr (of_fields at bound fields parts.1 what within.1 parts.3 other.1)
      ]
  of_fields at bound ((label, Optional type) ∷ fields) captures what within takes has =
      let parts = both_some (on_field T test nodes (at label) (Optional type))
      (on_fields T test nodes at fields) captures takes in
      elim (of_two parts.0 parts.1 captures what parts.4 has) [
        | inl one ↦ absurd (no_optional (at label) type parts.0 what parts.2 one)
        | inr other ↦ of_fields at bound fields parts.1 what within parts.3 other.1
      ]

  of_record : (fields : thing.Fields)
      → ((label : Name) → BoundAt (taken_at T test nodes fields label))
      → (named : List (Name × KernelField T)) (captures : Captures ℕ) (what : Thing)
      → AllOf (λ number. number < length nodes) (field_nodes named) → (b : Bool)
      → (if b then on_fields T test nodes (taken_at T test nodes fields) named else None)
      ≡ Some captures
      → captures variable ≡ Some what → AnyOf (Binds nodes variable) (field_nodes named)
  of_record fields bound named captures what within true takes has =
      of_fields (taken_at T test nodes fields) bound named captures what within takes has
  of_record fields bound named captures what within false takes has =
      absurd (none-some captures takes)

  module _ (IsShort : ℕ → Type 0) (number : ℕ) (captures : Captures ℕ) (what : Thing)
      (has : captures variable ≡ Some what) where
    goes_on : (node : KernelNode T) → slice_get nodes number ≡ Some node
        → AnyOf (Binds nodes variable) (leads_to node ++ parts_of node)
        → Binds nodes variable number
    goes_on node there any = any_is_one (Binds nodes variable) (leads_to node ++ parts_of node)
        (λ next binds among. further number next node there among binds) any

    by_itself : (by : ℕ) (d : Thing) → just by d ≡ captures → by ≡ variable
    by_itself by d same = (just_some by variable d what (at_variable _ captures what same has)).0

    of_gather : (by first second : ℕ) (d e : Thing) → slice_get nodes number
        ≡ Some (Gather by first second)
        → PartsBound (thing.Pair d e) → (first < length nodes) → (second < length nodes)
        → apart_of T test nodes (thing.Pair d e) (Gather by first second) ≡ Some captures
        → Binds nodes variable number
    of_gather by first second d e there parts one_within other_within takes =
        let take_it = gathered_some by d (taken T test nodes d first)
        (taken T test nodes e second) captures takes in
        elim (of_two take_it.0 (before by d take_it.1) captures what take_it.4 has) [
          | inl one ↦ goes_on (Gather by first second) there
              (inl (parts.0 first take_it.0 what one_within take_it.2 one))
          | inr other ↦ elim (eqb_tells by variable) [
            | inl same ↦ itself number (Gather by first second) there (inl same.1)
            | inr differs ↦ elim (if_some (eqb by variable)
                (option_map (thing.Pair d) (take_it.1 variable)) (take_it.1 variable) what
                other.1) [
                  | inl made ↦ absurd cc
                  | inr kept ↦ goes_on (Gather by first second) there
                      (inr (inl (parts.1 second take_it.1 what other_within take_it.3 kept.1)))
                ]
          ]
        ]

    at_node : (d : Thing) → PartsBound d → BoundIn IsShort (taken T test nodes d)
        → (node : KernelNode T) → slice_get nodes number ≡ Some node
        → AllOf IsShort (leads_to node)
        → AllOf (λ next. next < length nodes) (leads_to node ++ parts_of node)
        → by_node T test nodes d (apart_of T test nodes d) (taken T test nodes d) (Some node)
        ≡ Some captures
        → Binds nodes variable number
    at_node d parts again (Test type) there short within takes =
        absurd (no_capture (test type d) captures what takes has)
    at_node d parts again (Bind by) there short within takes = itself number (Bind by) there
        (inl (by_itself by d (same_Some (just by d) captures takes)))
    at_node d parts again (Put by constant) there short within takes =
        itself number (Put by constant) there
        (inl (by_itself by (thing_of constant)
        (same_Some (just by (thing_of constant)) captures takes)))
    at_node d parts again (Both first second) there short within takes =
        let takes = both_some (taken T test nodes d first) (taken T test nodes d second) captures
        takes in
        goes_on (Both first second) there
        (elim (of_two takes.0 takes.1 captures what takes.4 has) [
          | inl one ↦ inl (again first takes.0 what within.0 short.0 takes.2 one)
          | inr other ↦ inr
              (inl (again second takes.1 what within.1.0 short.1.0 takes.3 other.1))
        ])
    at_node d parts again (First first second) there short within takes =
        goes_on (First first second) there
        (elim (or_else_some (taken T test nodes d first) (taken T test nodes d second) captures
        takes) [
          | inl one ↦ inl (again first captures what within.0 short.0 one has)
          | inr other ↦ inr
              (inl (again second captures what within.1.0 short.1.0 other.1 has))
        ])
    at_node (thing.Pair d e) parts again (Pair first second) there short within takes =
        let takes = both_some (taken T test nodes d first) (taken T test nodes e second) captures
        takes in
        goes_on (Pair first second) there
        (elim (of_two takes.0 takes.1 captures what takes.4 has) [
          | inl one ↦ inl (parts.0 first takes.0 what within.0 takes.2 one)
          | inr other ↦ inr (inl (parts.1 second takes.1 what within.1.0 takes.3 other.1))
        ])
    at_node (thing.Pair d e) parts again (Gather by first second) there short within takes =
        of_gather by first second d e there parts within.0 within.1.0 takes
    at_node (thing.Xml d e f) parts again (Xml tag attributes content) there short within takes =
        let all = both_some (taken T test nodes d tag)
        (both (taken T test nodes e attributes) (taken T test nodes f content)) captures
        takes in
        let rest = both_some (taken T test nodes e attributes) (taken T test nodes f content) all.1
        all.3 in
        goes_on (Xml tag attributes content) there
        (elim (of_two all.0 all.1 captures what all.4 has) [
          | inl one ↦ inl (parts.0 tag all.0 what within.0 all.2 one)
          | inr others ↦ elim (of_two rest.0 rest.1 all.1 what rest.4 others.1) [
            | inl one ↦ inr (inl (parts.1 attributes rest.0 what within.1.0 rest.2 one))
            | inr other ↦ inr
                (inr (inl (parts.2 content rest.1 what within.1.1.0 rest.3 other.1)))
          ]
        ])
    at_node (thing.Record fields) parts again (Record named more) there short within takes =
        goes_on (Record named more) there
        (of_record fields parts named captures what within (more || all_named named fields) takes
        has)
    at_node _ parts again _ there short within takes = absurd (none-some captures takes)

    at_some : (d : Thing) → PartsBound d → BoundIn IsShort (taken T test nodes d)
        → (node : Option (KernelNode T)) → slice_get nodes number ≡ node → EachEnds IsShort node
        → by_node T test nodes d (apart_of T test nodes d) (taken T test nodes d) node
        ≡ Some captures
        → Binds nodes variable number
    at_some d parts again None there short takes = absurd short
    at_some d parts again (Some node) there short takes = at_node d parts again node there short
        (all_got
        (λ node. AllOf (λ next. next < length nodes) (leads_to node ++ parts_of node)) nodes number
        node in_range there) takes

  bound_in : (d : Thing) → PartsBound d → (count : ℕ)
      → BoundIn (Ends nodes count) (taken T test nodes d)
  bound_in d parts zero number captures what within ends takes has = absurd ends
  bound_in d parts (suc count) number captures what within ends takes has =
      at_some (Ends nodes count) number captures what has d parts (bound_in d parts count)
      (slice_get nodes number) refl ends
      (sym (unfolds T test nodes d number (all_end number within)) ∙ takes)

  bound_of : (d : Thing) → PartsBound d → Bound (taken T test nodes d)
  bound_of d parts number captures what within takes has =
      bound_in d parts (length nodes) number captures what within (all_end number within) takes has

  bound_or : (b : Bool) (d : Thing × Taken) (other : Option (Thing × Taken)) → Bound d.1
      → BoundAt other → BoundAt (if b then Some d else other)
  bound_or true d other one rest = one
  bound_or false d other one rest = rest

  mutual
    pub bound : (d : Thing) → Bound (taken T test nodes d)
    bound (thing.Integer n) = bound_of (thing.Integer n) tt
    bound (thing.Character c) = bound_of (thing.Character c) tt
    bound (thing.Atom name) = bound_of (thing.Atom name) tt
    bound (thing.Pair first second) =
        bound_of (thing.Pair first second) (bound first, bound second)
    bound (thing.Xml tag attributes content) =
        bound_of (thing.Xml tag attributes content) (bound tag, bound attributes, bound content)
    bound (thing.Record fields) = bound_of (thing.Record fields) (bound_at fields)
    bound (thing.Function pairs) = bound_of (thing.Function pairs) tt
    bound (thing.Closure function environment) = bound_of (thing.Closure function environment) tt

    bound_at : (fields : thing.Fields) (label : Name) → BoundAt (taken_at T test nodes fields label)
    bound_at thing.NoField label = tt
    bound_at (thing.Field name d rest) label =
        bound_or (bytes_eq name label) (d, taken T test nodes d)
        (taken_at T test nodes rest label) (bound d) (bound_at rest label)
