-- Where a node of a sound kernel takes a thing, each variable that it binds captures something.
use Rattle.std.proofs.Common.{◌≡◌, ◌<◌, ℕ, zero, suc, Bool, true, false, ◌||◌, List, [], ◌∷◌, ◌++◌}
use Rattle.std.proofs.Common.{◌⊎◌, inl, inr, length, Option, Some, None, option_map, refl, sym, ap}
use Rattle.std.proofs.Common.{◌∙◌, subst, eqb, if◌then◌else◌, bytes_eq}
use Rattle.std.specs.List.{slice_get}
use Rattle.std.proofs.lemmas.Option.{none-some, same_Some}
use Rattle.std.proofs.lemmas.Bool.Decides.{eqb_tells}
use Rattle.cd_syntax.specs.Name.{Name}
use Rattle.cd_model.specs.AllOf.{AllOf, AnyOf}
use Rattle.cd_model.specs.Thing as thing
use Rattle.cd_model.specs.Thing.{Thing}
use Rattle.cd_model.proofs.ByNumber.{all_got}
use Rattle.cd_matching.specs.Captures.{Captures, or_else, joined, both}
use Rattle.cd_matching.specs.Kernel.{KernelNode, KernelField, Present, Optional, Test, Bind, Put}
use Rattle.cd_matching.specs.Kernel.{Pair, Xml, Record, Both, First, Gather, leads_to, parts_of}
use Rattle.cd_matching.specs.Kernel.{variables_of, field_nodes, Ends, EachEnds, Binds, itself}
use Rattle.cd_matching.specs.Kernel.{further, IsSoundNode, Taken, Labelled, just, before, on_field}
use Rattle.cd_matching.specs.Kernel.{on_fields, all_named, by_node, apart_of, taken, taken_at}
use Rattle.cd_matching.specs.Sequences.{thing_of}
use Rattle.cd_matching.proofs.TakenCaptures.{both_some, or_else_some, gathered_some}
use Rattle.cd_matching.proofs.Unfolding.{unfolds}

-- a fact of one that is among these
any_with : {X : Type 0} (P : X → Type 0) (x : X) (xs : List X) → P x
    → AnyOf (λ other. other ≡ x) xs → AnyOf P xs
any_with P x [] fact among = absurd among
any_with P x (other ∷ xs) fact (inl same) = inl (subst P (sym same) fact)
any_with P x (other ∷ xs) fact (inr later) = inr (any_with P x xs fact later)

module _ (T : Type 0) (test : T → Thing → Bool) (nodes : List (KernelNode T))
    (variables variable : ℕ) (IsType : T → Type 0)
    (sound : AllOf (IsSoundNode nodes variables IsType) nodes)
    (in_range : AllOf (λ node. AllOf (λ number. number < length nodes)
    (leads_to node ++ parts_of node)) nodes)
    (all_end : (number : ℕ) → number < length nodes → Ends nodes (length nodes) number) where
  -- the variable captures something
  abbrev Has : Captures ℕ → Type 0
  Has captures = (what : Thing) × (captures variable ≡ Some what)

  abbrev Captured : Taken → Type 0
  Captured takes = (number : ℕ) (captures : Captures ℕ) → number < length nodes
      → takes number ≡ Some captures → Binds nodes variable number → Has captures

  abbrev CapturedIn : (ℕ → Type 0) → Taken → Type 0
  CapturedIn IsShort takes = (number : ℕ) (captures : Captures ℕ) → number < length nodes
      → IsShort number → takes number ≡ Some captures → Binds nodes variable number
      → Has captures

  abbrev CapturedAt : Option (Thing × Taken) → Type 0
  CapturedAt None = Unit {0}
  CapturedAt (Some d) = Captured d.1

  abbrev PartsCaptured : Thing → Type 0
  PartsCaptured (thing.Pair first second) =
      Captured (taken T test nodes first) × Captured (taken T test nodes second)
  PartsCaptured (thing.Xml tag attributes content) = Captured (taken T test nodes tag)
      × Captured (taken T test nodes attributes) × Captured (taken T test nodes content)
  PartsCaptured (thing.Record fields) =
      (label : Name) → CapturedAt (taken_at T test nodes fields label)
  PartsCaptured d = Unit {0}

  has_same : (one other : Captures ℕ) → one ≡ other → Has one → Has other
  has_same one other same has = subst Has same has

  has_first : (one other all : Captures ℕ) → joined one other ≡ all → Has one → Has all
  has_first one other all same has = subst Has same
      (has.0, ap (λ (o : Option Thing). or_else o (other variable)) has.1)

  either_has : (one other : Option Thing) (what : Thing) → other ≡ Some what
      → (is : Thing) × (or_else one other ≡ Some is)
  either_has (Some d) other what same = (d, refl)
  either_has None other what same = (what, same)

  has_second : (one other all : Captures ℕ) → joined one other ≡ all → Has other → Has all
  has_second one other all same has =
      subst Has same (either_has (one variable) (other variable) has.0 has.1)

  mapped_has : (f : Thing → Thing) (b : Bool) (one : Option Thing) (what : Thing)
      → one ≡ Some what
      → (is : Thing) × ((if b then option_map f one else one) ≡ Some is)
  mapped_has f true one what same = (f what, ap (option_map f) same)
  mapped_has f false one what same = (what, same)

  has_before : (by : ℕ) (d : Thing) (captures : Captures ℕ) → Has captures
      → Has (before by d captures)
  has_before by d captures has =
      mapped_has (thing.Pair d) (eqb by variable) (captures variable) has.0 has.1

  just_has : (by : ℕ) (d : Thing) → by ≡ variable → Has (just by d)
  just_has by d same = elim (eqb_tells by variable) [
    | inl is ↦ (d, ap (λ (b : Bool). if b then Some d else None) is.0)
    | inr differs ↦ absurd (differs.1 same)
  ]

  -- the node binds it by itself, or one does that it leads to
  opened : (number : ℕ) (node : KernelNode T) → slice_get nodes number ≡ Some node
      → Binds nodes variable number
      → AnyOf (λ other. other ≡ variable) (variables_of node)
      ⊎ AnyOf (Binds nodes variable) (leads_to node ++ parts_of node)
  opened number node there (itself _ other is among) =
      inl (subst (λ (one : KernelNode T). AnyOf (λ by. by ≡ variable) (variables_of one))
      (same_Some other node (sym is ∙ there)) among)
  opened number node there (further _ next other is among binds) =
      inr (subst
      (λ (one : KernelNode T). AnyOf (Binds nodes variable) (leads_to one ++ parts_of one))
      (same_Some other node (sym is ∙ there))
      (any_with (Binds nodes variable) next (leads_to other ++ parts_of other) binds among))

  of_field : (d : Option (Thing × Taken)) → CapturedAt d → (node : ℕ) (captures : Captures ℕ)
      → node < length nodes → on_field T test nodes d (Present node) ≡ Some captures
      → Binds nodes variable node → Has captures
  of_field None each node captures within takes binds = absurd (none-some captures takes)
  of_field (Some d) each node captures within takes binds = each node captures within takes binds

  of_fields : (at : Labelled) → ((label : Name) → CapturedAt (at label))
      → (fields : List (Name × KernelField T)) (captures : Captures ℕ)
      → AllOf (λ number. number < length nodes) (field_nodes fields)
      → on_fields T test nodes at fields ≡ Some captures
      → AnyOf (Binds nodes variable) (field_nodes fields) → Has captures
  of_fields at each [] captures within takes any = absurd any
  of_fields at each ((label, Present node) ∷ fields) captures within takes (inl binds) =
      let parts = both_some (on_field T test nodes (at label) (Present node))
      (on_fields T test nodes at fields) captures takes in
      has_first parts.0 parts.1 captures parts.4
      (of_field (at label) (each label) node parts.0 within.0 parts.2 binds)
  of_fields at each ((label, Present node) ∷ fields) captures within takes (inr later) =
      let parts = both_some (on_field T test nodes (at label) (Present node))
      (on_fields T test nodes at fields) captures takes in
      has_second parts.0 parts.1 captures parts.4
      (of_fields at each fields parts.1 within.1 parts.3 later)
  of_fields at each ((label, Optional type) ∷ fields) captures within takes any =
      let parts = both_some (on_field T test nodes (at label) (Optional type))
      (on_fields T test nodes at fields) captures takes in
      has_second parts.0 parts.1 captures parts.4
      (of_fields at each fields parts.1 within parts.3 any)

  of_record : (at : Labelled) → ((label : Name) → CapturedAt (at label))
      → (named : List (Name × KernelField T)) (captures : Captures ℕ)
      → AllOf (λ number. number < length nodes) (field_nodes named) → (b : Bool)
      → (if b then on_fields T test nodes at named else None) ≡ Some captures
      → AnyOf (Binds nodes variable) (field_nodes named) → Has captures
  of_record at each named captures within true takes any =
      of_fields at each named captures within takes any
  of_record at each named captures within false takes any = absurd (none-some captures takes)

  module _ (IsShort : ℕ → Type 0) (number : ℕ) (captures : Captures ℕ) where
    of_first : (d : Thing) → CapturedIn IsShort (taken T test nodes d) → (p q : ℕ)
        → p < length nodes → q < length nodes → IsShort p → IsShort q
        → (Binds nodes variable p) × (Binds nodes variable q)
        → or_else (taken T test nodes d p) (taken T test nodes d q) ≡ Some captures
        → Has captures
    of_first d again p q within_p within_q short_p short_q binds takes =
        elim (or_else_some (taken T test nodes d p) (taken T test nodes d q) captures takes) [
          | inl one ↦ again p captures within_p short_p one binds.0
          | inr other ↦ again q captures within_q short_q other.1 binds.1
        ]

    at_node : (d : Thing) → PartsCaptured d → CapturedIn IsShort (taken T test nodes d)
        → (node : KernelNode T) → AllOf IsShort (leads_to node)
        → AllOf (λ next. next < length nodes) (leads_to node ++ parts_of node)
        → IsSoundNode nodes variables IsType node
        → by_node T test nodes d (apart_of T test nodes d) (taken T test nodes d) (Some node)
        ≡ Some captures
        → AnyOf (λ other. other ≡ variable) (variables_of node)
        ⊎ AnyOf (Binds nodes variable) (leads_to node ++ parts_of node) → Has captures
    at_node d parts again (Test type) short within is takes (inl none) = absurd none
    at_node d parts again (Test type) short within is takes (inr none) = absurd none
    at_node d parts again (Bind by) short within is takes (inl (inl same)) =
        has_same (just by d) captures (same_Some (just by d) captures takes) (just_has by d same)
    at_node d parts again (Bind by) short within is takes (inl (inr none)) = absurd none
    at_node d parts again (Bind by) short within is takes (inr none) = absurd none
    at_node d parts again (Put by constant) short within is takes (inl (inl same)) =
        has_same (just by (thing_of constant)) captures
        (same_Some (just by (thing_of constant)) captures takes)
        (just_has by (thing_of constant) same)
    at_node d parts again (Put by constant) short within is takes (inl (inr none)) = absurd none
    at_node d parts again (Put by constant) short within is takes (inr none) = absurd none
    at_node d parts again (Both p q) short within is takes (inl none) = absurd none
    at_node d parts again (Both p q) short within is takes (inr (inl binds)) =
        let two = both_some (taken T test nodes d p) (taken T test nodes d q) captures takes in
        has_first two.0 two.1 captures two.4 (again p two.0 within.0 short.0 two.2 binds)
    at_node d parts again (Both p q) short within is takes (inr (inr (inl binds))) =
        let two = both_some (taken T test nodes d p) (taken T test nodes d q) captures takes in
        has_second two.0 two.1 captures two.4 (again q two.1 within.1.0 short.1.0 two.3 binds)
    at_node d parts again (Both p q) short within is takes (inr (inr (inr none))) = absurd none
    at_node d parts again (First p q) short within is takes (inl none) = absurd none
    at_node d parts again (First p q) short within is takes (inr (inl binds)) =
        of_first d again p q within.0 within.1.0 short.0 short.1.0
        (binds, (is variable).0 binds) takes
    at_node d parts again (First p q) short within is takes (inr (inr (inl binds))) =
        of_first d again p q within.0 within.1.0 short.0 short.1.0
        ((is variable).1 binds, binds) takes
    at_node d parts again (First p q) short within is takes (inr (inr (inr none))) = absurd none
    at_node (thing.Pair d e) parts again (Pair p q) short within is takes (inl none) = absurd none
    at_node (thing.Pair d e) parts again (Pair p q) short within is takes (inr (inl binds)) =
        let two = both_some (taken T test nodes d p) (taken T test nodes e q) captures takes in
        has_first two.0 two.1 captures two.4 (parts.0 p two.0 within.0 two.2 binds)
    at_node (thing.Pair d e) parts again (Pair p q) short within is takes (inr (inr (inl binds))) =
        let two = both_some (taken T test nodes d p) (taken T test nodes e q) captures takes in
        has_second two.0 two.1 captures two.4 (parts.1 q two.1 within.1.0 two.3 binds)
    at_node (thing.Pair d e) parts again (Pair p q) short within is takes (inr (inr (inr none))) =
        absurd none
    at_node (thing.Pair d e) parts again (Gather by p q) short within is takes (inl (inl same)) =
        let two = gathered_some by d (taken T test nodes d p) (taken T test nodes e q) captures
        takes in
        has_second two.0 (before by d two.1) captures two.4
        (has_before by d two.1 (parts.1 q two.1 within.1.0 two.3
        (subst (λ (v : ℕ). Binds nodes v q) same is.3)))
    at_node (thing.Pair d e) parts again (Gather by p q) short within is takes (inl (inr none)) =
        absurd none
    at_node (thing.Pair d e) parts again (Gather by p q) short within is takes (inr (inl binds)) =
        let two = gathered_some by d (taken T test nodes d p) (taken T test nodes e q) captures
        takes in
        has_first two.0 (before by d two.1) captures two.4
        (parts.0 p two.0 within.0 two.2 binds)
    at_node (thing.Pair d e) parts again (Gather by p q) short within is takes
        (inr (inr (inl binds))) =
        let two = gathered_some by d (taken T test nodes d p) (taken T test nodes e q) captures
        takes in
        has_second two.0 (before by d two.1) captures two.4
        (has_before by d two.1 (parts.1 q two.1 within.1.0 two.3 binds))
    at_node (thing.Pair d e) parts again (Gather by p q) short within is takes
        (inr (inr (inr none))) =
        absurd none
    at_node (thing.Xml d e f) parts again (Xml p q r) short within is takes (inl none) = absurd none
    at_node (thing.Xml d e f) parts again (Xml p q r) short within is takes (inr any) =
        let all = both_some (taken T test nodes d p)
        (both (taken T test nodes e q) (taken T test nodes f r)) captures takes in
        let rest = both_some (taken T test nodes e q) (taken T test nodes f r) all.1 all.3 in
        elim any [
          | inl binds ↦ has_first all.0 all.1 captures all.4
              (parts.0 p all.0 within.0 all.2 binds)
          | inr (inl binds) ↦ has_second all.0 all.1 captures all.4
              (has_first rest.0 rest.1 all.1 rest.4
              (parts.1 q rest.0 within.1.0 rest.2 binds))
          | inr (inr (inl binds)) ↦ has_second all.0 all.1 captures all.4
              (has_second rest.0 rest.1 all.1 rest.4
              (parts.2 r rest.1 within.1.1.0 rest.3 binds))
          | inr (inr (inr none)) ↦ absurd none
        ]
    at_node (thing.Record fields) parts again (Record named more) short within is takes
        (inl none) = absurd none
    at_node (thing.Record fields) parts again (Record named more) short within is takes
        (inr any) =
        of_record (taken_at T test nodes fields) parts named captures within
        (more || all_named named fields) takes any
    at_node _ parts again _ short within is takes binds = absurd (none-some captures takes)

    at_some : (d : Thing) → PartsCaptured d → CapturedIn IsShort (taken T test nodes d)
        → (node : Option (KernelNode T)) → slice_get nodes number ≡ node → EachEnds IsShort node
        → by_node T test nodes d (apart_of T test nodes d) (taken T test nodes d) node
        ≡ Some captures
        → Binds nodes variable number → Has captures
    at_some d parts again None there short takes binds = absurd short
    at_some d parts again (Some node) there short takes binds =
        at_node d parts again node short
        (all_got
        (λ node. AllOf (λ next. next < length nodes) (leads_to node ++ parts_of node)) nodes number
        node in_range there)
        (all_got (IsSoundNode nodes variables IsType) nodes number node sound there) takes
        (opened number node there binds)

  captured_in : (d : Thing) → PartsCaptured d → (count : ℕ)
      → CapturedIn (Ends nodes count) (taken T test nodes d)
  captured_in d parts zero number captures within ends takes binds = absurd ends
  captured_in d parts (suc count) number captures within ends takes binds =
      at_some (Ends nodes count) number captures d parts (captured_in d parts count)
      (slice_get nodes number) refl ends
      (sym (unfolds T test nodes d number (all_end number within)) ∙ takes) binds

  captured_of : (d : Thing) → PartsCaptured d → Captured (taken T test nodes d)
  captured_of d parts number captures within takes binds =
      captured_in d parts (length nodes) number captures within (all_end number within) takes binds

  captured_or : (b : Bool) (d : Thing × Taken) (other : Option (Thing × Taken)) → Captured d.1
      → CapturedAt other → CapturedAt (if b then Some d else other)
  captured_or true d other one rest = one
  captured_or false d other one rest = rest

  mutual
    pub captured : (d : Thing) → Captured (taken T test nodes d)
    captured (thing.Integer n) = captured_of (thing.Integer n) tt
    captured (thing.Character c) = captured_of (thing.Character c) tt
    captured (thing.Atom name) = captured_of (thing.Atom name) tt
    captured (thing.Pair first second) =
        captured_of (thing.Pair first second) (captured first, captured second)
    captured (thing.Xml tag attributes content) = captured_of (thing.Xml tag attributes content)
        (captured tag, captured attributes, captured content)
    captured (thing.Record fields) = captured_of (thing.Record fields) (captured_at fields)
    captured (thing.Function pairs) = captured_of (thing.Function pairs) tt
    captured (thing.Closure function environment) =
        captured_of (thing.Closure function environment) tt

    captured_at : (fields : thing.Fields) (label : Name)
        → CapturedAt (taken_at T test nodes fields label)
    captured_at thing.NoField label = tt
    captured_at (thing.Field name d rest) label =
        captured_or (bytes_eq name label) (d, taken T test nodes d)
        (taken_at T test nodes rest label) (captured d) (captured_at rest label)
