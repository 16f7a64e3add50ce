-- Where all things of a place are taken, all things of the places that its steps lead to are.
use Rattle.std.proofs.Common.{◌≡◌, ℕ, ◌<◌, Bool, true, false, List, [], ◌∷◌, inl, inr}
use Rattle.std.proofs.Common.{length, Option, Some, None, is_some, refl, sym, ap, subst, ◌∙◌, ◌||◌}
use Rattle.std.proofs.Common.{if◌then◌else◌}
use Rattle.std.specs.List.{slice_get}
use Rattle.std.proofs.lemmas.Bool.{true≢false}
use Rattle.std.proofs.lemmas.Option.{slice_get_within}
use Rattle.cd_sets.specs.declared.node_id.NodeId.{NodeId}
use Rattle.cd_sets.specs.declared.question.Question.{Question}
use Rattle.cd_syntax.specs.Name.{Name}
use Rattle.cd_model.specs.AllOf.{AllOf, AnyOf}
use Rattle.cd_model.specs.Formula.{asked}
use Rattle.cd_model.specs.Thing as thing
use Rattle.cd_model.specs.Thing.{Thing}
use Rattle.cd_model.specs.Types.{Answers}
use Rattle.cd_model.proofs.Ones.{each_of_lists}
use Rattle.cd_matching.specs.Captures.{Captures, or_else, both}
use Rattle.cd_matching.specs.Kernel.{KernelNode, KernelField, Present, Optional, Pair, Xml, Record}
use Rattle.cd_matching.specs.Kernel.{Test, Bind, Put, Both, First, Gather, Ends, by_node}
use Rattle.cd_matching.specs.Kernel.{all_named, apart_of, taken}
use Rattle.cd_matching.proofs.Unfolding.{unfolds}
use Rattle.cd_products.specs.QuestionBoxes.{IsInhabited}
use Rattle.cd_products.specs.Products.{InProduct, InTriple, AreProducts, AreTriples}
use Rattle.cd_filter.specs.Capturing.{IsAccepted, IsNarrowed, AreSteps}
use Rattle.cd_filter.specs.Rows.{Picks}
use Rattle.cd_filter.specs.Table.{Place, Step, at, pair_steps, gather_steps}
use Rattle.cd_filter.specs.Table.{triple_steps, cell_steps, row_steps}
use Rattle.cd_filter.proofs.Capturing.{both_has, gathered_has}
use Rattle.cd_filter.proofs.TakenParts.{fields_take, field_takes, present_takes}
use Rattle.cd_explored.specs.NextPlaces.{NextHas}

if_some : (b : Bool) (o : Option (Captures ℕ)) → is_some (if b then o else None) ≡ true
    → is_some o ≡ true
if_some true o h = h
if_some false o h = absurd (true≢false (sym h))

or_else_first : (one other : Option (Captures ℕ)) (answer : Bool) → is_some one ≡ answer
    → answer ≡ false → is_some (or_else one other) ≡ true → is_some other ≡ true
or_else_first (Some c) other answer is out h = absurd (true≢false (is ∙ out))
or_else_first None other answer is out h = h

module _ (answers : Thing → Answers NodeId) (Sort : Thing → Type 0)
    (makes_pair : (d e : Thing) → Sort d → Sort e → Sort (thing.Pair d e))
    (apart : (d : Thing) (id : NodeId) → answers d id true → answers d id false → ⊥)
    (test : NodeId → Thing → Bool) (nodes : List (KernelNode NodeId))
    (ends : (number : ℕ) → number < length nodes → Ends nodes (length nodes) number) where
  abbrev takes : Thing → ℕ → Option (Captures ℕ)
  takes = taken NodeId test nodes

  abbrev In : Thing → Question → Type 0
  In d question = asked (answers d) question true

  abbrev Has : Question → Type 0
  Has = IsInhabited answers Sort

  abbrev Accepted : Place → Type 0
  Accepted = IsAccepted answers Sort test nodes

  takes_there : (place : Place) (node : KernelNode NodeId)
      → slice_get nodes place.number ≡ Some node → Accepted place → (d : Thing) → Sort d
      → In d place.question
      → is_some (by_node NodeId test nodes d (apart_of NodeId test nodes d) (takes d) (Some node))
      ≡ true
  takes_there place node there accepted d sound comes = sym (ap is_some
      (unfolds NodeId test nodes d place.number
      (ends place.number (slice_get_within nodes place.number node there))
      ∙ ap (by_node NodeId test nodes d (apart_of NodeId test nodes d) (takes d)) there))
      ∙ accepted d sound comes

  -- nodes that leave the thing whole
  pub both_next : (place : Place) (p q : ℕ) → slice_get nodes place.number ≡ Some (Both p q)
      → Accepted place → Accepted (at p place.question) × Accepted (at q place.question)
  both_next place p q there accepted = (
    λ d sound comes. ap is_some (parts d sound comes).2,
    λ d sound comes. ap is_some (parts d sound comes).3,
  )
    where
      parts : (d : Thing) → Sort d → In d place.question → (first second : Captures ℕ)
          × (takes d p ≡ Some first) × (takes d q ≡ Some second)
      parts d sound comes = both_has (takes d p) (takes d q)
          (takes_there place (Both p q) there accepted d sound comes)

  pub first_next : (place : Place) (p q : ℕ) (id : NodeId)
      → slice_get nodes place.number ≡ Some (First p q)
      → ((d : Thing) → Sort d → answers d id (is_some (takes d p)))
      → (taken_first others : Question)
      → IsNarrowed answers Sort true id place.question taken_first
      → IsNarrowed answers Sort false id place.question others
      → Accepted place → Accepted (at p taken_first) × Accepted (at q others)
  first_next place p q id there accepting taken_first others within without accepted = (
    λ d sound comes. by_answer d (is_some (takes d p)) refl (accepting d sound)
        ((within d sound).0 comes).1,
    λ d sound comes. let out = (without d sound).0 comes in
        or_else_first (takes d p) (takes d q) (is_some (takes d p)) refl
        (not_taken d (is_some (takes d p)) (accepting d sound) out.1)
        (takes_there place (First p q) there accepted d sound out.0),
  )
    where
      by_answer : (d : Thing) (answer : Bool) → is_some (takes d p) ≡ answer
          → answers d id answer → answers d id true → is_some (takes d p) ≡ true
      by_answer d true is one inside = is
      by_answer d false is one inside = absurd (apart d id inside one)

      not_taken : (d : Thing) (answer : Bool) → answers d id answer → answers d id false
          → answer ≡ false
      not_taken d true one outside = absurd (apart d id one outside)
      not_taken d false one outside = refl

  -- nodes that take it apart: a part of a product, together with what inhabits the other one
  module _ (place : Place) (p q : ℕ) (there : slice_get nodes place.number ≡ Some (Pair p q))
      (accepted : Accepted place) where
    pairs_next : (products : List (Question × Question))
        → ((d e : Thing) → Sort (thing.Pair d e) → AnyOf (InProduct answers d e) products
        → In (thing.Pair d e) place.question)
        → AllOf (λ product. Has product.0 × Has product.1) products
        → AllOf (λ product. Accepted (at p product.0) × Accepted (at q product.1)) products
    pairs_next [] only has = tt
    pairs_next (product ∷ products) only has = (
      (
        λ d sound comes. let other = has.0.1 in
            ap is_some (parts d other.0 sound other.1 (inl (comes, other.2))).2,
        λ e sound comes. let other = has.0.0 in
            ap is_some (parts other.0 e other.1 sound (inl (other.2, comes))).3,
      ),
      pairs_next products (λ d e sound one. only d e sound (inr one)) has.1,
    )
      where
        parts : (d e : Thing) → Sort d → Sort e
            → AnyOf (InProduct answers d e) (product ∷ products) → (first second : Captures ℕ)
            × (takes d p ≡ Some first) × (takes e q ≡ Some second)
        parts d e sound_d sound_e one = let sound = makes_pair d e sound_d sound_e in
            both_has (takes d p) (takes e q)
            (takes_there place (Pair p q) there accepted (thing.Pair d e) sound
            (only d e sound one))

  module _ (place : Place) (by p q : ℕ)
      (there : slice_get nodes place.number ≡ Some (Gather by p q)) (accepted : Accepted place)
    where
      gathers_next : (products : List (Question × Question))
          → ((d e : Thing) → Sort (thing.Pair d e) → AnyOf (InProduct answers d e) products
          → In (thing.Pair d e) place.question)
          → AllOf (λ product. Has product.0 × Has product.1) products
          → AllOf (λ product. Accepted (at p product.0) × Accepted (at q product.1)) products
      gathers_next [] only has = tt
      gathers_next (product ∷ products) only has = (
        (
          λ d sound comes. let other = has.0.1 in
              ap is_some (parts d other.0 sound other.1 (inl (comes, other.2))).2,
          λ e sound comes. let other = has.0.0 in
              ap is_some (parts other.0 e other.1 sound (inl (other.2, comes))).3,
        ),
        gathers_next products (λ d e sound one. only d e sound (inr one)) has.1,
      )
        where
          parts : (d e : Thing) → Sort d → Sort e
              → AnyOf (InProduct answers d e) (product ∷ products) → (first second : Captures ℕ)
              × (takes d p ≡ Some first) × (takes e q ≡ Some second)
          parts d e sound_d sound_e one = let sound = makes_pair d e sound_d sound_e in
              gathered_has by d (takes d p) (takes e q)
              (takes_there place (Gather by p q) there accepted (thing.Pair d e) sound
              (only d e sound one))

  pub pair_next : (place : Place) (p q : ℕ) → slice_get nodes place.number ≡ Some (Pair p q)
      → Accepted place → (products : List (Question × Question))
      → AreProducts answers Sort place.question products
      → AllOf (λ product. Accepted (at p product.0) × Accepted (at q product.1)) products
  pair_next place p q there accepted products are =
      pairs_next place p q there accepted products are.only are.inhabited

  pub gather_next : (place : Place) (by p q : ℕ)
      → slice_get nodes place.number ≡ Some (Gather by p q)
      → Accepted place → (products : List (Question × Question))
      → AreProducts answers Sort place.question products
      → AllOf (λ product. Accepted (at p product.0) × Accepted (at q product.1)) products
  gather_next place by p q there accepted products are =
      gathers_next place by p q there accepted products are.only are.inhabited

  -- XML things
  module _ (place : Place) (p q r : ℕ) (there : slice_get nodes place.number ≡ Some (Xml p q r))
      (accepted : Accepted place) where
    abbrev ThreeAccepted : Question × Question × Question → Type 0
    ThreeAccepted triple = Accepted (at p triple.0) × Accepted (at q triple.1)
        × Accepted (at r triple.2)

    triples_next : (triples : List (Question × Question × Question))
        → ((d e f : Thing) → Sort d → Sort e → Sort f → AnyOf (InTriple answers d e f) triples
        → Sort (thing.Xml d e f) × In (thing.Xml d e f) place.question)
        → AllOf (λ triple. Has triple.0 × Has triple.1 × Has triple.2) triples
        → AllOf ThreeAccepted triples
    triples_next [] makes has = tt
    triples_next (triple ∷ triples) makes has = (
      (
        λ d sound comes. ap is_some (parts d e.0 f.0 sound e.1 f.1 comes e.2 f.2).2,
        λ e sound comes. ap is_some (rest d.0 e f.0 d.1 sound f.1 d.2 comes f.2).2,
        λ f sound comes. ap is_some (rest d.0 e.0 f d.1 e.1 sound d.2 e.2 comes).3,
      ),
      triples_next triples (λ d e f sound_d sound_e sound_f one. makes d e f sound_d sound_e sound_f
          (inr one)) has.1,
    )
      where
        d : Has triple.0
        d = has.0.0

        e : Has triple.1
        e = has.0.1

        f : Has triple.2
        f = has.0.2

        parts : (d e f : Thing) → Sort d → Sort e → Sort f → In d triple.0 → In e triple.1
            → In f triple.2 → (first second : Captures ℕ)
            × (takes d p ≡ Some first) × (both (takes e q) (takes f r) ≡ Some second)
        parts d e f sound_d sound_e sound_f in_d in_e in_f =
            let made = makes d e f sound_d sound_e sound_f (inl (in_d, in_e, in_f)) in
            both_has (takes d p) (both (takes e q) (takes f r))
            (takes_there place (Xml p q r) there accepted (thing.Xml d e f) made.0 made.1)

        rest : (d e f : Thing) → Sort d → Sort e → Sort f → In d triple.0 → In e triple.1
            → In f triple.2 → (first second : Captures ℕ)
            × (takes e q ≡ Some first) × (takes f r ≡ Some second)
        rest d e f sound_d sound_e sound_f in_d in_e in_f = both_has (takes e q) (takes f r)
            (ap is_some (parts d e f sound_d sound_e sound_f in_d in_e in_f).3)

  pub xml_next : (place : Place) (p q r : ℕ) → slice_get nodes place.number ≡ Some (Xml p q r)
      → Accepted place → (triples : List (Question × Question × Question))
      → AreTriples answers Sort place.question triples
      → AllOf (λ triple. Accepted (at p triple.0) × Accepted (at q triple.1)
      × Accepted (at r triple.2)) triples
  xml_next place p q r there accepted triples are =
      triples_next place p q r there accepted triples are.makes are.inhabited

  -- records: each thing of a cell is at its label in a record of the question
  module _ (question : Question) where
    abbrev AllTaken : List (Name × KernelField NodeId) → Type 0
    AllTaken named = (fields : thing.Fields) → Sort (thing.Record fields)
        → In (thing.Record fields) question → is_some (fields_take test nodes fields named) ≡ true

    later_taken : (field : Name × KernelField NodeId) (named : List (Name × KernelField NodeId))
        → AllTaken (field ∷ named) → AllTaken named
    later_taken field named all fields sound comes =
        ap is_some (both_has (field_takes test nodes fields field)
        (fields_take test nodes fields named) (all fields sound comes)).3

    cells_next : (named : List (Name × KernelField NodeId)) (row : List Question) → AllTaken named
        → Picks answers Sort question named row
        → AllOf (NextHas Accepted) (cell_steps named row)
    cells_next [] row all picks = tt
    cells_next ((label, Present number) ∷ named) [] all picks = tt
    cells_next ((label, Present number) ∷ named) (cell ∷ row) all picks = (
      λ d sound comes. let (fields, sound_all, inside, at_it) = picks.0 d sound comes in
          ap is_some (sym (present_takes test nodes fields label number d at_it)
          ∙ (both_has (field_takes test nodes fields (label, Present number))
          (fields_take test nodes fields named) (all fields sound_all inside)).2),
      cells_next named row (later_taken (label, Present number) named all) picks.1,
    )
    cells_next ((label, Optional type) ∷ named) row all picks =
        cells_next named row (later_taken (label, Optional type) named all) picks

    rows_next : (named : List (Name × KernelField NodeId)) (rows : List (List Question))
        → AllTaken named → AllOf (Picks answers Sort question named) rows
        → AllOf (λ row. AllOf (NextHas Accepted) (cell_steps named row)) rows
    rows_next named [] all picks = tt
    rows_next named (row ∷ rows) all picks =
        (cells_next named row all picks.0, rows_next named rows all picks.1)

  pub record_next : (place : Place) (named : List (Name × KernelField NodeId)) (more : Bool)
      → slice_get nodes place.number ≡ Some (Record named more) → Accepted place
      → (rows : List (List Question)) → AllOf (Picks answers Sort place.question named) rows
      → AllOf (λ row. AllOf (NextHas Accepted) (cell_steps named row)) rows
  record_next place named more there accepted rows picks = rows_next place.question named rows
      (λ fields sound comes. if_some (more || all_named named fields)
      (fields_take test nodes fields named)
      (takes_there place (Record named more) there accepted (thing.Record fields) sound comes))
      picks

  -- so of all steps
  pairs_step : (p q : ℕ) (products : List (Question × Question))
      → AllOf (λ product. Accepted (at p product.0) × Accepted (at q product.1)) products
      → AllOf (NextHas Accepted) (pair_steps p q products)
  pairs_step p q [] all = tt
  pairs_step p q (product ∷ products) all = (all.0.0, (all.0.1, pairs_step p q products all.1))

  gathers_step : (by p q : ℕ) (products : List (Question × Question))
      → AllOf (λ product. Accepted (at p product.0) × Accepted (at q product.1)) products
      → AllOf (NextHas Accepted) (gather_steps by p q products)
  gathers_step by p q [] all = tt
  gathers_step by p q (product ∷ products) all =
      (all.0.0, (all.0.1, (all.0.1, gathers_step by p q products all.1)))

  triples_step : (p q r : ℕ) (triples : List (Question × Question × Question))
      → AllOf (λ triple. Accepted (at p triple.0) × Accepted (at q triple.1)
      × Accepted (at r triple.2)) triples
      → AllOf (NextHas Accepted) (triple_steps p q r triples)
  triples_step p q r [] all = tt
  triples_step p q r (triple ∷ triples) all =
      (all.0.0, (all.0.1, (all.0.2, triples_step p q r triples all.1)))

  rows_step : (named : List (Name × KernelField NodeId)) (rows : List (List Question))
      → AllOf (λ row. AllOf (NextHas Accepted) (cell_steps named row)) rows
      → AllOf (NextHas Accepted) (row_steps named rows)
  rows_step named [] all = tt
  rows_step named (row ∷ rows) all = each_of_lists (NextHas Accepted) (cell_steps named row)
      (row_steps named rows) all.0 (rows_step named rows all.1)

  -- where these nodes accept what the first of two nodes takes
  module _ (accepts : ℕ → NodeId) (place : Place) (accepted : Accepted place) where
    abbrev pub AcceptsFirst : Option (KernelNode NodeId) → Type 0
    AcceptsFirst (Some (First p q)) = (d : Thing) → Sort d
        → answers d (accepts p) (is_some (takes d p))
    AcceptsFirst _ = Unit {0}

    pub all_next : (node : Option (KernelNode NodeId)) → slice_get nodes place.number ≡ node
        → AcceptsFirst node → (steps : List Step)
        → AreSteps answers Sort true accepts place.question node steps
        → AllOf (NextHas Accepted) steps
    all_next None there accepting steps are = absurd are
    all_next (Some (Test type)) there accepting steps are =
        subst (AllOf (NextHas Accepted)) (sym are) tt
    all_next (Some (Bind by)) there accepting steps are =
        subst (AllOf (NextHas Accepted)) (sym are) (tt, tt)
    all_next (Some (Put by constant)) there accepting steps are =
        subst (AllOf (NextHas Accepted)) (sym are) (tt, tt)
    all_next (Some (Both p q)) there accepting steps are =
        let next = both_next place p q there accepted in
        subst (AllOf (NextHas Accepted)) (sym are) (next.0, (next.1, tt))
    all_next (Some (First p q)) there accepting steps are =
        let next = first_next place p q (accepts p) there accepting are.0 are.1 are.2 are.3
        accepted in
        subst (AllOf (NextHas Accepted)) (sym are.4) (next.0, (next.1, tt))
    all_next (Some (Pair p q)) there accepting steps are =
        subst (AllOf (NextHas Accepted)) (sym are.2)
        (pairs_step p q are.0 (pair_next place p q there accepted are.0 are.1))
    all_next (Some (Gather by p q)) there accepting steps are =
        subst (AllOf (NextHas Accepted)) (sym are.2)
        (gathers_step by p q are.0 (gather_next place by p q there accepted are.0 are.1))
    all_next (Some (Xml p q r)) there accepting steps are =
        subst (AllOf (NextHas Accepted)) (sym are.2)
        (triples_step p q r are.0 (xml_next place p q r there accepted are.0 are.1))
    all_next (Some (Record named more)) there accepting steps are =
        subst (AllOf (NextHas Accepted)) (sym are.2)
        (rows_step named are.0
        (record_next place named more there accepted are.0 are.1.picks))
