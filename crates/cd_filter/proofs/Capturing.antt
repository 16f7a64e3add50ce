-- What the steps of a place give is captured there, so what is caught is captured.
use Rattle.std.proofs.Common.{◌≡◌, ◌≢◌, ℕ, ◌<◌, Bool, true, false, List, [], ◌∷◌, ◌++◌, ◌⊎◌, inl}
use Rattle.std.proofs.Common.{inr}
use Rattle.std.proofs.Common.{length, Option, Some, None, option_map, is_some, refl, sym, ap, ap₂}
use Rattle.std.proofs.Common.{subst, ◌∙◌, eqb, ◌||◌, if◌then◌else◌}
use Rattle.std.specs.List.{slice_get}
use Rattle.std.proofs.lemmas.Option.{none-some, same_Some, slice_get_within}
use Rattle.std.proofs.lemmas.Bool.{true≢false}
use Rattle.std.proofs.lemmas.Bool.Decides.{eqb_tells}
use Rattle.cd_sets.specs.declared.node_id.NodeId.{NodeId}
use Rattle.cd_sets.specs.declared.question.Question.{Question}
use Rattle.cd_syntax.specs.Name.{Name}
use Rattle.cd_model.specs.AllOf.{AllOf, AnyOf}
use Rattle.cd_model.specs.Formula.{asked}
use Rattle.cd_model.specs.Thing as thing
use Rattle.cd_model.specs.Thing.{Thing}
use Rattle.cd_model.specs.Types.{Answers}
use Rattle.cd_model.proofs.ByNumber.{all_got}
use Rattle.cd_matching.specs.Captures.{Captures, or_else, joined, both}
use Rattle.cd_matching.specs.Kernel.{KernelNode, KernelField, Present, Optional, Test, Bind, Put}
use Rattle.cd_matching.specs.Kernel.{Pair, Xml, Record, Both, First, Gather, field_nodes, leads_to}
use Rattle.cd_matching.specs.Kernel.{parts_of, Binds, BindDisjoint, IsSoundNode, just, before}
use Rattle.cd_matching.specs.Kernel.{gathered}
use Rattle.cd_matching.specs.Kernel.{by_node, all_named, apart_of, taken}
use Rattle.cd_matching.specs.Sequences.{thing_of}
use Rattle.cd_matching.specs.Take.{at_label}
use Rattle.cd_matching.proofs.Binding.{bound}
use Rattle.cd_matching.proofs.TakenCaptures.{both_some}
use Rattle.cd_matching.proofs.Unfolding.{unfolds}
use Rattle.cd_products.specs.QuestionBoxes.{IsInhabited}
use Rattle.cd_products.specs.Products.{InProduct, InTriple, AreProducts, AreTriples}
use Rattle.cd_filter.specs.Capturing.{Captured, IsAccepted, AreSteps, IsSettled, IsInhabitedPlace}
use Rattle.cd_filter.specs.Capturing.{IsWhole, AreAccepted, AreSoundAndAccepted}
use Rattle.cd_filter.specs.Caught.{Caught, CaughtIsCaptured, takes_it, puts_it, leads_on}
use Rattle.cd_filter.specs.Caught.{gathers_it}
use Rattle.cd_filter.specs.Table.{Place, Step, Takes, Puts, Leads, Gathers, Table, HasStep, IsAmong}
use Rattle.cd_filter.specs.Table.{at}
use Rattle.cd_filter.proofs.Giving.{Gives, OfProduct, OfGather, OfTriple, OfField, pair_gives}
use Rattle.cd_filter.proofs.Giving.{gather_gives, triple_gives, row_gives}
use Rattle.cd_filter.proofs.NamedFields.{both_of_all}
use Rattle.cd_filter.proofs.Steps.{Product, Triple, entry_of}
use Rattle.cd_filter.proofs.TakenParts.{field_takes, fields_take, present_takes, absent_takes}
use Rattle.cd_filter.proofs.TakenParts.{optional_none}

none_or : {A : Type 0} (o : Option A) → (o ≡ None) ⊎ ((x : A) × (o ≡ Some x))
none_or None = inl refl
none_or (Some x) = inr (x, refl)

is_some_has : {A : Type 0} (o : Option A) → is_some o ≡ true → (x : A) × (o ≡ Some x)
is_some_has None h = absurd (true≢false (sym h))
is_some_has (Some x) h = (x, refl)

pub both_has : {K : Type 0} (one other : Option (Captures K)) → is_some (both one other) ≡ true
    → (first second : Captures K) × (one ≡ Some first) × (other ≡ Some second)
both_has (Some first) (Some second) h = (first, second, refl, refl)
both_has (Some first) None h = absurd (true≢false (sym h))
both_has None other h = absurd (true≢false (sym h))

pub gathered_has : (by : ℕ) (d : Thing) (one other : Option (Captures ℕ))
    → is_some (gathered by d one other) ≡ true
    → (first second : Captures ℕ) × (one ≡ Some first) × (other ≡ Some second)
gathered_has by d (Some first) (Some second) h = (first, second, refl, refl)
gathered_has by d (Some first) None h = absurd (true≢false (sym h))
gathered_has by d None other h = absurd (true≢false (sym h))

joined_first : (first second : Captures ℕ) (variable : ℕ) (what : Thing)
    → first variable ≡ Some what → joined first second variable ≡ Some what
joined_first first second variable what has = ap (λ o. or_else o (second variable)) has

joined_second : (first second : Captures ℕ) (variable : ℕ) (what : Thing)
    → first variable ≡ None → second variable ≡ Some what
    → joined first second variable ≡ Some what
joined_second first second variable what none has =
    ap (λ o. or_else o (second variable)) none ∙ has

if_true : {A : Type 0} (b : Bool) (one other : A) → b ≡ true → (if b then one else other) ≡ one
if_true true one other h = refl
if_true false one other h = absurd (true≢false (sym h))

if_false : {A : Type 0} (b : Bool) (one other : A) → b ≡ false → (if b then one else other) ≡ other
if_false true one other h = absurd (true≢false h)
if_false false one other h = refl

eqb_same : (n m : ℕ) → n ≡ m → eqb n m ≡ true
eqb_same n m same = elim (eqb_tells n m) [
  | inl is ↦ is.0
  | inr differs ↦ absurd (differs.1 same)
]

eqb_differs : (n m : ℕ) → n ≢ m → eqb n m ≡ false
eqb_differs n m differs = elim (eqb_tells n m) [
  | inl same ↦ absurd (differs same.1)
  | inr is ↦ is.0
]

-- what is so of one in a list
among : {A : Type 0} (P : A → Type 0) (xs : List A) (x : A) → AnyOf (λ y. y ≡ x) xs → P x
    → AnyOf P xs
among P [] x one fact = one
among P (y ∷ xs) x (inl same) fact = inl (subst P (sym same) fact)
among P (y ∷ xs) x (inr later) fact = inr (among P xs x later fact)

pub all_among : {A : Type 0} (P : A → Type 0) (xs : List A) (x : A) → AllOf P xs
    → AnyOf (λ y. y ≡ x) xs → P x
all_among P [] x all one = absurd one
all_among P (y ∷ xs) x all (inl same) = subst P same all.0
all_among P (y ∷ xs) x all (inr later) = all_among P xs x all.1 later

same_captures : (variable : ℕ) (o : Option (Captures ℕ)) (c d : Captures ℕ) (what : Thing)
    → o ≡ Some c → o ≡ Some d → c variable ≡ Some what → d variable ≡ Some what
same_captures variable o c d what one other has =
    ap (λ (e : Captures ℕ). e variable) (same_Some d c (sym other ∙ one)) ∙ has

module _ (answers : Thing → Answers NodeId) (Sort : Thing → Type 0)
    (makes_pair : (d e : Thing) → Sort d → Sort e → Sort (thing.Pair d e))
    (apart : (d : Thing) (id : NodeId) → answers d id true → answers d id false → ⊥)
    (test : NodeId → Thing → Bool) (nodes : List (KernelNode NodeId)) (accepts : ℕ → NodeId)
    (variables : ℕ) (IsType : NodeId → Type 0)
    (are : AreSoundAndAccepted answers Sort test nodes accepts variables IsType)
    (variable : ℕ) where
  abbrev takes : Thing → ℕ → Option (Captures ℕ)
  takes = taken NodeId test nodes

  abbrev In : Thing → Question → Type 0
  In d question = asked (answers d) question true

  abbrev CapturedAt : Place → Thing → Type 0
  CapturedAt = Captured answers Sort test nodes variable

  abbrev Has : Question → Type 0
  Has = IsInhabited answers Sort

  abbrev GivesIt : Question → Thing → Step → Type 0
  GivesIt = Gives answers Sort test nodes variable

  abbrev IsAcceptedPlace : Place → Type 0
  IsAcceptedPlace = IsAccepted answers Sort test nodes

  -- a variable that is not bound captures nothing
  is_bound : (d : Thing) (number : ℕ) (captures : Captures ℕ) (what : Thing)
      → number < length nodes → takes d number ≡ Some captures → captures variable ≡ Some what
      → Binds nodes variable number
  is_bound = bound NodeId test nodes variable are.in_range are.ends

  captures_none : (d : Thing) (number : ℕ) (captures : Captures ℕ) → number < length nodes
      → takes d number ≡ Some captures → (Binds nodes variable number → ⊥)
      → captures variable ≡ None
  captures_none d number captures within takes_d not_bound = elim (none_or (captures variable)) [
    | inl none ↦ none
    | inr some ↦ absurd (not_bound (is_bound d number captures some.0 within takes_d some.1))
  ]

  -- two parts, one of which captures it
  of_parts : (d e : Thing) (p q : ℕ) → AllOf (λ number. number < length nodes) (p ∷ q ∷ [])
      → BindDisjoint nodes (p ∷ q ∷ []) → (b c : Captures ℕ) → takes d p ≡ Some b
      → takes e q ≡ Some c → (what : Thing)
      → (b variable ≡ Some what) ⊎ (c variable ≡ Some what) → joined b c variable ≡ Some what
  of_parts d e p q within disjoint b c takes_d takes_e what (inl has) =
      joined_first b c variable what has
  of_parts d e p q within disjoint b c takes_d takes_e what (inr has) =
      joined_second b c variable what
      (captures_none d p b within.0 takes_d
      (λ binds. (disjoint.0 variable binds).0 (is_bound e q c what within.1.0 takes_e has))) has

  module _ (place : Place) (what : Thing) (node : KernelNode NodeId)
      (there : slice_get nodes place.number ≡ Some node) (accepted : IsAcceptedPlace place) where
    abbrev at_it : Thing → Option (Captures ℕ)
    at_it d = by_node NodeId test nodes d (apart_of NodeId test nodes d) (takes d) (Some node)

    reads : (d : Thing) → takes d place.number ≡ at_it d
    reads d = unfolds NodeId test nodes d place.number
        (are.ends place.number (slice_get_within nodes place.number node there))
        ∙ ap (by_node NodeId test nodes d (apart_of NodeId test nodes d) (takes d)) there

    takes_there : (d : Thing) → Sort d → In d place.question → is_some (at_it d) ≡ true
    takes_there d sound comes = sym (ap is_some (reads d)) ∙ accepted d sound comes

    captures_it : (d : Thing) → Sort d → In d place.question → (captures : Captures ℕ)
        → at_it d ≡ Some captures → captures variable ≡ Some what → CapturedAt place what
    captures_it d sound comes captures takes_d has =
        (d, captures, sound, comes, reads d ∙ takes_d, has)

    is_sound : IsSoundNode nodes variables IsType node
    is_sound =
        all_got (IsSoundNode nodes variables IsType) nodes place.number node are.sound there

    is_in_range : AllOf (λ number. number < length nodes) (leads_to node ++ parts_of node)
    is_in_range = all_got
        (λ node. AllOf (λ number. number < length nodes) (leads_to node ++ parts_of node)) nodes
        place.number node are.in_range there

  module _ (place : Place) (what : Thing) (p q : ℕ)
      (there : slice_get nodes place.number ≡ Some (Both p q))
      (accepted : IsAcceptedPlace place) where
    of_both : (d : Thing) → Sort d → In d place.question
        → ((b c : Captures ℕ) → takes d p ≡ Some b → takes d q ≡ Some c
        → (b variable ≡ Some what) ⊎ (c variable ≡ Some what)) → CapturedAt place what
    of_both d sound comes has =
        let parts = both_has (takes d p) (takes d q)
        (takes_there place what (Both p q) there accepted d sound comes) in
        captures_it place what (Both p q) there accepted d sound comes (joined parts.0 parts.1)
        (ap₂ both parts.2 parts.3)
        (of_parts d d p q (is_in_range place what (Both p q) there accepted)
        (is_sound place what (Both p q) there accepted) parts.0 parts.1 parts.2 parts.3 what
        (has parts.0 parts.1 parts.2 parts.3))

    at_both : CapturedAt (at p place.question) what ⊎ CapturedAt (at q place.question) what
        → CapturedAt place what
    at_both (inl given) = of_both given.0 given.2 given.3
        (λ b c takes_b takes_c. inl
        (same_captures variable (takes given.0 p) given.1 b what given.4 takes_b given.5))
    at_both (inr given) = of_both given.0 given.2 given.3
        (λ b c takes_b takes_c. inr
        (same_captures variable (takes given.0 q) given.1 c what given.4 takes_c given.5))

  module _ (place : Place) (what : Thing) (p q : ℕ)
      (there : slice_get nodes place.number ≡ Some (First p q))
      (accepted : IsAcceptedPlace place) where
    at_first : (narrowed : Question)
        → ((d : Thing) → Sort d → In d narrowed → In d place.question)
        → CapturedAt (at p narrowed) what → CapturedAt place what
    at_first narrowed within given =
        captures_it place what (First p q) there accepted given.0 given.2
        (within given.0 given.2 given.3) given.1
        (ap (λ (o : Option (Captures ℕ)). or_else o (takes given.0 q)) given.4) given.5

    at_second : (narrowed : Question)
        → ((d : Thing) → Sort d → In d narrowed
        → In d place.question × answers d (accepts p) false)
        → CapturedAt (at q narrowed) what → CapturedAt place what
    at_second narrowed without given =
        let comes = without given.0 given.2 given.3 in
        captures_it place what (First p q) there accepted given.0 given.2 comes.0 given.1
        (ap (λ (o : Option (Captures ℕ)). or_else o (takes given.0 q))
        (fails given.0 given.2 comes.1) ∙ given.4) given.5
      where
        fails : (d : Thing) → Sort d → answers d (accepts p) false → takes d p ≡ None
        fails d sound out = elim (none_or (takes d p)) [
          | inl none ↦ none
          | inr some ↦ absurd (apart d (accepts p)
              (subst (λ (o : Option (Captures ℕ)). answers d (accepts p) (is_some o)) some.1
              (are.accepting d p sound)) out)
        ]

  module _ (place : Place) (what : Thing) (p q : ℕ)
      (there : slice_get nodes place.number ≡ Some (Pair p q)) (accepted : IsAcceptedPlace place)
      (products : List Product) (exact : AreProducts answers Sort place.question products) where
    of_pair : (d e : Thing) → Sort d → Sort e → (product : Product)
        → AnyOf (λ other. other ≡ product) products → In d product.0 → In e product.1
        → ((b c : Captures ℕ) → takes d p ≡ Some b → takes e q ≡ Some c
        → (b variable ≡ Some what) ⊎ (c variable ≡ Some what)) → CapturedAt place what
    of_pair d e sound_d sound_e product one in_d in_e has =
        let sound = makes_pair d e sound_d sound_e in
        let comes = exact.only d e sound
        (among (InProduct answers d e) products product one (in_d, in_e)) in
        let parts = both_has (takes d p) (takes e q)
        (takes_there place what (Pair p q) there accepted (thing.Pair d e) sound comes) in
        captures_it place what (Pair p q) there accepted (thing.Pair d e) sound comes
        (joined parts.0 parts.1) (ap₂ both parts.2 parts.3)
        (of_parts d e p q (is_in_range place what (Pair p q) there accepted)
        (is_sound place what (Pair p q) there accepted) parts.0 parts.1 parts.2 parts.3 what
        (has parts.0 parts.1 parts.2 parts.3))

    at_pair : OfProduct answers Sort test nodes variable p q products what → CapturedAt place what
    at_pair (product, one, has_d, has_e, inl given) =
        of_pair given.0 has_e.0 given.2 has_e.1 product one given.3 has_e.2
        (λ b c takes_b takes_c. inl
        (same_captures variable (takes given.0 p) given.1 b what given.4 takes_b given.5))
    at_pair (product, one, has_d, has_e, inr given) =
        of_pair has_d.0 given.0 has_d.1 given.2 product one has_d.2 given.3
        (λ b c takes_b takes_c. inr
        (same_captures variable (takes given.0 q) given.1 c what given.4 takes_c given.5))

  module _ (place : Place) (what : Thing) (by p q : ℕ)
      (there : slice_get nodes place.number ≡ Some (Gather by p q))
      (accepted : IsAcceptedPlace place) (products : List Product)
      (exact : AreProducts answers Sort place.question products) where
    of_gather : (d e : Thing) → Sort d → Sort e → (product : Product)
        → AnyOf (λ other. other ≡ product) products → In d product.0 → In e product.1
        → ((b c : Captures ℕ) → takes d p ≡ Some b → takes e q ≡ Some c
        → joined b (before by d c) variable ≡ Some what) → CapturedAt place what
    of_gather d e sound_d sound_e product one in_d in_e has =
        let sound = makes_pair d e sound_d sound_e in
        let comes = exact.only d e sound
        (among (InProduct answers d e) products product one (in_d, in_e)) in
        let parts = gathered_has by d (takes d p) (takes e q)
        (takes_there place what (Gather by p q) there accepted (thing.Pair d e) sound comes) in
        captures_it place what (Gather by p q) there accepted (thing.Pair d e) sound comes
        (joined parts.0 (before by d parts.1)) (ap₂ (gathered by d) parts.2 parts.3)
        (has parts.0 parts.1 parts.2 parts.3)

    range : AllOf (λ number. number < length nodes) (p ∷ q ∷ [])
    range = is_in_range place what (Gather by p q) there accepted

    sound : IsSoundNode nodes variables IsType (Gather by p q)
    sound = is_sound place what (Gather by p q) there accepted

    at_gather : OfGather answers Sort test nodes variable by p q products what
        → CapturedAt place what
    at_gather (product, one, has_d, has_e, inl given) =
        of_gather given.0 has_e.0 given.2 has_e.1 product one given.3 has_e.2
        (λ b c takes_b takes_c. joined_first b (before by given.0 c) variable what
        (same_captures variable (takes given.0 p) given.1 b what given.4 takes_b given.5))
    at_gather (product, one, has_d, has_e, inr (inl (differs, given))) =
        of_gather has_d.0 given.0 has_d.1 given.2 product one has_d.2 given.3
        (λ b c takes_b takes_c.
        let has = same_captures variable (takes given.0 q) given.1 c what given.4 takes_c given.5 in
        joined_second b (before by has_d.0 c) variable what
        (captures_none has_d.0 p b range.0 takes_b
        (λ binds. (sound.1.0 variable binds).0 (is_bound given.0 q c what range.1.0 takes_c has)))
        (if_false (eqb by variable) _ (c variable)
        (eqb_differs by variable (λ same. differs (ap Some same))) ∙ has))
    at_gather (
      product,
      one,
      has_d,
      has_e,
      inr (inr (same, (item, rest, is_item, inside, given, made))),
    ) =
        of_gather item given.0 is_item given.2 product one inside given.3
        (λ b c takes_b takes_c. joined_second b (before by item c) variable what
        (captures_none item p b range.0 takes_b
        (λ binds. sound.2 (subst (λ v. Binds nodes v p) (sym same) binds)))
        (if_true (eqb by variable) (option_map (thing.Pair item) (c variable)) _
        (eqb_same by variable same)
        ∙ ap (option_map (thing.Pair item))
        (same_captures variable (takes given.0 q) given.1 c rest given.4 takes_c given.5)
        ∙ ap Some (sym made)))

  module _ (place : Place) (what : Thing) (p q r : ℕ)
      (there : slice_get nodes place.number ≡ Some (Xml p q r))
      (accepted : IsAcceptedPlace place) (triples : List Triple)
      (exact : AreTriples answers Sort place.question triples) where
    of_triple : (d e f : Thing) → Sort d → Sort e → Sort f → (triple : Triple)
        → AnyOf (λ other. other ≡ triple) triples → In d triple.0 → In e triple.1 → In f triple.2
        → ((a b c : Captures ℕ) → takes d p ≡ Some a → takes e q ≡ Some b → takes f r ≡ Some c
        → joined a (joined b c) variable ≡ Some what) → CapturedAt place what
    of_triple d e f sound_d sound_e sound_f triple one in_d in_e in_f has =
        let made = exact.makes d e f sound_d sound_e sound_f
        (among (InTriple answers d e f) triples triple one (in_d, in_e, in_f)) in
        let parts = both_has (takes d p) (both (takes e q) (takes f r))
        (takes_there place what (Xml p q r) there accepted (thing.Xml d e f) made.0 made.1) in
        let rest = both_has (takes e q) (takes f r) (ap is_some parts.3) in
        captures_it place what (Xml p q r) there accepted (thing.Xml d e f) made.0 made.1
        (joined parts.0 (joined rest.0 rest.1)) (ap₂ both parts.2 (ap₂ both rest.2 rest.3))
        (has parts.0 rest.0 rest.1 parts.2 rest.2 rest.3)

    three_in_range : AllOf (λ number. number < length nodes) (p ∷ q ∷ r ∷ [])
    three_in_range = is_in_range place what (Xml p q r) there accepted

    three_apart : BindDisjoint nodes (p ∷ q ∷ r ∷ [])
    three_apart = is_sound place what (Xml p q r) there accepted

    at_xml : OfTriple answers Sort test nodes variable p q r triples what → CapturedAt place what
    at_xml (triple, one, has, inl given) =
        of_triple given.0 has.1.0 has.2.0 given.2 has.1.1 has.2.1 triple one given.3 has.1.2 has.2.2
        (λ a b c takes_a takes_b takes_c. joined_first a (joined b c) variable what
        (same_captures variable (takes given.0 p) given.1 a what given.4 takes_a given.5))
    at_xml (triple, one, has, inr (inl given)) =
        of_triple has.0.0 given.0 has.2.0 has.0.1 given.2 has.2.1 triple one has.0.2 given.3 has.2.2
        (λ a b c takes_a takes_b takes_c.
        let it = same_captures variable (takes given.0 q) given.1 b what given.4 takes_b given.5 in
        joined_second a (joined b c) variable what
        (captures_none has.0.0 p a three_in_range.0 takes_a
        (λ binds. (three_apart.0 variable binds).0
        (is_bound given.0 q b what three_in_range.1.0 takes_b it)))
        (joined_first b c variable what it))
    at_xml (triple, one, has, inr (inr given)) =
        of_triple has.0.0 has.1.0 given.0 has.0.1 has.1.1 given.2 triple one has.0.2 has.1.2 given.3
        (λ a b c takes_a takes_b takes_c.
        let it = same_captures variable (takes given.0 r) given.1 c what given.4 takes_c given.5 in
        let binds_last = is_bound given.0 r c what three_in_range.1.1.0 takes_c it in
        joined_second a (joined b c) variable what
        (captures_none has.0.0 p a three_in_range.0 takes_a
        (λ binds. (three_apart.0 variable binds).1.0 binds_last))
        (joined_second b c variable what
        (captures_none has.1.0 q b three_in_range.1.0 takes_b
        (λ binds. (three_apart.1.0 variable binds).0 binds_last)) it))

  -- records
  abbrev Named : Type 0
  Named = List (Name × KernelField NodeId)

  abbrev node_of : KernelField NodeId → Option ℕ
  node_of (Present n) = Some n
  node_of (Optional id) = None

  field_among : (named : Named) (label : Name) (number : ℕ)
      → AnyOf (λ field. field ≡ (label, Present number)) named
      → AnyOf (λ other. other ≡ number) (field_nodes named)
  field_among [] label number one = absurd one
  field_among ((name, Present other) ∷ named) label number (inl same) =
      inl (same_Some other number (ap (λ (f : Name × KernelField NodeId). node_of f.1) same))
  field_among ((name, Present other) ∷ named) label number (inr later) =
      inr (field_among named label number later)
  field_among ((name, Optional id) ∷ named) label number (inl same) = absurd
      (none-some number (ap (λ (f : Name × KernelField NodeId). node_of f.1) same))
  field_among ((name, Optional id) ∷ named) label number (inr later) =
      field_among named label number later

  tail_range : (field : Name × KernelField NodeId) (named : Named)
      → AllOf (λ n. n < length nodes) (field_nodes (field ∷ named))
      → AllOf (λ n. n < length nodes) (field_nodes named)
  tail_range (name, Present other) named within = within.1
  tail_range (name, Optional id) named within = within

  tail_apart : (field : Name × KernelField NodeId) (named : Named)
      → BindDisjoint nodes (field_nodes (field ∷ named)) → BindDisjoint nodes (field_nodes named)
  tail_apart (name, Present other) named disjoint = disjoint.1
  tail_apart (name, Optional id) named disjoint = disjoint

  module _ (fields : thing.Fields) (what : Thing) (label : Name) (number : ℕ) (d : Thing)
      (c : Captures ℕ) (at_it : at_label fields label ≡ Some d) (takes_d : takes d number ≡ Some c)
      (has : c variable ≡ Some what) where
    first_none : (field : Name × KernelField NodeId) (named : Named) (b : Captures ℕ)
        → AllOf (λ n. n < length nodes) (field_nodes (field ∷ named))
        → BindDisjoint nodes (field_nodes (field ∷ named))
        → AnyOf (λ other. other ≡ (label, Present number)) named
        → field_takes test nodes fields field ≡ Some b → b variable ≡ None
    first_none (name, Optional id) named b within disjoint later takes_b =
        sym (optional_none test nodes variable _ id b takes_b)
    first_none (name, Present other) named b within disjoint later takes_b =
        by_part (at_label fields name) refl
      where
        is_among : AnyOf (λ n. n ≡ number) (field_nodes named)
        is_among = field_among named label number later

        by_part : (o : Option Thing) → at_label fields name ≡ o → b variable ≡ None
        by_part (Some e) there = captures_none e other b within.0
            (sym (present_takes test nodes fields name other e there) ∙ takes_b)
            (λ binds. all_among (λ n. Binds nodes variable n → ⊥) (field_nodes named) number
            (disjoint.0 variable binds) is_among
            (is_bound d number c what
            (all_among (λ n. n < length nodes) (field_nodes named) number within.1 is_among)
            takes_d has))
        by_part None none = absurd
            (none-some b (sym (absent_takes test nodes fields name other none) ∙ takes_b))

    fields_have : (named : Named) → AllOf (λ n. n < length nodes) (field_nodes named)
        → BindDisjoint nodes (field_nodes named)
        → AnyOf (λ field. field ≡ (label, Present number)) named → (all : Captures ℕ)
        → fields_take test nodes fields named ≡ Some all → all variable ≡ Some what
    fields_have [] within disjoint one all takes_all = absurd one
    fields_have (field ∷ named) within disjoint (inl same) all takes_all =
        let two = both_some (field_takes test nodes fields field)
        (fields_take test nodes fields named) all takes_all in
        ap (λ (b : Captures ℕ). b variable) (sym two.4)
        ∙ joined_first two.0 two.1 variable what
        (ap (λ (b : Captures ℕ). b variable)
        (same_Some two.0 c (sym two.2 ∙ ap (field_takes test nodes fields) same
        ∙ present_takes test nodes fields label number d at_it ∙ takes_d)) ∙ has)
    fields_have (field ∷ named) within disjoint (inr later) all takes_all =
        let two = both_some (field_takes test nodes fields field)
        (fields_take test nodes fields named) all takes_all in
        ap (λ (b : Captures ℕ). b variable) (sym two.4)
        ∙ joined_second two.0 two.1 variable what
        (first_none field named two.0 within disjoint later two.2)
        (fields_have named (tail_range field named within) (tail_apart field named disjoint) later
        two.1 two.3)

  if_has : (b : Bool) (o : Option (Captures ℕ)) → is_some (if b then o else None) ≡ true
      → (c : Captures ℕ) × ((if b then o else None) ≡ Some c) × (o ≡ Some c)
  if_has true o h = let found = is_some_has o h in (found.0, found.1, found.1)
  if_has false o h = absurd (true≢false (sym h))

  at_record : (place : Place) (what : Thing) (named : Named) (more : Bool)
      → slice_get nodes place.number ≡ Some (Record named more) → IsAcceptedPlace place
      → OfField answers Sort test nodes variable place.question named what
      → CapturedAt place what
  at_record place what named more there accepted
      (label, number, d, c, one, takes_d, has, (fields, sound, comes, at_it)) =
      let all = if_has (more || all_named named fields) (fields_take test nodes fields named)
      (takes_there place what (Record named more) there accepted (thing.Record fields) sound
      comes) in
      captures_it place what (Record named more) there accepted (thing.Record fields) sound comes
      all.0 all.1
      (fields_have fields what label number d c at_it takes_d has named
      (is_in_range place what (Record named more) there accepted)
      (is_sound place what (Record named more) there accepted).1 one all.0 all.2)

  -- at each node
  at_node : (place : Place) (what : Thing) (node : Option (KernelNode NodeId))
      → slice_get nodes place.number ≡ node → IsAcceptedPlace place → (steps : List Step)
      → AreSteps answers Sort true accepts place.question node steps
      → AnyOf (GivesIt place.question what) steps → CapturedAt place what
  at_node place what None there accepted steps of_node given = absurd of_node
  at_node place what (Some (Test type)) there accepted steps of_node given =
      absurd (subst (AnyOf (GivesIt place.question what)) of_node given)
  at_node place what (Some (Bind by)) there accepted steps of_node given =
      elim (subst (AnyOf (GivesIt place.question what)) of_node given) [
        | inl here ↦ captures_it place what (Bind by) there accepted what here.1 here.2
            (just by what) refl
            (if_true (eqb by variable) (Some what) None (eqb_same by variable here.0))
        | inr none ↦ absurd none
      ]
  at_node place what (Some (Put by constant)) there accepted steps of_node given =
      elim (subst (AnyOf (GivesIt place.question what)) of_node given) [
        | inl here ↦ captures_it place what (Put by constant) there accepted here.2.0 here.2.1
            here.2.2 (just by (thing_of constant)) refl
            (if_true (eqb by variable) (Some (thing_of constant)) None
            (eqb_same by variable here.0) ∙ ap Some (sym here.1))
        | inr none ↦ absurd none
      ]
  at_node place what (Some (Both p q)) there accepted steps of_node given =
      elim (subst (AnyOf (GivesIt place.question what)) of_node given) [
        | inl here ↦ at_both place what p q there accepted (inl here.1)
        | inr (inl here) ↦ at_both place what p q there accepted (inr here.1)
        | inr (inr none) ↦ absurd none
      ]
  at_node place what (Some (First p q)) there accepted steps of_node given =
      elim (subst (AnyOf (GivesIt place.question what)) of_node.4 given) [
        | inl here ↦ at_first place what p q there accepted of_node.0
            (λ d sound inside. ((of_node.2 d sound).0 inside).0) here.1
        | inr (inl here) ↦ at_second place what p q there accepted of_node.1
            (λ d sound inside. (of_node.3 d sound).0 inside) here.1
        | inr (inr none) ↦ absurd none
      ]
  at_node place what (Some (Pair p q)) there accepted steps of_node given =
      at_pair place what p q there accepted of_node.0 of_node.1
      (pair_gives answers Sort test nodes variable place.question p q of_node.0 what
      of_node.1.inhabited (subst (AnyOf (GivesIt place.question what)) of_node.2 given))
  at_node place what (Some (Gather by p q)) there accepted steps of_node given =
      at_gather place what by p q there accepted of_node.0 of_node.1
      (gather_gives answers Sort test nodes variable place.question by p q of_node.0 what
      of_node.1.inhabited (subst (AnyOf (GivesIt place.question what)) of_node.2 given))
  at_node place what (Some (Xml p q r)) there accepted steps of_node given =
      at_xml place what p q r there accepted of_node.0 of_node.1
      (triple_gives answers Sort test nodes variable place.question p q r of_node.0 what
      of_node.1.inhabited (subst (AnyOf (GivesIt place.question what)) of_node.2 given))
  at_node place what (Some (Record named more)) there accepted steps of_node given =
      at_record place what named more there accepted
      (row_gives answers Sort test nodes variable place.question named of_node.0 what
      of_node.1.picks (subst (AnyOf (GivesIt place.question what)) of_node.2 given))

  module _ (table : Table) (whole : IsWhole answers Sort nodes true accepts table)
      (accepted : AreAccepted answers Sort test nodes table)
      (inhabited : AllOf (IsInhabitedPlace answers Sort) table) where
    abbrev Fact : Place × List Step → Type 0
    Fact entry = IsSettled answers Sort nodes true accepts entry
        × (IsAcceptedPlace entry.0 × IsInhabitedPlace answers Sort entry)

    facts : AllOf Fact table
    facts = both_of_all (IsSettled answers Sort nodes true accepts)
        (λ entry. IsAcceptedPlace entry.0 × IsInhabitedPlace answers Sort entry) Fact
        (λ entry one other. (one, other)) table whole.settled
        (both_of_all (λ entry. IsAcceptedPlace entry.0) (IsInhabitedPlace answers Sort)
        (λ entry. IsAcceptedPlace entry.0 × IsInhabitedPlace answers Sort entry)
        (λ entry one other. (one, other)) table accepted inhabited)

    given_by : (place : Place) (what : Thing) (step : Step) → HasStep table place step
        → (Has place.question → GivesIt place.question what step) → CapturedAt place what
    given_by place what step is given =
        let entry = entry_of Fact table facts place step is in
        elim entry.1.1.1 [
          | inl has ↦ elim entry.1.0 [
            | inl steps ↦ at_node place what (slice_get nodes place.number) refl entry.1.1.0 entry.0
                steps (among (GivesIt place.question what) entry.0 step entry.2 (given has))
            | inr none ↦ absurd (none.0 has)
          ]
          | inr no_step ↦ absurd (subst (IsAmong step) no_step entry.2)
        ]

    -- by induction on how it is caught
    caught_captured : (place : Place) (what : Thing)
        → Caught answers Sort table variable place what → CapturedAt place what
    caught_captured _ _ (takes_it place what is sound inside) =
        given_by place what (Takes variable) is (λ has. (refl, sound, inside))
    caught_captured _ _ (puts_it place constant is) =
        given_by place (thing_of constant) (Puts variable constant) is (λ has. (refl, refl, has))
    caught_captured _ _ (leads_on place next but what is other caught) =
        let further = caught_captured next what caught in
        given_by place what (Leads but next) is (λ has. (other, further))
    caught_captured _ _ (gathers_it place next item first rest is sound inside caught) =
        let further = caught_captured next rest caught in
        given_by place (thing.Pair first rest) (Gathers variable item next) is
        (λ has. (refl, (first, rest, sound, inside, further, refl)))

pub caught_is_captured : (answers : Thing → Answers NodeId) (Sort : Thing → Type 0)
    → ((d e : Thing) → Sort d → Sort e → Sort (thing.Pair d e))
    → ((d : Thing) (id : NodeId) → answers d id true → answers d id false → ⊥)
    → (test : NodeId → Thing → Bool) (nodes : List (KernelNode NodeId)) (accepts : ℕ → NodeId)
    (variables : ℕ) (IsType : NodeId → Type 0)
    → AreSoundAndAccepted answers Sort test nodes accepts variables IsType
    → CaughtIsCaptured answers Sort test nodes accepts
caught_is_captured answers Sort makes_pair apart test nodes accepts variables IsType are table
    variable place what whole accepted inhabited caught =
    caught_captured answers Sort makes_pair apart test nodes accepts variables IsType are variable
    table whole accepted inhabited place what caught
