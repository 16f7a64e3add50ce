-- Each node that the code makes of a pattern is a part of what is made of it.
use Rattle.std.proofs.Common.{◌≡◌, ◌<◌, ℕ, zero, suc, Bool, true, false, ◌||◌, List, [], ◌∷◌, ◌++◌}
use Rattle.std.proofs.Common.{inl, inr, length, Some, refl, subst}
use Rattle.std.specs.List.{slice_get}
use Rattle.std.proofs.lemmas.Option.{slice_get_within}
use Rattle.cd_sets.specs.declared.node_id.NodeId.{NodeId}
use Rattle.cd_syntax.specs.Name.{Name}
use Rattle.cd_model.specs.AllOf.{AllOf, AnyOf}
use Rattle.cd_model.specs.BuiltIns.{ANY, EMPTY}
use Rattle.cd_matching.specs.Kernel.{KernelNode, Present as APresent, Optional as AnOptional, Test}
use Rattle.cd_matching.specs.Kernel.{Bind, Put, Pair, Xml, Record, Both, First, leads_to, parts_of}
use Rattle.cd_matching.specs.Naming.{IsNamed, AreNamedFields}
use Rattle.cd_matching.specs.Pattern as pattern
use Rattle.cd_matching.specs.Pattern.{Pattern, Patterns, NoPattern, APattern, Fields, NoField}
use Rattle.cd_matching.specs.Pattern.{Regular, Regulars, NoRegular, ARegular}
use Rattle.cd_matching.specs.Variables.{binds, all_bind, fields_bind, is_plain}
use Rattle.cd_matching.specs.Variables.{one_is_plain as one_has_plain}
use Rattle.cd_matching.proofs.Falling.{is_there}
use Rattle.cd_kernel.specs.Alternatives.{HasAlternatives, HaveAlternatives}
use Rattle.cd_kernel.specs.Alternatives.{FieldsHaveAlternatives, RegularHasAlternatives}
use Rattle.cd_kernel.specs.Alternatives.{RegularsHaveAlternatives}
use Rattle.cd_moves.specs.Automaton.{items_of}
use Rattle.cd_kernel.specs.Making.{the_types, inner}
use Rattle.cd_kernel.specs.Parts as part
use Rattle.cd_kernel.specs.Parts.{IsPart}
use Rattle.cd_kernel.specs.WellMade.{IsWellMade, AreWellMade, AreWellMadeFields}
use Rattle.cd_kernel.specs.WellMade.{IsWellMadeRegular, AreWellMadeRegulars}
use Rattle.cd_kernel.specs.Inner.Building.{Nodes, put, put_if, KernelFields, sorted_over}
use Rattle.cd_kernel.specs.Inner.Building.{built, built_all, built_fields, built_items}
use Rattle.cd_kernel.specs.Inner.Building.{built_items_all}
use Rattle.cd_kernel.specs.Inner.Gathering.{numbered, groups_of}
use Rattle.cd_kernel.proofs.GoodPatterns.{IsGood, AreGood, AreGoodFields, IsGoodRegular}
use Rattle.cd_kernel.proofs.GoodPatterns.{AreGoodRegulars}
use Rattle.cd_kernel.proofs.GrowingNodes.{keeps_more}
use Rattle.cd_kernel.proofs.NamedParts.{AreNamed, ItemsNamed, AllItemsNamed, disjoint_named}
use Rattle.cd_kernel.proofs.NamedParts.{same_named, items_named}
use Rattle.cd_kernel.proofs.NodesReached.{AllReached, put_reached, chained_reached}
use Rattle.cd_kernel.proofs.PatternsBuilt.{Fits, Stays, or_left, or_right, inner_fits}
use Rattle.cd_kernel.proofs.PatternsBuilt.{inner_hides, copies_in, pattern_is, sequence_is}
use Rattle.cd_kernel.proofs.PatternsMade.{AreThere, pattern_is_made, all_are_made, fields_grow}
use Rattle.cd_kernel.proofs.PatternsMade.{items_grow, all_items_grow, there_later, there_end}
use Rattle.cd_kernel.proofs.PatternsMade.{chained_is_made, both_joins, first_joins}
use Rattle.cd_kernel.proofs.SequencesReached.{states_are_all, sequence_reached}

-- a fact of each thing of a list, which may rest on its number, or on that it is there
all_by_number : {A : Type 0} (P : A → Type 0) (xs : List A)
    → ((number : ℕ) (x : A) → slice_get xs number ≡ Some x → P x) → AllOf P xs
all_by_number P [] each = tt
all_by_number P (x ∷ xs) each =
    (each zero x refl, all_by_number P xs (λ number y there. each (suc number) y there))

each_there : {A : Type 0} (P Q : A → Type 0) (xs : List A) → AllOf P xs
    → ((x : A) → P x → AnyOf (λ other. other ≡ x) xs → Q x) → AllOf Q xs
each_there P Q [] all each = tt
each_there P Q (x ∷ xs) all each = (
  each x all.0 (inl refl),
  each_there P Q xs all.1 (λ y fact there. each y fact (inr there)),
)

module _ (variables : List Name) (final : Nodes) (IsType : NodeId → Type 0) where
  abbrev pub Part : ℕ → Type 0
  Part = IsPart IsType the_types variables final

  pub on : (number next : ℕ) (node : KernelNode NodeId) → Part number
      → slice_get final number ≡ Some node
      → AnyOf (λ other. other ≡ next) (leads_to node ++ parts_of node) → Part next
  on number next node is there one = part.next number next node is there one

  -- all of these nodes are parts
  abbrev pub Parts : Nodes → Type 0
  Parts = AllReached final Part on

  abbrev KeepsAs : (keeps : Name → Bool) → (kept : Bool) → (Name → Bool) → Type 0
  KeepsAs = Fits variables final

  abbrev Stay : Nodes → Type 0
  Stay = Stays variables final

  -- what is known of a pattern, and of several
  abbrev pub IsFine : Pattern NodeId → Type 0
  IsFine p = IsGood p × IsNamed p × IsWellMade IsType p × HasAlternatives p

  abbrev AreFine : Patterns NodeId → Type 0
  AreFine all = AreGood all × AreNamed all × AreWellMade IsType all × HaveAlternatives all

  abbrev AreFineFields : Fields NodeId → Type 0
  AreFineFields fields = AreGoodFields fields × AreNamedFields fields
      × AreWellMadeFields IsType fields × FieldsHaveAlternatives fields

  abbrev AreFineItems : Regular NodeId → Type 0
  AreFineItems r = IsGoodRegular r × ItemsNamed r × IsWellMadeRegular IsType r
      × RegularHasAlternatives r

  abbrev AreAllFineItems : Regulars NodeId → Type 0
  AreAllFineItems all = AreGoodRegulars all × AllItemsNamed all × AreWellMadeRegulars IsType all
      × RegularsHaveAlternatives all

  put_part : (node : KernelNode NodeId) (nodes : Nodes) → Part (length nodes) → Parts nodes
      → Parts (put node nodes).1
  put_part = put_reached final Part on

  put_if_part : (kept : Bool) (node : KernelNode NodeId) (nodes : Nodes)
      → Part (put_if kept node nodes).0 → Parts nodes → Parts (put_if kept node nodes).1
  put_if_part true node nodes root before = put_part node nodes root before
  put_if_part false node nodes root before = put_part (Test ANY) nodes root before

  root_part : (keeps : Name → Bool) (kept : Bool) (p : Pattern NodeId) (nodes : Nodes) → IsFine p
      → KeepsAs keeps kept (binds p) → Stay (built variables kept p nodes).1
      → Part (built variables kept p nodes).0
  root_part keeps kept p nodes fine fits stay =
      part.made keeps p (built variables kept p nodes).0
      (pattern_is variables final keeps kept p nodes fine.0 fits stay) fine.1 fine.2 fine.3

  -- the states of the copies of a sequence
  state_parts : (keeps : Name → Bool) (kept : Bool) (r : Regular NodeId) (nodes : Nodes)
      → IsFine (pattern.Sequence r) → KeepsAs keeps kept (binds (pattern.Sequence r))
      → Stay (built variables kept (pattern.Sequence r) nodes).1
      → AllOf (λ copy. AllOf Part copy.states)
      (copies_in variables final kept r nodes)
  state_parts keeps kept r nodes fine fits stay =
      let all = copies_in variables final kept r nodes in
      let made = sequence_is variables final keeps kept r nodes fine.0 fits stay in
      each_there (λ copy. length copy.states ≡ length (items_of [] r))
      (λ copy. AllOf Part copy.states) all
      (states_are_all variables r true (built_items variables kept r [])
      (built_items variables false r []) (groups_of kept r) nodes)
      (λ copy long there. all_by_number Part copy.states (λ place number at.
      let item = is_there (items_of [] r) place
      (subst (λ (count : ℕ). place < count) long (slice_get_within copy.states place number at)) in
      part.state keeps r all copy (built variables kept (pattern.Sequence r) nodes).0 place number
      item.0 made.0 made.1 fine.1 fine.2 fine.3 there item.1 at))

  mutual
    pub pattern_parts : (keeps : Name → Bool) (kept : Bool) (p : Pattern NodeId) (nodes : Nodes)
        → IsFine p → KeepsAs keeps kept (binds p) → Stay (built variables kept p nodes).1
        → Parts nodes → Parts (built variables kept p nodes).1
    pattern_parts keeps kept (pattern.OfType type) nodes fine fits stay before =
        put_part (Test type) nodes
        (root_part keeps kept (pattern.OfType type) nodes fine fits stay) before
    pattern_parts keeps kept (pattern.Bind name) nodes fine fits stay before =
        put_if_part kept (Bind (numbered variables name)) nodes
        (root_part keeps kept (pattern.Bind name) nodes fine fits stay) before
    pattern_parts keeps kept (pattern.Default name constant) nodes fine fits stay before =
        put_if_part kept (Put (numbered variables name) constant) nodes
        (root_part keeps kept (pattern.Default name constant) nodes fine fits stay) before
    pattern_parts keeps kept (pattern.Pair p q) nodes fine fits stay before =
        let one = built variables kept p nodes in
        let other = built variables kept q one.1 in
        let inside = λ (n : ℕ) (x : KernelNode NodeId) (h : slice_get other.1 n ≡ Some x).
        stay n x (keeps_more other.1 (Pair one.0 other.0 ∷ []) n x h) in
        put_part (Pair one.0 other.0) other.1
        (root_part keeps kept (pattern.Pair p q) nodes fine fits stay)
        (pattern_parts keeps kept q one.1 (fine.0.1, fine.1.2, fine.2.1, fine.3.1)
        (λ name b. fits name (or_right (binds p name) (binds q name) b)) inside
        (pattern_parts keeps kept p nodes (fine.0.0, fine.1.1, fine.2.0, fine.3.0)
        (λ name b. fits name (or_left (binds p name) (binds q name) b))
        (λ n x h. inside n x ((pattern_is_made variables kept q one.1).grows.keeps n x h)) before))
    pattern_parts keeps kept (pattern.Xml p q r) nodes fine fits stay before =
        let one = built variables kept p nodes in
        let other = built variables kept q one.1 in
        let last = built variables kept r other.1 in
        let inside = λ (n : ℕ) (x : KernelNode NodeId) (h : slice_get last.1 n ≡ Some x).
        stay n x (keeps_more last.1 (Xml one.0 other.0 last.0 ∷ []) n x h) in
        let further = λ (n : ℕ) (x : KernelNode NodeId) (h : slice_get other.1 n ≡ Some x).
        inside n x ((pattern_is_made variables kept r other.1).grows.keeps n x h) in
        put_part (Xml one.0 other.0 last.0) last.1
        (root_part keeps kept (pattern.Xml p q r) nodes fine fits stay)
        (pattern_parts keeps kept r other.1 (fine.0.2, fine.1.4, fine.2.2, fine.3.2)
        (λ name b. fits name (or_right (binds p name) (binds q name || binds r name)
        (or_right (binds q name) (binds r name) b))) inside
        (pattern_parts keeps kept q one.1 (fine.0.1, fine.1.3, fine.2.1, fine.3.1)
        (λ name b. fits name (or_right (binds p name) (binds q name || binds r name)
        (or_left (binds q name) (binds r name) b))) further
        (pattern_parts keeps kept p nodes (fine.0.0, fine.1.2, fine.2.0, fine.3.0)
        (λ name b. fits name (or_left (binds p name) (binds q name || binds r name) b))
        (λ n x h. further n x ((pattern_is_made variables kept q one.1).grows.keeps n x h))
        before)))
    pattern_parts keeps kept (pattern.Record fields more) nodes fine fits stay before =
        let made = built_fields variables kept fields [] nodes in
        put_part (Record (sorted_over made.0 []) more) made.1
        (root_part keeps kept (pattern.Record fields more) nodes fine fits stay)
        (field_parts keeps kept fields [] nodes (fine.0.2, fine.1.2, fine.2, fine.3) fits
        (λ n x h. stay n x (keeps_more made.1 (Record (sorted_over made.0 []) more ∷ []) n x h))
        before)
    pattern_parts keeps kept (pattern.Both all) nodes fine fits stay before =
        let made = built_all variables kept all [] nodes in
        let several = all_are_made variables kept all [] nodes tt in
        chained_reached final Part on Both both_joins ANY made.0 made.1 stay
        (root_part keeps kept (pattern.Both all) nodes fine fits stay)
        (all_parts keeps kept all [] nodes tt (fine.0, disjoint_named all fine.1, fine.2, fine.3) fits
        (λ n x h. stay n x
        ((chained_is_made Both both_joins ANY made.0 made.1 several.there).grows.keeps n x h))
        before)
    pattern_parts keeps kept (pattern.First all) nodes fine fits stay before =
        let made = built_all variables kept all [] nodes in
        let several = all_are_made variables kept all [] nodes tt in
        chained_reached final Part on First first_joins EMPTY made.0 made.1 stay
        (root_part keeps kept (pattern.First all) nodes fine fits stay)
        (all_parts keeps kept all [] nodes tt (fine.0, same_named all fine.1, fine.2, fine.3) fits
        (λ n x h. stay n x
        ((chained_is_made First first_joins EMPTY made.0 made.1 several.there).grows.keeps n x h))
        before)
    pattern_parts keeps kept (pattern.Sequence r) nodes fine fits stay before =
        let items : AreFineItems r = (fine.0.2, items_named r fine.1.2, fine.2, fine.3) in
        let made = sequence_is variables final keeps kept r nodes fine.0 fits stay in
        sequence_reached variables r final Part on kept (built_items variables kept r [])
        (built_items variables false r []) nodes (items_grow variables kept r [])
        (items_grow variables false r [])
        (λ copy plain at after earlier. item_parts (inner keeps r copy) kept r [] at items
        (inner_fits variables final keeps kept r copy plain fine.0.1 fits) after earlier)
        (λ copy plain at after earlier. item_parts (inner keeps r copy) false r [] at items
        (inner_hides variables final keeps kept r copy plain fits) after earlier)
        made.0.joined (state_parts keeps kept r nodes fine fits stay) stay
        (root_part keeps kept (pattern.Sequence r) nodes fine fits stay) before

    all_parts : (keeps : Name → Bool) (kept : Bool) (all : Patterns NodeId) (numbers : List ℕ)
        (nodes : Nodes) → AreThere numbers nodes → AreFine all → KeepsAs keeps kept (all_bind all)
        → Stay (built_all variables kept all numbers nodes).1 → Parts nodes
        → Parts (built_all variables kept all numbers nodes).1
    all_parts keeps kept NoPattern numbers nodes there fine fits stay before = before
    all_parts keeps kept (APattern p rest) numbers nodes there fine fits stay before =
        let one = built variables kept p nodes in
        let made = pattern_is_made variables kept p nodes in
        let later = there_end numbers one.0 one.1
        (there_later numbers nodes one.1 made.grows.longer there) made.there in
        all_parts keeps kept rest (numbers ++ one.0 ∷ []) one.1 later
        (fine.0.1, fine.1.1, fine.2.1, fine.3.1)
        (λ name b. fits name (or_right (binds p name) (all_bind rest name) b)) stay
        (pattern_parts keeps kept p nodes (fine.0.0, fine.1.0, fine.2.0, fine.3.0)
        (λ name b. fits name (or_left (binds p name) (all_bind rest name) b))
        (λ n x h. stay n x
        ((all_are_made variables kept rest (numbers ++ one.0 ∷ []) one.1 later).grows.keeps n x h))
        before)

    field_parts : (keeps : Name → Bool) (kept : Bool) (fields : Fields NodeId)
        (made : KernelFields) (nodes : Nodes) → AreFineFields fields
        → KeepsAs keeps kept (fields_bind fields)
        → Stay (built_fields variables kept fields made nodes).1 → Parts nodes
        → Parts (built_fields variables kept fields made nodes).1
    field_parts keeps kept NoField made nodes fine fits stay before = before
    field_parts keeps kept (pattern.Present label p rest) made nodes fine fits stay before =
        let one = built variables kept p nodes in
        field_parts keeps kept rest (made ++ (label, APresent one.0) ∷ []) one.1
        (fine.0.2, fine.1.1, fine.2.1, fine.3.1)
        (λ name b. fits name (or_right (binds p name) (fields_bind rest name) b)) stay
        (pattern_parts keeps kept p nodes (fine.0.1, fine.1.0, fine.2.0, fine.3.0)
        (λ name b. fits name (or_left (binds p name) (fields_bind rest name) b))
        (λ n x h. stay n x ((fields_grow variables kept rest
        (made ++ (label, APresent one.0) ∷ []) one.1).keeps n x h)) before)
    field_parts keeps kept (pattern.Optional label type rest) made nodes fine fits stay before =
        field_parts keeps kept rest (made ++ (label, AnOptional type) ∷ []) nodes
        (fine.0.1, fine.1, fine.2.1, fine.3) fits stay before

    item_parts : (keeps : Name → Bool) (kept : Bool) (r : Regular NodeId) (numbers : List ℕ)
        (nodes : Nodes) → AreFineItems r → KeepsAs keeps kept (is_plain r)
        → Stay (built_items variables kept r numbers nodes).1 → Parts nodes
        → Parts (built_items variables kept r numbers nodes).1
    item_parts keeps kept pattern.Nothing numbers nodes fine fits stay before = before
    item_parts keeps kept (pattern.Item p) numbers nodes fine fits stay before =
        pattern_parts keeps kept p nodes fine fits stay before
    item_parts keeps kept (pattern.Seq all) numbers nodes fine fits stay before =
        all_item_parts keeps kept all numbers nodes fine fits stay before
    item_parts keeps kept (pattern.Alt all) numbers nodes fine fits stay before =
        all_item_parts keeps kept all numbers nodes (fine.0, fine.1, fine.2, fine.3.1) fits stay
        before
    item_parts keeps kept (pattern.Repeat r post) numbers nodes fine fits stay before =
        item_parts keeps kept r numbers nodes fine fits stay before
    item_parts keeps kept (pattern.Capture name r) numbers nodes fine fits stay before =
        item_parts keeps kept r numbers nodes fine fits stay before

    all_item_parts : (keeps : Name → Bool) (kept : Bool) (all : Regulars NodeId)
        (numbers : List ℕ) (nodes : Nodes) → AreAllFineItems all
        → KeepsAs keeps kept (one_has_plain all)
        → Stay (built_items_all variables kept all numbers nodes).1 → Parts nodes
        → Parts (built_items_all variables kept all numbers nodes).1
    all_item_parts keeps kept NoRegular numbers nodes fine fits stay before = before
    all_item_parts keeps kept (ARegular first rest) numbers nodes fine fits stay before =
        let made = built_items variables kept first numbers nodes in
        all_item_parts keeps kept rest made.0 made.1 (fine.0.1, fine.1.1, fine.2.1, fine.3.1)
        (λ name b. fits name (or_right (is_plain first name) (one_has_plain rest name) b)) stay
        (item_parts keeps kept first numbers nodes (fine.0.0, fine.1.0, fine.2.0, fine.3.0)
        (λ name b. fits name (or_left (is_plain first name) (one_has_plain rest name) b))
        (λ n x h. stay n x ((all_items_grow variables kept rest made.0 made.1).keeps n x h))
        before)
