-- The node that the code makes of a pattern is a node of it.
use Rattle.std.proofs.Common.{◌≡◌, ◌+◌, ℕ, Bool, true, false, not, ◌||◌, ◌&&◌}
use Rattle.std.proofs.Common.{List, [], ◌∷◌, ◌++◌, length, Some, bytes_eq, refl}
use Rattle.std.proofs.Common.{sym, ap, subst, ◌∙◌, arith}
use Rattle.std.specs.List.{slice_get}
use Rattle.std.proofs.lemmas.Bool.{true≢false}
use Rattle.std.proofs.lemmas.List.{append_assoc, append-nil}
use Rattle.cd_sets.specs.declared.node_id.NodeId.{NodeId}
use Rattle.cd_syntax.specs.Name.{Name}
use Rattle.cd_model.specs.AllOf.{AllOf}
use Rattle.cd_model.specs.BuiltIns.{ANY, EMPTY}
use Rattle.cd_matching.specs.Kernel.{KernelNode, Present, Optional, Test, Bind, Put, Pair, Xml}
use Rattle.cd_matching.specs.Kernel.{Record, Both, First}
use Rattle.cd_matching.specs.Naming.{AreDisjointNames, LabelsDiffer}
use Rattle.cd_matching.specs.Pattern as pattern
use Rattle.cd_matching.specs.Pattern.{Pattern, Patterns, NoPattern, APattern, Fields, NoField}
use Rattle.cd_matching.specs.Pattern.{Regular, Regulars, NoRegular, ARegular}
use Rattle.cd_matching.specs.Variables.{binds, all_bind, fields_bind, regular_binds}
use Rattle.cd_matching.specs.Variables.{regulars_bind, is_gathered, one_is_gathered, is_plain}
use Rattle.cd_matching.specs.Variables.{one_is_plain as one_has_plain, names_label}
use Rattle.cd_moves.specs.Automaton.{items_in, items_in_all}
use Rattle.cd_kernel.specs.Copies.{IsNumber, Copy}
use Rattle.cd_kernel.specs.Making.{AreCopies}
use Rattle.cd_kernel.specs.Making.{the_types, inner, IsChainOr, IsPut, IsKernelOf, AreKernelsOf}
use Rattle.cd_kernel.specs.Making.{AreFieldsOf, AreItemsOf, AreItemsOfAll}
use Rattle.cd_kernel.specs.Inner.Building.{Nodes, put_if, chained, KernelFields}
use Rattle.cd_kernel.specs.Inner.Building.{sorted_over}
use Rattle.cd_kernel.specs.Inner.Building.{built, built_all, built_fields, built_items}
use Rattle.cd_kernel.specs.Inner.Building.{built_items_all}
use Rattle.cd_kernel.specs.Inner.Gathering.{numbered, groups_of}
use Rattle.cd_kernel.proofs.ChainsBuilt.{chained_is}
use Rattle.cd_kernel.proofs.FieldsSorted.{AreLabelled, sorted_are_all, sorted_rise}
use Rattle.cd_kernel.proofs.GoodPatterns.{IsGood, AreGood, AreGoodFields, IsGoodRegular}
use Rattle.cd_kernel.proofs.GoodPatterns.{AreGoodRegulars}
use Rattle.cd_kernel.proofs.GrowingNodes.{Keeps, keeps_more, last_there, length_last, is_put}
use Rattle.cd_kernel.proofs.PatternsMade.{pattern_is_made, all_are_made, fields_grow, items_grow}
use Rattle.cd_kernel.proofs.PatternsMade.{all_items_grow, there_later, there_end, AreThere}
use Rattle.cd_kernel.proofs.PatternsMade.{chained_is_made, both_joins, first_joins}
use Rattle.cd_kernel.proofs.PartsStand.{items_long}
use Rattle.cd_kernel.proofs.SequencesBuilt.{copies, HasItems, sequence_made}
use Rattle.cd_kernel.proofs.VariableNumbers.{name_itself, name_turned}

pub or_left : (a b : Bool) → a ≡ true → (a || b) ≡ true
or_left a b h = ap (λ (c : Bool). c || b) h

pub or_right : (a b : Bool) → b ≡ true → (a || b) ≡ true
or_right true b h = refl
or_right false b h = h

none_before : (n : ℕ) → length {A = ℕ} [] + n ≡ n
none_before n = omega arith

-- plain variables and those that gather stand in an expression
mutual
  plain_binds : (r : Regular NodeId) (name : Name) → is_plain r name ≡ true
      → regular_binds r name ≡ true
  plain_binds pattern.Nothing name h = h
  plain_binds (pattern.Item p) name h = h
  plain_binds (pattern.Seq all) name h = one_plain_binds all name h
  plain_binds (pattern.Alt all) name h = one_plain_binds all name h
  plain_binds (pattern.Repeat r post) name h = plain_binds r name h
  plain_binds (pattern.Capture one r) name h =
      or_right (bytes_eq one name) (regular_binds r name) (plain_binds r name h)

  one_plain_binds : (all : Regulars NodeId) (name : Name) → one_has_plain all name ≡ true
      → regulars_bind all name ≡ true
  one_plain_binds NoRegular name h = h
  one_plain_binds (ARegular first rest) name h =
      by_test (is_plain first name) h (plain_binds first name) (one_plain_binds rest name)
    where
      by_test : (b : Bool) → (b || one_has_plain rest name) ≡ true
          → (b ≡ true → regular_binds first name ≡ true)
          → (one_has_plain rest name ≡ true → regulars_bind rest name ≡ true)
          → (regular_binds first name || regulars_bind rest name) ≡ true
      by_test true h one other =
          or_left (regular_binds first name) (regulars_bind rest name) (one refl)
      by_test false h one other =
          or_right (regular_binds first name) (regulars_bind rest name) (other h)

mutual
  gathered_binds : (r : Regular NodeId) (name : Name) → is_gathered r name ≡ true
      → regular_binds r name ≡ true
  gathered_binds pattern.Nothing name h = h
  gathered_binds (pattern.Item p) name h = absurd (true≢false (sym h))
  gathered_binds (pattern.Seq all) name h = one_gathered_binds all name h
  gathered_binds (pattern.Alt all) name h = one_gathered_binds all name h
  gathered_binds (pattern.Repeat r post) name h = gathered_binds r name h
  gathered_binds (pattern.Capture one r) name h =
      by_test (bytes_eq one name) h (gathered_binds r name)
    where
      by_test : (b : Bool) → (b || is_gathered r name) ≡ true
          → (is_gathered r name ≡ true → regular_binds r name ≡ true)
          → (b || regular_binds r name) ≡ true
      by_test true h on = refl
      by_test false h on = on h

  one_gathered_binds : (all : Regulars NodeId) (name : Name) → one_is_gathered all name ≡ true
      → regulars_bind all name ≡ true
  one_gathered_binds NoRegular name h = h
  one_gathered_binds (ARegular first rest) name h =
      by_test (is_gathered first name) h (gathered_binds first name) (one_gathered_binds rest name)
    where
      by_test : (b : Bool) → (b || one_is_gathered rest name) ≡ true
          → (b ≡ true → regular_binds first name ≡ true)
          → (one_is_gathered rest name ≡ true → regulars_bind rest name ≡ true)
          → (regular_binds first name || regulars_bind rest name) ≡ true
      by_test true h one other =
          or_left (regular_binds first name) (regulars_bind rest name) (one refl)
      by_test false h one other =
          or_right (regular_binds first name) (regulars_bind rest name) (other h)

module _ (variables : List Name) (final : Nodes) where
  abbrev pub Fits : (keeps : Name → Bool) → (kept : Bool) → (Name → Bool) → Type 0
  Fits keeps kept bound = (name : Name) → bound name ≡ true
      → (keeps name ≡ kept) × IsNumber variables name (numbered variables name)

  abbrev pub IsKernel : (keeps : Name → Bool) → Pattern NodeId → ℕ → Type 0
  IsKernel = IsKernelOf the_types variables final

  put_is : (kept : Bool) (name : Name) (node : ℕ → KernelNode NodeId) (nodes : Nodes)
      → IsNumber variables name (numbered variables name)
      → Keeps (put_if kept (node (numbered variables name)) nodes).1 final
      → IsPut the_types variables final kept name node
      (put_if kept (node (numbered variables name)) nodes).0
  put_is true name node nodes named keeps =
      (numbered variables name, named, is_put (node (numbered variables name)) nodes final keeps)
  put_is false name node nodes named keeps = is_put (Test ANY) nodes final keeps

  -- the nodes of some patterns, and the fields of some fields
  abbrev numbers_in : Bool → Patterns NodeId → Nodes → List ℕ
  numbers_in kept NoPattern nodes = []
  numbers_in kept (APattern p rest) nodes =
      (built variables kept p nodes).0 ∷ numbers_in kept rest (built variables kept p nodes).1

  numbers_are : (kept : Bool) (all : Patterns NodeId) (numbers : List ℕ) (nodes : Nodes)
      → (built_all variables kept all numbers nodes).0 ≡ numbers ++ numbers_in kept all nodes
  numbers_are kept NoPattern numbers nodes = sym (append-nil numbers)
  numbers_are kept (APattern p rest) numbers nodes =
      let one = built variables kept p nodes in
      numbers_are kept rest (numbers ++ one.0 ∷ []) one.1
      ∙ append_assoc numbers (one.0 ∷ []) (numbers_in kept rest one.1)

  abbrev fields_in : Bool → Fields NodeId → Nodes → KernelFields
  fields_in kept NoField nodes = []
  fields_in kept (pattern.Present label p rest) nodes =
      (label, Present (built variables kept p nodes).0)
      ∷ fields_in kept rest (built variables kept p nodes).1
  fields_in kept (pattern.Optional label type rest) nodes =
      (label, Optional type) ∷ fields_in kept rest nodes

  fields_are_those : (kept : Bool) (fields : Fields NodeId) (made : KernelFields) (nodes : Nodes)
      → (built_fields variables kept fields made nodes).0 ≡ made ++ fields_in kept fields nodes
  fields_are_those kept NoField made nodes = sym (append-nil made)
  fields_are_those kept (pattern.Present label p rest) made nodes =
      let one = built variables kept p nodes in
      fields_are_those kept rest (made ++ (label, Present one.0) ∷ []) one.1
      ∙ append_assoc made ((label, Present one.0) ∷ []) (fields_in kept rest one.1)
  fields_are_those kept (pattern.Optional label type rest) made nodes =
      fields_are_those kept rest (made ++ (label, Optional type) ∷ []) nodes
      ∙ append_assoc made ((label, Optional type) ∷ []) (fields_in kept rest nodes)

  label_differs : (kept : Bool) (label : Name) (fields : Fields NodeId) (nodes : Nodes)
      → names_label fields label ≡ false
      → AllOf (λ field. bytes_eq label field.0 ≡ false) (fields_in kept fields nodes)
  label_differs kept label NoField nodes none = tt
  label_differs kept label (pattern.Present name p rest) nodes none =
      by_test (bytes_eq name label) refl none
      (label_differs kept label rest (built variables kept p nodes).1)
    where
      by_test : (b : Bool) → bytes_eq name label ≡ b → (b || names_label rest label) ≡ false
          → (names_label rest label ≡ false → AllOf (λ field. bytes_eq label field.0 ≡ false)
          (fields_in kept rest (built variables kept p nodes).1))
          → (bytes_eq label name ≡ false) × AllOf (λ field. bytes_eq label field.0 ≡ false)
          (fields_in kept rest (built variables kept p nodes).1)
      by_test true same none on = absurd (true≢false none)
      by_test false differs none on = (name_turned label name ∙ differs, on none)
  label_differs kept label (pattern.Optional name type rest) nodes none =
      by_test (bytes_eq name label) refl none (label_differs kept label rest nodes)
    where
      by_test : (b : Bool) → bytes_eq name label ≡ b → (b || names_label rest label) ≡ false
          → (names_label rest label ≡ false
          → AllOf (λ field. bytes_eq label field.0 ≡ false) (fields_in kept rest nodes))
          → (bytes_eq label name ≡ false)
          × AllOf (λ field. bytes_eq label field.0 ≡ false) (fields_in kept rest nodes)
      by_test true same none on = absurd (true≢false none)
      by_test false differs none on = (name_turned label name ∙ differs, on none)

  labelled : (kept : Bool) (fields : Fields NodeId) (nodes : Nodes) → LabelsDiffer fields
      → AreGoodFields fields → AreLabelled (fields_in kept fields nodes)
  labelled kept NoField nodes differ good = tt
  labelled kept (pattern.Present label p rest) nodes differ good = (
    good.0,
    label_differs kept label rest (built variables kept p nodes).1 differ.0,
    labelled kept rest (built variables kept p nodes).1 differ.1 good.2,
  )
  labelled kept (pattern.Optional label type rest) nodes differ good = (
    good.0,
    label_differs kept label rest nodes differ.0,
    labelled kept rest nodes differ.1 good.1,
  )

  mutual
    items_count : (kept : Bool) (r : Regular NodeId) (numbers : List ℕ) (nodes : Nodes)
        → length (built_items variables kept r numbers nodes).0 ≡ length numbers + items_in r
    items_count kept pattern.Nothing numbers nodes = omega arith
    items_count kept (pattern.Item p) numbers nodes =
        let more = length_last numbers (built variables kept p nodes).0 in omega (arith, more)
    items_count kept (pattern.Seq all) numbers nodes = all_items_count kept all numbers nodes
    items_count kept (pattern.Alt all) numbers nodes = all_items_count kept all numbers nodes
    items_count kept (pattern.Repeat r post) numbers nodes = items_count kept r numbers nodes
    items_count kept (pattern.Capture name r) numbers nodes = items_count kept r numbers nodes

    all_items_count : (kept : Bool) (all : Regulars NodeId) (numbers : List ℕ) (nodes : Nodes)
        → length (built_items_all variables kept all numbers nodes).0
        ≡ length numbers + items_in_all all
    all_items_count kept NoRegular numbers nodes = omega arith
    all_items_count kept (ARegular first rest) numbers nodes =
        let one = items_count kept first numbers nodes in
        let made = built_items variables kept first numbers nodes in
        let other = all_items_count kept rest made.0 made.1 in
        omega (arith, one, other)

  -- the numbers of items stay where more are put after them
  mutual
    numbers_stay : (kept : Bool) (r : Regular NodeId) (numbers : List ℕ) (nodes : Nodes)
        → Keeps numbers (built_items variables kept r numbers nodes).0
    numbers_stay kept pattern.Nothing numbers nodes n x h = h
    numbers_stay kept (pattern.Item p) numbers nodes n x h =
        keeps_more numbers ((built variables kept p nodes).0 ∷ []) n x h
    numbers_stay kept (pattern.Seq all) numbers nodes n x h =
        all_stay kept all numbers nodes n x h
    numbers_stay kept (pattern.Alt all) numbers nodes n x h =
        all_stay kept all numbers nodes n x h
    numbers_stay kept (pattern.Repeat r post) numbers nodes n x h =
        numbers_stay kept r numbers nodes n x h
    numbers_stay kept (pattern.Capture name r) numbers nodes n x h =
        numbers_stay kept r numbers nodes n x h

    all_stay : (kept : Bool) (all : Regulars NodeId) (numbers : List ℕ) (nodes : Nodes)
        → Keeps numbers (built_items_all variables kept all numbers nodes).0
    all_stay kept NoRegular numbers nodes n x h = h
    all_stay kept (ARegular first rest) numbers nodes n x h =
        let made = built_items variables kept first numbers nodes in
        all_stay kept rest made.0 made.1 n x (numbers_stay kept first numbers nodes n x h)

  abbrev pub Stays : Nodes → Type 0
  Stays nodes = Keeps nodes final

  -- what is put for some nodes is their chain, or a test where there is none
  chain_or_is : (node : ℕ → ℕ → KernelNode NodeId) (none : NodeId) (numbers : List ℕ)
      (nodes : Nodes) → Stays (chained node none numbers nodes).1
      → IsChainOr the_types variables final node none numbers
      (chained node none numbers nodes).0
  chain_or_is node none [] nodes stay = is_put (Test none) nodes final stay
  chain_or_is node none (first ∷ rest) nodes stay =
      chained_is node none final first rest nodes stay

  -- the first copy keeps what its items bind, and the others keep nothing
  pub inner_fits : (keeps : Name → Bool) (kept : Bool) (r : Regular NodeId) (copy : Copy)
      → copy.plain ≡ true → AreDisjointNames (is_gathered r) (is_plain r)
      → Fits keeps kept (regular_binds r) → Fits (inner keeps r copy) kept (is_plain r)
  inner_fits keeps kept r copy plain apart fits name b =
      let fit = fits name (plain_binds r name b) in (
        ap (λ (p : Bool). p && (keeps name && not (is_gathered r name))) plain
            ∙ by_test (is_gathered r name) refl ∙ fit.0,
        fit.1,
      )
    where
      and_true : (c : Bool) → (c && true) ≡ c
      and_true true = refl
      and_true false = refl

      by_test : (g : Bool) → is_gathered r name ≡ g → (keeps name && not g) ≡ keeps name
      by_test true there = absurd (true≢false (sym b ∙ apart name there))
      by_test false none = and_true (keeps name)

  pub inner_hides : (keeps : Name → Bool) (kept : Bool) (r : Regular NodeId) (copy : Copy)
      → copy.plain ≡ false → Fits keeps kept (regular_binds r)
      → Fits (inner keeps r copy) false (is_plain r)
  inner_hides keeps kept r copy plain fits name b = (
    ap (λ (p : Bool). p && (keeps name && not (is_gathered r name))) plain,
    (fits name (plain_binds r name b)).1,
  )

  -- the copies for a sequence
  abbrev pub copies_in : (kept : Bool) → Regular NodeId → Nodes → List Copy
  copies_in kept r = copies variables r true (built_items variables kept r [])
      (built_items variables false r []) (groups_of kept r)

  abbrev pub AreCopiesOf : (keeps : Name → Bool) → (kept : Bool) → Regular NodeId → Nodes → Type 0
  AreCopiesOf keeps kept r nodes = AreCopies the_types variables final keeps r
      (copies_in kept r nodes) (built variables kept (pattern.Sequence r) nodes).0
      × AllOf (λ copy. AreItemsOf the_types variables final (inner keeps r copy) copy.items r 0)
      (copies_in kept r nodes)

  -- they are such if their items are made
  by_items : (keeps : Name → Bool) (kept : Bool) (r : Regular NodeId) (nodes : Nodes)
      → IsGood (pattern.Sequence r) → Fits keeps kept (regular_binds r)
      → HasItems variables r final keeps true (built_items variables kept r [])
      → HasItems variables r final keeps false (built_items variables false r [])
      → Stays (built variables kept (pattern.Sequence r) nodes).1 → AreCopiesOf keeps kept r nodes
  by_items keeps kept r nodes good fits items items_too stay =
      sequence_made variables r final keeps kept (built_items variables kept r [])
      (built_items variables false r []) nodes good.0
      (λ name b. fits name (gathered_binds r name b)) (items_grow variables kept r [])
      (items_grow variables false r [])
      (λ at. items_count kept r [] at ∙ none_before (items_in r) ∙ sym (items_long [] r))
      (λ at. items_count false r [] at ∙ none_before (items_in r) ∙ sym (items_long [] r))
      items items_too stay

  mutual
    pub pattern_is : (keeps : Name → Bool) (kept : Bool) (p : Pattern NodeId) (nodes : Nodes)
        → IsGood p → Fits keeps kept (binds p) → Stays (built variables kept p nodes).1
        → IsKernel keeps p (built variables kept p nodes).0
    pattern_is keeps kept (pattern.OfType type) nodes good fits stay =
        is_put (Test type) nodes final stay
    pattern_is keeps kept (pattern.Bind name) nodes good fits stay =
        let fit = fits name (name_itself name) in
        subst (λ (b : Bool). IsPut the_types variables final b name Bind
        (put_if kept (Bind (numbered variables name)) nodes).0) (sym fit.0)
        (put_is kept name Bind nodes fit.1 stay)
    pattern_is keeps kept (pattern.Default name constant) nodes good fits stay =
        let fit = fits name (name_itself name) in
        subst (λ (b : Bool). IsPut the_types variables final b name
        (λ variable. Put variable constant)
        (put_if kept (Put (numbered variables name) constant) nodes).0) (sym fit.0)
        (put_is kept name (λ variable. Put variable constant) nodes fit.1 stay)
    pattern_is keeps kept (pattern.Pair p q) nodes good fits stay =
        let one = built variables kept p nodes in
        let other = built variables kept q one.1 in (
          one.0,
          other.0,
          is_put (Pair one.0 other.0) other.1 final stay,
          pattern_is keeps kept p nodes good.0
              (λ name b. fits name (or_left (binds p name) (binds q name) b))
              (λ n x h. stay n x (keeps_more other.1 (Pair one.0 other.0 ∷ []) n x
              ((pattern_is_made variables kept q one.1).grows.keeps n x h))),
          pattern_is keeps kept q one.1 good.1
              (λ name b. fits name (or_right (binds p name) (binds q name) b))
              (λ n x h. stay n x (keeps_more other.1 (Pair one.0 other.0 ∷ []) n x h)),
        )
    pattern_is keeps kept (pattern.Xml p q r) nodes good fits stay =
        let one = built variables kept p nodes in
        let other = built variables kept q one.1 in
        let last = built variables kept r other.1 in (
          one.0,
          other.0,
          last.0,
          is_put (Xml one.0 other.0 last.0) last.1 final stay,
          pattern_is keeps kept p nodes good.0
              (λ name b. fits name (or_left (binds p name) (binds q name || binds r name) b))
              (λ n x h. stay n x (keeps_more last.1 (Xml one.0 other.0 last.0 ∷ []) n x
              ((pattern_is_made variables kept r other.1).grows.keeps n x
              ((pattern_is_made variables kept q one.1).grows.keeps n x h)))),
          pattern_is keeps kept q one.1 good.1
              (λ name b. fits name (or_right (binds p name) (binds q name || binds r name)
              (or_left (binds q name) (binds r name) b)))
              (λ n x h. stay n x (keeps_more last.1 (Xml one.0 other.0 last.0 ∷ []) n x
              ((pattern_is_made variables kept r other.1).grows.keeps n x h))),
          pattern_is keeps kept r other.1 good.2
              (λ name b. fits name (or_right (binds p name) (binds q name || binds r name)
              (or_right (binds q name) (binds r name) b)))
              (λ n x h. stay n x (keeps_more last.1 (Xml one.0 other.0 last.0 ∷ []) n x h)),
        )
    pattern_is keeps kept (pattern.Record fields more) nodes good fits stay =
        let made = built_fields variables kept fields [] nodes in
        let written = fields_in kept fields nodes in (
          written,
          sorted_over written [],
          is_put (Record (sorted_over made.0 []) more) made.1 final stay
              ∙ ap (λ (all : KernelFields). Some (Record (sorted_over all []) more))
              (fields_are_those kept fields [] nodes),
          sorted_are_all written,
          sorted_rise written (labelled kept fields nodes good.0 good.2),
          good.1,
          fields_are keeps kept fields [] nodes good.2 fits
              (λ n x h. stay n x
              (keeps_more made.1 (Record (sorted_over made.0 []) more ∷ []) n x h)),
        )
    pattern_is keeps kept (pattern.Both all) nodes good fits stay =
        let made = built_all variables kept all [] nodes in
        let several = all_are_made variables kept all [] nodes tt in
        let is = numbers_are kept all [] nodes in (
          numbers_in kept all nodes,
          all_are keeps kept all [] nodes tt good fits (λ n x h. stay n x
              ((chained_is_made Both both_joins ANY made.0 made.1 several.there).grows.keeps n x h)),
          subst (λ (list : List ℕ). IsChainOr the_types variables final Both ANY list
              (chained Both ANY made.0 made.1).0) is
              (chain_or_is Both ANY made.0 made.1 stay),
        )
    pattern_is keeps kept (pattern.First all) nodes good fits stay =
        let made = built_all variables kept all [] nodes in
        let several = all_are_made variables kept all [] nodes tt in
        let is = numbers_are kept all [] nodes in (
          numbers_in kept all nodes,
          all_are keeps kept all [] nodes tt good fits (λ n x h. stay n x
              ((chained_is_made First first_joins EMPTY made.0 made.1 several.there).grows.keeps n x
              h)),
          subst (λ (list : List ℕ). IsChainOr the_types variables final First EMPTY list
              (chained First EMPTY made.0 made.1).0) is
              (chain_or_is First EMPTY made.0 made.1 stay),
        )
    pattern_is keeps kept (pattern.Sequence r) nodes good fits stay =
        let made = by_items keeps kept r nodes good fits
        (λ copy plain at after. items_are (inner keeps r copy) kept r [] at 0 refl good.2
        (inner_fits keeps kept r copy plain good.1 fits) after
        (built_items variables kept r [] at).0 (λ n x h. h))
        (λ copy plain at after. items_are (inner keeps r copy) false r [] at 0 refl good.2
        (inner_hides keeps kept r copy plain fits) after
        (built_items variables false r [] at).0 (λ n x h. h)) stay in
        (copies_in kept r nodes, made.0, made.1)

    all_are : (keeps : Name → Bool) (kept : Bool) (all : Patterns NodeId) (numbers : List ℕ)
        (nodes : Nodes) → AreThere numbers nodes → AreGood all → Fits keeps kept (all_bind all)
        → Stays (built_all variables kept all numbers nodes).1
        → AreKernelsOf the_types variables final keeps all (numbers_in kept all nodes)
    all_are keeps kept NoPattern numbers nodes there good fits stay = tt
    all_are keeps kept (APattern p rest) numbers nodes there good fits stay =
        let one = built variables kept p nodes in
        let made = pattern_is_made variables kept p nodes in
        let later = there_end numbers one.0 one.1
        (there_later numbers nodes one.1 made.grows.longer there) made.there in (
          pattern_is keeps kept p nodes good.0
              (λ name b. fits name (or_left (binds p name) (all_bind rest name) b))
              (λ n x h. stay n x ((all_are_made variables kept rest (numbers ++ one.0 ∷ []) one.1
              later).grows.keeps n x h)),
          all_are keeps kept rest (numbers ++ one.0 ∷ []) one.1 later good.1
              (λ name b. fits name (or_right (binds p name) (all_bind rest name) b)) stay,
        )

    fields_are : (keeps : Name → Bool) (kept : Bool) (fields : Fields NodeId)
        (made : KernelFields) (nodes : Nodes) → AreGoodFields fields
        → Fits keeps kept (fields_bind fields)
        → Stays (built_fields variables kept fields made nodes).1
        → AreFieldsOf the_types variables final keeps fields (fields_in kept fields nodes)
    fields_are keeps kept NoField made nodes good fits stay = refl
    fields_are keeps kept (pattern.Present label p rest) made nodes good fits stay =
        let one = built variables kept p nodes in (
          one.0,
          fields_in kept rest one.1,
          refl,
          pattern_is keeps kept p nodes good.1
              (λ name b. fits name (or_left (binds p name) (fields_bind rest name) b))
              (λ n x h. stay n x ((fields_grow variables kept rest
              (made ++ (label, Present one.0) ∷ []) one.1).keeps n x h)),
          fields_are keeps kept rest (made ++ (label, Present one.0) ∷ []) one.1 good.2
              (λ name b. fits name (or_right (binds p name) (fields_bind rest name) b)) stay,
        )
    fields_are keeps kept (pattern.Optional label type rest) made nodes good fits stay = (
      fields_in kept rest nodes,
      refl,
      fields_are keeps kept rest (made ++ (label, Optional type) ∷ []) nodes good.1 fits stay,
    )

    items_are : (keeps : Name → Bool) (kept : Bool) (r : Regular NodeId) (numbers : List ℕ)
        (nodes : Nodes) (before : ℕ) → length numbers ≡ before → IsGoodRegular r
        → Fits keeps kept (is_plain r) → Stays (built_items variables kept r numbers nodes).1
        → (whole : List ℕ) → Keeps (built_items variables kept r numbers nodes).0 whole
        → AreItemsOf the_types variables final keeps whole r before
    items_are keeps kept pattern.Nothing numbers nodes before long good fits stay whole among = tt
    items_are keeps kept (pattern.Item p) numbers nodes before long good fits stay whole among =
        let one = built variables kept p nodes in (
          one.0,
          subst (λ (place : ℕ). slice_get whole place ≡ Some one.0) long
              (among (length numbers) one.0 (last_there numbers one.0)),
          pattern_is keeps kept p nodes good fits stay,
        )
    items_are keeps kept (pattern.Seq all) numbers nodes before long good fits stay whole among =
        all_items_are keeps kept all numbers nodes before long good fits stay whole among
    items_are keeps kept (pattern.Alt all) numbers nodes before long good fits stay whole among =
        all_items_are keeps kept all numbers nodes before long good fits stay whole among
    items_are keeps kept (pattern.Repeat r post) numbers nodes before long good fits stay whole
        among = items_are keeps kept r numbers nodes before long good fits stay whole among
    items_are keeps kept (pattern.Capture name r) numbers nodes before long good fits stay whole
        among = items_are keeps kept r numbers nodes before long good fits stay whole among

    all_items_are : (keeps : Name → Bool) (kept : Bool) (all : Regulars NodeId)
        (numbers : List ℕ) (nodes : Nodes) (before : ℕ) → length numbers ≡ before
        → AreGoodRegulars all → Fits keeps kept (one_has_plain all)
        → Stays (built_items_all variables kept all numbers nodes).1
        → (whole : List ℕ) → Keeps (built_items_all variables kept all numbers nodes).0 whole
        → AreItemsOfAll the_types variables final keeps whole all before
    all_items_are keeps kept NoRegular numbers nodes before long good fits stay whole among = tt
    all_items_are keeps kept (ARegular first rest) numbers nodes before long good fits stay whole
        among =
        let made = built_items variables kept first numbers nodes in (
          items_are keeps kept first numbers nodes before long good.0
              (λ name b. fits name (or_left (is_plain first name) (one_has_plain rest name) b))
              (λ n x h. stay n x
              ((all_items_grow variables kept rest made.0 made.1).keeps n x h)) whole
              (λ n x h. among n x (all_stay kept rest made.0 made.1 n x h)),
          all_items_are keeps kept rest made.0 made.1 (before + items_in first)
              (items_count kept first numbers nodes
              ∙ ap (λ (count : ℕ). count + items_in first) long)
              good.1 (λ name b. fits name
              (or_right (is_plain first name) (one_has_plain rest name) b))
              stay whole among,
        )

  pub sequence_is : (keeps : Name → Bool) (kept : Bool) (r : Regular NodeId) (nodes : Nodes)
      → IsGood (pattern.Sequence r) → Fits keeps kept (regular_binds r)
      → Stays (built variables kept (pattern.Sequence r) nodes).1 → AreCopiesOf keeps kept r nodes
  sequence_is keeps kept r nodes good fits stay = by_items keeps kept r nodes good fits
      (λ copy plain at after. items_are (inner keeps r copy) kept r [] at 0 refl good.2
      (inner_fits keeps kept r copy plain good.1 fits) after
      (built_items variables kept r [] at).0 (λ n x h. h))
      (λ copy plain at after. items_are (inner keeps r copy) false r [] at 0 refl good.2
      (inner_hides keeps kept r copy plain fits) after
      (built_items variables false r [] at).0 (λ n x h. h)) stay
