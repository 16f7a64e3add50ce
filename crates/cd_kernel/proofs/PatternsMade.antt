-- Making the node of a pattern keeps the nodes that were there.
use Rattle.std.proofs.Common.{◌≡◌, ◌<◌, ◌≤◌, ◌/◌, ℕ, zero, suc, Bool, true, false, List, [], ◌∷◌}
use Rattle.std.proofs.Common.{◌++◌, length, take, drop, refl, sym, subst, arith}
use Rattle.std.proofs.lemmas.List.{take-append-drop}
use Rattle.cd_sets.specs.declared.node_id.NodeId.{NodeId}
use Rattle.cd_syntax.specs.Name.{Name}
use Rattle.cd_model.specs.AllOf.{AllOf}
use Rattle.cd_model.specs.BuiltIns.{ANY, EMPTY}
use Rattle.cd_model.proofs.Covered.{each_parts}
use Rattle.cd_matching.specs.Kernel.{KernelNode, Present as APresent, Optional as AnOptional, Test}
use Rattle.cd_matching.specs.Kernel.{Bind, Put, Pair, Xml, Record, Both, First, leads_to}
use Rattle.cd_matching.specs.Pattern as pattern
use Rattle.cd_matching.specs.Pattern.{Pattern, Patterns, NoPattern, APattern, Fields, NoField}
use Rattle.cd_matching.specs.Pattern.{Regular, Regulars, NoRegular, ARegular}
use Rattle.cd_kernel.specs.Inner.Building.{Nodes, put, put_if, chain_within, chained, Several}
use Rattle.cd_kernel.specs.Inner.Building.{joined, KernelFields}
use Rattle.cd_kernel.specs.Inner.Building.{sorted_over, put_copy, put_copies, built}
use Rattle.cd_kernel.specs.Inner.Building.{built_all, built_fields, built_items, built_items_all}
use Rattle.cd_kernel.specs.Inner.Gathering.{numbered, groups_of}
use Rattle.cd_kernel.proofs.CopiesBuilt.{copy_is_made}
use Rattle.cd_kernel.proofs.GrowingNodes.{Grows, Made, grows_not, grows_on, made_on, put_is_made}

-- the numbers are those of nodes
abbrev pub AreThere : List ℕ → Nodes → Type 0
AreThere numbers nodes = AllOf (λ number. number < length nodes) numbers

pub there_later : (numbers : List ℕ) (old new : Nodes) → length old ≤ length new
    → AreThere numbers old → AreThere numbers new
there_later [] old new longer all = tt
there_later (number ∷ numbers) old new longer all =
    let there = all.0 in
    (omega (arith, there, longer), there_later numbers old new longer all.1)

pub there_end : (numbers : List ℕ) (number : ℕ) (nodes : Nodes) → AreThere numbers nodes
    → number < length nodes → AreThere (numbers ++ number ∷ []) nodes
there_end [] number nodes all one = (one, tt)
there_end (first ∷ numbers) number nodes all one = (all.0, there_end numbers number nodes all.1 one)

-- nodes that join two others lead to both
abbrev pub Joins : (ℕ → ℕ → KernelNode NodeId) → Type 0
Joins node = (first second : ℕ) → leads_to (node first second) ≡ first ∷ second ∷ []

module _ (node : ℕ → ℕ → KernelNode NodeId) (joins : Joins node) (none : NodeId) where
  chain_is_made : (steps : ℕ) (numbers : List ℕ) (nodes : Nodes) → AreThere numbers nodes
      → Made nodes (chain_within steps node none numbers nodes)
  chain_is_made steps [] nodes there = put_is_made (Test none) nodes tt
  chain_is_made steps (number ∷ []) nodes there =
      record { grows = grows_not nodes; there = there.0 }
  chain_is_made zero (number ∷ next ∷ numbers) nodes there =
      record { grows = grows_not nodes; there = there.0 }
  chain_is_made (suc steps) (number ∷ next ∷ numbers) nodes there =
      let all = number ∷ next ∷ numbers in
      let front = take (length all / 2) all in
      let back = drop (length all / 2) all in
      let parts = each_parts (λ number. number < length nodes) front back
      (subst (λ (list : List ℕ). AreThere list nodes) (sym (take-append-drop (length all / 2) all))
      there) in
      let first = chain_within steps node none front nodes in
      let made = chain_is_made steps front nodes parts.0 in
      let second = chain_within steps node none back first.1 in
      let other = chain_is_made steps back first.1
      (there_later back nodes first.1 made.grows.longer parts.1) in
      let first_there = made.there in
      let longer = other.grows.longer in
      made_on nodes second.1 (put (node first.0 second.0) second.1)
      (grows_on nodes first.1 second.1 made.grows other.grows)
      (put_is_made (node first.0 second.0) second.1
      (subst (λ (led : List ℕ). AllOf (λ next. next < length second.1) led)
      (sym (joins first.0 second.0)) (omega (arith, first_there, longer), (other.there, tt))))

  pub chained_is_made : (numbers : List ℕ) (nodes : Nodes) → AreThere numbers nodes
      → Made nodes (chained node none numbers nodes)
  chained_is_made numbers = chain_is_made (length numbers) numbers

-- several nodes that are made
pub record SeveralMade (old : Nodes) (made : Several) : Type 0 where
  pub grows : Grows old made.1
  pub there : AreThere made.0 made.1

several_on : (old between : Nodes) (made : Several) → Grows old between → SeveralMade between made
    → SeveralMade old made
several_on old between made first second =
    record { grows = grows_on old between made.1 first second.grows; there = second.there }

pub joined_is_made : (node : ℕ → ℕ → KernelNode NodeId) → Joins node → (none : NodeId) (old : Nodes)
    (made : Several) → SeveralMade old made → Made old (joined node none made)
joined_is_made node joins none old made several = made_on old made.1 (joined node none made)
    several.grows (chained_is_made node joins none made.0 made.1 several.there)

pub both_joins : Joins Both
both_joins first second = refl

pub first_joins : Joins First
first_joins first second = refl

put_if_is_made : (kept : Bool) (node : KernelNode NodeId) (nodes : Nodes) → leads_to node ≡ []
    → Made nodes (put_if kept node nodes)
put_if_is_made true node nodes none = put_is_made node nodes
    (subst (λ (led : List ℕ). AllOf (λ next. next < length nodes) led) (sym none) tt)
put_if_is_made false node nodes none = put_is_made (Test ANY) nodes tt

module _ (variables : List Name) where
  pub copies_are_made : (r : Regular NodeId) (first others : Nodes → Several)
      → ((nodes : Nodes) → Grows nodes (first nodes).1)
      → ((nodes : Nodes) → Grows nodes (others nodes).1)
      → (groups : List (List Name)) (starts : List ℕ) (nodes : Nodes) → AreThere starts nodes
      → SeveralMade nodes (put_copies variables r first others groups starts nodes)
  copies_are_made r first others one other [] starts nodes all =
      record { grows = grows_not nodes; there = all }
  copies_are_made r first others one other (group ∷ groups) starts nodes all =
      let copy = put_copy variables r group (first nodes) in
      let made = made_on nodes (first nodes).1 copy (one nodes)
      (copy_is_made variables r group (first nodes)) in
      several_on nodes copy.1
      (put_copies variables r others others groups (starts ++ copy.0 ∷ []) copy.1) made.grows
      (copies_are_made r others others other other groups (starts ++ copy.0 ∷ []) copy.1
      (there_end starts copy.0 copy.1
      (there_later starts nodes copy.1 made.grows.longer all) made.there))

  mutual
    pub pattern_is_made : (kept : Bool) (p : Pattern NodeId) (nodes : Nodes)
        → Made nodes (built variables kept p nodes)
    pattern_is_made kept (pattern.OfType type) nodes = put_is_made (Test type) nodes tt
    pattern_is_made kept (pattern.Bind name) nodes =
        put_if_is_made kept (Bind (numbered variables name)) nodes refl
    pattern_is_made kept (pattern.Default name constant) nodes =
        put_if_is_made kept (Put (numbered variables name) constant) nodes refl
    pattern_is_made kept (pattern.Pair p q) nodes =
        let one = built variables kept p nodes in
        let other = built variables kept q one.1 in
        made_on nodes other.1 (put (Pair one.0 other.0) other.1)
        (grows_on nodes one.1 other.1 (pattern_is_made kept p nodes).grows
        (pattern_is_made kept q one.1).grows) (put_is_made (Pair one.0 other.0) other.1 tt)
    pattern_is_made kept (pattern.Xml p q r) nodes =
        let one = built variables kept p nodes in
        let other = built variables kept q one.1 in
        let last = built variables kept r other.1 in
        made_on nodes last.1 (put (Xml one.0 other.0 last.0) last.1)
        (grows_on nodes one.1 last.1 (pattern_is_made kept p nodes).grows
        (grows_on one.1 other.1 last.1 (pattern_is_made kept q one.1).grows
        (pattern_is_made kept r other.1).grows)) (put_is_made (Xml one.0 other.0 last.0) last.1 tt)
    pattern_is_made kept (pattern.Record fields more) nodes =
        let made = built_fields variables kept fields [] nodes in
        made_on nodes made.1 (put (Record (sorted_over made.0 []) more) made.1)
        (fields_grow kept fields [] nodes)
        (put_is_made (Record (sorted_over made.0 []) more) made.1 tt)
    pattern_is_made kept (pattern.Both all) nodes = joined_is_made Both both_joins ANY nodes
        (built_all variables kept all [] nodes) (all_are_made kept all [] nodes tt)
    pattern_is_made kept (pattern.First all) nodes = joined_is_made First first_joins EMPTY nodes
        (built_all variables kept all [] nodes) (all_are_made kept all [] nodes tt)
    pattern_is_made kept (pattern.Sequence r) nodes = joined_is_made Both both_joins ANY nodes
        (put_copies variables r (built_items variables kept r []) (built_items variables false r [])
        (groups_of kept r) [] nodes)
        (copies_are_made r (built_items variables kept r []) (built_items variables false r [])
        (items_grow kept r []) (items_grow false r []) (groups_of kept r) [] nodes tt)

    pub all_are_made : (kept : Bool) (all : Patterns NodeId) (numbers : List ℕ) (nodes : Nodes)
        → AreThere numbers nodes → SeveralMade nodes (built_all variables kept all numbers nodes)
    all_are_made kept NoPattern numbers nodes there =
        record { grows = grows_not nodes; there = there }
    all_are_made kept (APattern p rest) numbers nodes there =
        let one = built variables kept p nodes in
        let made = pattern_is_made kept p nodes in
        several_on nodes one.1 (built_all variables kept rest (numbers ++ one.0 ∷ []) one.1)
        made.grows
        (all_are_made kept rest (numbers ++ one.0 ∷ []) one.1
        (there_end numbers one.0 one.1 (there_later numbers nodes one.1 made.grows.longer there)
        made.there))

    pub fields_grow : (kept : Bool) (fields : Fields NodeId) (made : KernelFields) (nodes : Nodes)
        → Grows nodes (built_fields variables kept fields made nodes).1
    fields_grow kept NoField made nodes = grows_not nodes
    fields_grow kept (pattern.Present label p rest) made nodes =
        let one = built variables kept p nodes in
        grows_on nodes one.1
        (built_fields variables kept rest (made ++ (label, APresent one.0) ∷ []) one.1).1
        (pattern_is_made kept p nodes).grows
        (fields_grow kept rest (made ++ (label, APresent one.0) ∷ []) one.1)
    fields_grow kept (pattern.Optional label type rest) made nodes =
        fields_grow kept rest (made ++ (label, AnOptional type) ∷ []) nodes

    pub items_grow : (kept : Bool) (r : Regular NodeId) (numbers : List ℕ) (nodes : Nodes)
        → Grows nodes (built_items variables kept r numbers nodes).1
    items_grow kept pattern.Nothing numbers nodes = grows_not nodes
    items_grow kept (pattern.Item p) numbers nodes = (pattern_is_made kept p nodes).grows
    items_grow kept (pattern.Seq all) numbers nodes = all_items_grow kept all numbers nodes
    items_grow kept (pattern.Alt all) numbers nodes = all_items_grow kept all numbers nodes
    items_grow kept (pattern.Repeat r post) numbers nodes = items_grow kept r numbers nodes
    items_grow kept (pattern.Capture name r) numbers nodes = items_grow kept r numbers nodes

    pub all_items_grow : (kept : Bool) (all : Regulars NodeId) (numbers : List ℕ) (nodes : Nodes)
        → Grows nodes (built_items_all variables kept all numbers nodes).1
    all_items_grow kept NoRegular numbers nodes = grows_not nodes
    all_items_grow kept (ARegular first rest) numbers nodes =
        let one = built_items variables kept first numbers nodes in
        grows_on nodes one.1 (built_items_all variables kept rest one.0 one.1).1
        (items_grow kept first numbers nodes) (all_items_grow kept rest one.0 one.1)
