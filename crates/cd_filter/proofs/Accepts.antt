-- The node of each kernel node holds exactly the things that it takes: elements, and values.
use Rattle.std.proofs.Common.{◌≡◌, ℕ, Bool, true, false, List, length, Option, Some, None}
use Rattle.std.proofs.Common.{is_some, option_map, ◌⊎◌, refl, sym, subst}
use Rattle.cd_syntax.specs.Name.{Name}
use Rattle.cd_sets.specs.declared.node_id.NodeId.{NodeId}
use Rattle.cd_model.specs.BuiltIns.{EMPTY}
use Rattle.cd_model.specs.Formula.{Graph, Field, formula_at, at_formula, holds, in_node}
use Rattle.cd_model.specs.Formula.{nodes as at_node}
use Rattle.cd_model.specs.Interfaces.{Interfaces, admits, value_in_node}
use Rattle.cd_model.specs.Thing as thing
use Rattle.cd_model.specs.Thing.{Thing, IsElement, IsValue}
use Rattle.cd_model.specs.Types.{Mapping, Reader, Products, Xmls, Records, reader, answers}
use Rattle.cd_model.specs.Types.{no_closure, closure_maps}
use Rattle.cd_model.proofs.Sorts as sorts
use Rattle.cd_model.proofs.Sorts.{Sort}
use Rattle.cd_matching.specs.Captures.{Captures, both}
use Rattle.cd_matching.specs.Kernel.{Kernel, KernelNode, Taken, no_parts, by_name, in_a_row}
use Rattle.cd_matching.specs.Kernel.{apart_of, taken}
use Rattle.cd_filter.specs.Accepting.{IsAcceptedFrom, AreRight, HoldsTaken, AreAccepting}
use Rattle.cd_filter.specs.Accepting.{place, place_if, place_of, fields_of, rest_of}
use Rattle.std.specs.List.{slice_get}
use Rattle.std.proofs.lemmas.Option.{slice_get_within}
use Rattle.std.proofs.Common.{zero, suc, ap, ◌∙◌}
use Rattle.cd_matching.specs.Kernel.{by_node}
use Rattle.cd_matching.proofs.Unfolding.{unfolds}
use Rattle.cd_filter.proofs.Combined.{both_answer, gathered_answer, named_answer}
use Rattle.cd_filter.proofs.AcceptsNodes.{ReadsApart, accepts_in}
use Rattle.cd_filter.proofs.AcceptsRecords.{IsAccepted, AreAccepted, records}

module _ (graph : Graph) (closed : ℕ → Mapping NodeId) (sort : Sort)
    (kernel : Kernel NodeId) (first : ℕ) (test : NodeId → Thing → Bool)
    (right : AreRight (answers (at_node graph) closed) sort.Of first test)
    (is : IsAcceptedFrom graph kernel first) where
  abbrev nodes : List (KernelNode NodeId)
  nodes = kernel.nodes

  abbrev in_it : Thing → NodeId → Bool → Type 0
  in_it = answers (at_node graph) closed

  abbrev takes : Thing → Taken
  takes = taken NodeId test nodes

  abbrev Accepted : Thing → Type 0
  Accepted = IsAccepted graph closed sort nodes first test right is.everything is.nothing

  abbrev AllAccepted : thing.Fields → Type 0
  AllAccepted = AreAccepted graph closed sort nodes first test right is.everything is.nothing

  abbrev Reads : Thing → Type 0
  Reads d = ReadsApart graph kernel first test is.sound (reader (at_node graph) closed d)
      (apart_of NodeId test nodes d)

  -- what is in both parts, and what is in three
  of_pair : (d e : Thing) → Accepted d → Accepted e → Reads (thing.Pair d e)
  of_pair d e one other = record {
    pairs = λ p q a b. both_answer (in_it d (place first p)) (in_it e (place first q))
        (reader (at_node graph) closed (thing.Pair d e)
        (Products (place first p) (place first q)))
        (takes d p) (takes e q) (one p a) (other q b) (λ s t. (s, t)) (λ s. s);
    gathers = λ by p q a b. gathered_answer (in_it d (place first p)) (in_it e (place first q))
        (reader (at_node graph) closed (thing.Pair d e)
        (Products (place first p) (place first q)))
        by d (takes d p) (takes e q) (one p a) (other q b) (λ s t. (s, t)) (λ s. s);
    xmls = λ p q r a b c. refl;
    records = λ named more within fits. refl;
  }

  abbrev InBoth : (d e : Thing) (p q : NodeId) → Bool → Type 0
  InBoth d e p q true = in_it d p true × in_it e q true
  InBoth d e p q false = in_it d p false ⊎ in_it e q false

  of_xml : (d e f : Thing) → Accepted d → Accepted e → Accepted f → Reads (thing.Xml d e f)
  of_xml d e f one other last = record {
    pairs = λ p q a b. refl;
    gathers = λ by p q a b. refl;
    xmls = λ p q r a b c. both_answer (in_it d (place first p))
        (InBoth e f (place first q) (place first r))
        (reader (at_node graph) closed (thing.Xml d e f)
        (Xmls (place first p) (place first q) (place first r)))
        (takes d p) (both (takes e q) (takes f r)) (one p a)
        (both_answer (in_it e (place first q)) (in_it f (place first r))
        (InBoth e f (place first q) (place first r)) (takes e q) (takes f r) (other q b) (last r c)
        (λ s t. (s, t)) (λ s. s))
        (λ s t. (s, t.0, t.1)) (λ s. s);
    records = λ named more within fits. refl;
  }

  of_record : (fields : thing.Fields) → sort.OfFields fields → AllAccepted fields
      → Reads (thing.Record fields)
  of_record fields sound all = record {
    pairs = λ p q a b. refl;
    gathers = λ by p q a b. refl;
    xmls = λ p q r a b c. refl;
    records = λ named more within fits. records graph closed sort nodes first test right
        is.everything is.nothing fields sound all named more within fits.0 fits.2;
  }

  -- a thing that has no parts
  of_leaf : (read : Reader NodeId) → ((p q : NodeId) → read (Products p q) false)
      → ((p q r : NodeId) → read (Xmls p q r) false)
      → ((named : List (Name × Field)) (rest : NodeId) → read (Records named rest) false)
      → ReadsApart graph kernel first test is.sound read no_parts
  of_leaf read products xmls records = record {
    pairs = λ p q a b. products (place first p) (place first q);
    gathers = λ by p q a b. products (place first p) (place first q);
    xmls = λ p q r a b c. xmls (place first p) (place first q) (place first r);
    records = λ named more within fits. records (fields_of first named) (rest_of more);
  }

  taken_is : (d : Thing) (number : ℕ) → takes d number
      ≡ in_a_row NodeId test nodes d (apart_of NodeId test nodes d) (length nodes) number
  taken_is (thing.Integer n) number = refl
  taken_is (thing.Character c) number = refl
  taken_is (thing.Atom name) number = refl
  taken_is (thing.Pair d e) number = refl
  taken_is (thing.Xml d e f) number = refl
  taken_is (thing.Record fields) number = refl
  taken_is (thing.Function pairs) number = refl
  taken_is (thing.Closure function environment) number = refl

  accepts_by : (d : Thing) → sort.Of d → Reads d → Accepted d
  accepts_by d sound reads number within =
      accepts_in graph kernel first test is.sound (reader (at_node graph) closed d) d (takes d)
      (apart_of NodeId test nodes d)
      (λ other here. unfolds NodeId test nodes d other (is.sound.ends other here))
      (λ id range. right id range d sound) reads number (formula_at graph (place first number))
      (is.formulas number within)

  mutual
    pub accepts : (d : Thing) → sort.Of d → Accepted d
    accepts (thing.Integer n) sound = accepts_by (thing.Integer n) sound
        (of_leaf (reader (at_node graph) closed (thing.Integer n)) (λ p q. refl) (λ p q r. refl)
        (λ named rest. refl))
    accepts (thing.Character c) sound = accepts_by (thing.Character c) sound
        (of_leaf (reader (at_node graph) closed (thing.Character c)) (λ p q. refl) (λ p q r. refl)
        (λ named rest. refl))
    accepts (thing.Atom name) sound = accepts_by (thing.Atom name) sound
        (of_leaf (reader (at_node graph) closed (thing.Atom name)) (λ p q. refl) (λ p q r. refl)
        (λ named rest. refl))
    accepts (thing.Function pairs) sound = accepts_by (thing.Function pairs) sound
        (of_leaf (reader (at_node graph) closed (thing.Function pairs)) (λ p q. refl)
        (λ p q r. refl) (λ named rest. refl))
    accepts (thing.Closure function environment) sound =
        accepts_by (thing.Closure function environment) sound
        (of_leaf (reader (at_node graph) closed (thing.Closure function environment))
        (λ p q. refl) (λ p q r. refl) (λ named rest. refl))
    accepts (thing.Pair d e) sound = let parts = sort.pair d e sound in
        accepts_by (thing.Pair d e) sound
        (of_pair d e (accepts d parts.0) (accepts e parts.1))
    accepts (thing.Xml d e f) sound = let parts = sort.xml d e f sound in
        accepts_by (thing.Xml d e f) sound
        (of_xml d e f (accepts d parts.0) (accepts e parts.1) (accepts f parts.2))
    accepts (thing.Record fields) sound = let sounds = sort.fields fields sound in
        accepts_by (thing.Record fields) sound
        (of_record fields sounds (all_accept fields sounds))

    all_accept : (fields : thing.Fields) → sort.OfFields fields → AllAccepted fields
    all_accept thing.NoField sound = tt
    all_accept (thing.Field label d rest) sound = let parts = sort.field label d rest sound in
        (accepts d parts.0, all_accept rest parts.1)

  -- at any number
  nowhere : (d : Thing) (number : ℕ) → slice_get nodes number ≡ None → takes d number ≡ None
  nowhere d number none = taken_is d number ∙ by_steps (length nodes)
    where
      by_steps : (steps : ℕ)
          → in_a_row NodeId test nodes d (apart_of NodeId test nodes d) steps number ≡ None
      by_steps zero = refl
      by_steps (suc steps) = ap (by_node NodeId test nodes d (apart_of NodeId test nodes d)
          (in_a_row NodeId test nodes d (apart_of NodeId test nodes d) steps)) none

  not_in_empty : (d : Thing) → in_it d EMPTY false
  not_in_empty d = subst (λ f. holds (at_formula (reader (at_node graph) closed d)) f false)
      (sym is.nothing) refl

  accepts_if : (d : Thing) → sort.Of d → (number : ℕ) (node : Option (KernelNode NodeId))
      → slice_get nodes number ≡ node
      → in_it d (place_if first number node) (is_some (takes d number))
  accepts_if d sound number None none = subst
      (λ (o : Option (Captures ℕ)). in_it d EMPTY (is_some o)) (sym (nowhere d number none))
      (not_in_empty d)
  accepts_if d sound number (Some node) there =
      accepts d sound number (slice_get_within nodes number node there)

  accepting_all : (d : Thing) (number : ℕ) → sort.Of d
      → in_it d (place_of nodes first number) (is_some (takes d number))
  accepting_all d number sound = accepts_if d sound number (slice_get nodes number) refl

  root_holds : (d : Thing) → sort.Of d → in_it d (place first kernel.root)
      (is_some (option_map (by_name kernel.variables) (takes d kernel.root)))
  root_holds d sound = subst (in_it d (place first kernel.root))
      (sym (named_answer kernel.variables (takes d kernel.root)))
      (accepts d sound kernel.root is.sound.root)

-- of elements, and of values
pub elements_accepted : (graph : Graph) (kernel : Kernel NodeId) (first : ℕ)
    → IsAcceptedFrom graph kernel first
    → HoldsTaken (in_node graph) IsElement first kernel (place first kernel.root)
elements_accepted graph kernel first is test d right sound =
    root_holds graph no_closure sorts.elements kernel first test right is d sound

pub values_accepted : (graph : Graph) (interfaces : Interfaces) (kernel : Kernel NodeId)
    (first : ℕ) → IsAcceptedFrom graph kernel first
    → HoldsTaken (value_in_node graph interfaces) IsValue first kernel (place first kernel.root)
values_accepted graph interfaces kernel first is test d right sound =
    root_holds graph (closure_maps (at_node graph) (admits interfaces)) sorts.values kernel first
    test right is d sound

pub elements_accepting : (graph : Graph) (kernel : Kernel NodeId) (first : ℕ)
    (test : NodeId → Thing → Bool) → IsAcceptedFrom graph kernel first
    → AreRight (in_node graph) IsElement first test
    → AreAccepting (in_node graph) IsElement test kernel.nodes (place_of kernel.nodes first)
elements_accepting graph kernel first test is right =
    accepting_all graph no_closure sorts.elements kernel first test right is

pub values_accepting : (graph : Graph) (interfaces : Interfaces) (kernel : Kernel NodeId)
    (first : ℕ) (test : NodeId → Thing → Bool) → IsAcceptedFrom graph kernel first
    → AreRight (value_in_node graph interfaces) IsValue first test
    → AreAccepting (value_in_node graph interfaces) IsValue test kernel.nodes
    (place_of kernel.nodes first)
values_accepting graph interfaces kernel first test is right =
    accepting_all graph (closure_maps (at_node graph) (admits interfaces)) sorts.values kernel
    first test right is
