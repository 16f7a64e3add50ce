-- Pairs in a row hold things of their nodes, one of each, and then a thing of the last one.
use Rattle.std.proofs.Common.{◌≡◌, ◌<◌, ◌≤◌, ◌+◌, ◌++◌, ℕ, zero, suc, true, List, [], ◌∷◌}
use Rattle.std.proofs.Common.{length, map, Some, refl, ap, sym, subst, ◌∙◌, arith}
use Rattle.std.proofs.lemmas.Option.{none-some}
use Rattle.std.specs.List.{slice_get}
use Rattle.cd_sets.specs.declared.node_id.NodeId.{NodeId}
use Rattle.cd_model.specs.AllOf.{AllOf}
use Rattle.cd_model.specs.BuiltIns.{node}
use Rattle.cd_model.specs.Formula as formula
use Rattle.cd_model.specs.Formula.{Graph, Formula, IsFormula, IsGraph, formula_at}
use Rattle.cd_model.specs.Membership.{holds, reader, answers}
use Rattle.cd_model.specs.Thing.{Thing, Pair, IsElement}
use Rattle.cd_model.proofs.Extending.{kept_elements}
use Rattle.cd_model.proofs.Ones.{each_weaker}
use Rattle.cd_model.proofs.FormulasAmongMore.{formula_after}
use Rattle.cd_meaning.specs.Sets.{◌⊆◌, elements_of}
use Rattle.cd_meaning.specs.Sequences.{followed_by}
use Rattle.cd_typing.specs.Typ.{typ, AreIn}
use Rattle.cd_forms.specs.Inner.Chains.{AreBefore, begin, chain_from}
use Rattle.cd_forms.proofs.LongerGraphs.{still_in, were_in}
use Rattle.cd_model.proofs.ReadHeads.{of_pair}
use Rattle.cd_model.specs.Types.{no_closure}

-- the formulas of a batch stand in a graph, from a number on
abbrev pub StandFrom : (first : ℕ) → List Formula → Graph → Type 0
StandFrom first batch graph = (k : ℕ) (f : Formula) → slice_get batch k ≡ Some f
    → formula_at graph (node (first + k)) ≡ f

pub stand_after : (graph batch : Graph) → StandFrom (length graph) batch (graph ++ batch)
stand_after graph batch k f is = formula_after graph batch k f is

got_left : (xs ys : List Formula) (k : ℕ) (f : Formula) → slice_get xs k ≡ Some f
    → slice_get (xs ++ ys) k ≡ Some f
got_left [] ys k f is = absurd (none-some f is)
got_left (x ∷ xs) ys zero f is = is
got_left (x ∷ xs) ys (suc k) f is = got_left xs ys k f is

got_right : (xs ys : List Formula) (k : ℕ) (f : Formula) → slice_get ys k ≡ Some f
    → slice_get (xs ++ ys) (length xs + k) ≡ Some f
got_right [] ys k f is =
    let none : 0 + k ≡ k = omega arith in ap (slice_get ys) none ∙ is
got_right (x ∷ xs) ys k f is =
    let more : suc (length xs) + k ≡ suc (length xs + k) = omega arith in
    ap (slice_get (x ∷ xs ++ ys)) more ∙ got_right xs ys k f is

-- so do those of its parts
pub stand_left : (first : ℕ) (xs ys : List Formula) (graph : Graph)
    → StandFrom first (xs ++ ys) graph → StandFrom first xs graph
stand_left first xs ys graph stand k f is = stand k f (got_left xs ys k f is)

pub stand_right : (first : ℕ) (xs ys : List Formula) (graph : Graph)
    → StandFrom first (xs ++ ys) graph → StandFrom (first + length xs) ys graph
stand_right first xs ys graph stand k f is =
    let more : first + length xs + k ≡ first + (length xs + k) = omega arith in
    ap (λ n. formula_at graph (node n)) more ∙ stand (length xs + k) f (got_right xs ys k f is)

module _ (graph : Graph) where
  -- pairs in a row begin at a node
  abbrev pub IsChain : List NodeId → (end id : NodeId) → Type 0
  IsChain [] end id = id ≡ end
  IsChain (head ∷ heads) end id = (next : NodeId)
      × (formula_at graph id ≡ formula.Pair head next) × IsChain heads end next

  pub chain_has : (heads : List NodeId) (end id : NodeId) → IsChain heads end id
      → (ds : List Thing) (last : Thing) → AreIn (map (typ graph) heads) ds
      → answers graph last end true → answers graph (followed_by ds last) id true
  chain_has [] end id is [] last are there =
      subst (λ (i : NodeId). answers graph last i true) (sym is) there
  chain_has [] end id is (d ∷ ds) last are there = absurd are
  chain_has (head ∷ heads) end id is [] last are there = absurd are
  chain_has (head ∷ heads) end id is (d ∷ ds) last are there =
      subst (λ (f : Formula). holds (reader graph (Pair d (followed_by ds last))) f true)
      (sym is.1) (are.1, chain_has heads end is.0 is.2 ds last are.2 there)

  pub chain_only : (heads : List NodeId) (end id : NodeId) → IsChain heads end id → (e : Thing)
      → IsElement e → answers graph e id true
      → AreBefore (map (typ graph) heads) (elements_of graph end) e
  chain_only [] end id is e element there =
      ([], e, tt, element, subst (λ (i : NodeId). answers graph e i true) is there, refl)
  chain_only (head ∷ heads) end id is e element there =
      let found = of_pair graph no_closure head is.0 e
      (subst (λ (f : Formula). holds (reader graph e) f true) is.1 there) in
      let elements = subst IsElement found.2 element in
      let rest = chain_only heads end is.0 is.2 found.1 elements.1 found.4 in (
        found.0 ∷ rest.0,
        rest.1,
        (elements.0, found.3, rest.2),
        rest.3,
        rest.4,
        found.2 ∙ ap (Pair found.0) rest.5,
      )

  -- the formulas of pairs in a row are a row, wherever they stand
  pub chain_stands : (first : ℕ) (heads : List NodeId) (end : NodeId)
      → StandFrom first (chain_from first heads end) graph
      → IsChain heads end (begin first heads end)
  chain_stands first [] end stand = refl
  chain_stands first (head ∷ heads) end stand =
      let here : first ≡ first + 0 = omega arith in (
        begin (first + 1) heads end,
        ap (λ n. formula_at graph (node n)) here ∙ stand 0 _ refl,
        chain_stands (first + 1) heads end (λ k f is.
            let later : first + 1 + k ≡ first + suc k = omega arith in
            ap (λ n. formula_at graph (node n)) later ∙ stand (suc k) f is),
      )

-- each of these formulas is one of a graph that is long enough
pub begins_below : (total first : ℕ) (heads : List NodeId) (end : NodeId) → end.0 < total
    → first + length heads ≤ total → (begin first heads end).0 < total
begins_below total first [] end below long = below
begins_below total first (head ∷ heads) end below long = omega (arith, long)

pub chain_sound : (total first : ℕ) (heads : List NodeId) (end : NodeId)
    → AllOf (λ id. id.0 < total) heads → end.0 < total → first + length heads ≤ total
    → AllOf (IsFormula total) (chain_from first heads end)
chain_sound total first [] end each below long = tt
chain_sound total first (head ∷ heads) end each below long =
    let more : first + 1 + length heads ≤ total = omega (arith, long) in (
      (each.0, begins_below total (first + 1) heads end below more),
      chain_sound total (first + 1) heads end each.1 below more,
    )

pub chain_length : (first : ℕ) (heads : List NodeId) (end : NodeId)
    → length (chain_from first heads end) ≡ length heads
chain_length first [] end = refl
chain_length first (head ∷ heads) end = ap suc (chain_length (first + 1) heads end)

-- old nodes are nodes of a longer graph
pub still_below : (graph batch : Graph) (ids : List NodeId)
    → AllOf (λ id. id.0 < length graph) ids
    → AllOf (λ id. id.0 < length graph + length batch) ids
still_below graph batch = each_weaker (λ id. id.0 < length graph)
    (λ id. id.0 < length graph + length batch) (λ id below. omega (arith, below))

-- pairs in a row that are put after a graph
module _ (graph : Graph) (sound : IsGraph graph) (heads : List NodeId) (end : NodeId)
    (each : AllOf (λ id. id.0 < length graph) heads) (below : end.0 < length graph) where
  abbrev pub pairs : List Formula
  pairs = chain_from (length graph) heads end

  abbrev longer : Graph
  longer = graph ++ pairs

  abbrev pub first_pair : NodeId
  first_pair = begin (length graph) heads end

  pub pairs_sound : AllOf (IsFormula (length graph + length pairs)) pairs
  pairs_sound = let count = chain_length (length graph) heads end in
      chain_sound (length graph + length pairs) (length graph) heads end
      (still_below graph pairs heads each) (omega (arith, below)) (omega (arith, count))

  is_chain : IsChain longer heads end first_pair
  is_chain = chain_stands longer (length graph) heads end (stand_after graph pairs)

  pub pairs_have : AreBefore (map (typ graph) heads) (elements_of graph end)
      ⊆ elements_of longer first_pair
  pairs_have e element (ds, last, are, end_element, there, same) =
      subst (λ (d : Thing). answers longer d first_pair true) (sym same)
      (chain_has longer heads end first_pair is_chain ds last
      (still_in graph pairs sound heads each ds are)
      ((kept_elements graph pairs sound last end true below).0 there))

  pub pairs_only : elements_of longer first_pair
      ⊆ AreBefore (map (typ graph) heads) (elements_of graph end)
  pairs_only e element there =
      let found = chain_only longer heads end first_pair is_chain e element there in (
        found.0,
        found.1,
        were_in graph pairs sound heads each found.0 found.2,
        found.3,
        (kept_elements graph pairs sound found.1 end true below).1 found.4,
        found.5,
      )

-- as code finds it
module _ (graph : Graph) (sound : IsGraph graph) (heads : List NodeId) (end : NodeId)
    (each : AllOf (λ id. id.0 < length graph) heads) (below : end.0 < length graph) (first : ℕ)
    (count : first ≡ length graph) (batch : List Formula)
    (is : batch ≡ chain_from first heads end) where
  is_pairs : pairs graph sound heads end each below ≡ batch
  is_pairs = ap (λ n. chain_from n heads end) (sym count) ∙ sym is

  pub row_sound : AllOf (IsFormula (length graph + length batch)) batch
  row_sound = subst (λ (all : List Formula). AllOf (IsFormula (length graph + length all)) all)
      is_pairs (pairs_sound graph sound heads end each below)

  module _ (longer : Graph) (added : longer ≡ graph ++ batch) (id : NodeId)
      (at : id ≡ begin first heads end) where
    is_longer : graph ++ pairs graph sound heads end each below ≡ longer
    is_longer = ap (λ all. graph ++ all) is_pairs ∙ sym added

    is_first : first_pair graph sound heads end each below ≡ id
    is_first = ap (λ n. begin n heads end) (sym count) ∙ sym at

    pub row_has : AreBefore (map (typ graph) heads) (elements_of graph end)
        ⊆ elements_of longer id
    row_has e element are = subst (λ (i : NodeId). answers longer e i true) is_first
        (subst (λ (g : Graph). answers g e (first_pair graph sound heads end each below) true)
        is_longer (pairs_have graph sound heads end each below e element are))

    pub row_only : elements_of longer id
        ⊆ AreBefore (map (typ graph) heads) (elements_of graph end)
    row_only e element there = pairs_only graph sound heads end each below e element
        (subst (λ (g : Graph). answers g e (first_pair graph sound heads end each below) true)
        (sym is_longer) (subst (λ (i : NodeId). answers longer e i true) (sym is_first) there))
