-- A closure is in the type of the interface of its function: what stands in for it, in a graph that has a node for each arrow, is in all
-- arrows.
use Rattle.std.proofs.Common.{◌≡◌, ◌+◌, ℕ, true, false, List, [], ◌∷◌, ◌++◌, ◌⊎◌, inl, inr, map, length, refl, sym, subst, arith}
use Rattle.std.proofs.Common.{append_assoc}
use Rattle.cd_sets.specs.declared.node_id.NodeId.{NodeId}
use Rattle.cd_model.specs.AllOf.{AllOf}
use Rattle.cd_model.specs.BuiltIns.{node}
use Rattle.cd_model.specs.Formula as formula
use Rattle.cd_model.specs.Formula.{Formula, Graph, IsGraph, IsFormula, nodes, at_formula, formula_at, holds, in_node}
use Rattle.cd_model.specs.Interfaces.{Interfaces, ArrowOf, admits, value_in_node, value_reader}
use Rattle.cd_model.specs.Membership.{reader}
use Rattle.cd_model.specs.Thing.{Thing, Fields, Function, Closure, Pairs, NoPair, Maps, Fails, IsElement, AreValues}
use Rattle.cd_model.specs.Types.{AllMap, element_maps}
use Rattle.cd_model.proofs.Apart.{element_apart}
use Rattle.cd_model.proofs.ApartAtNodes.{nodes_keep}
use Rattle.cd_model.proofs.FormulasAmongMore.{graph_with_more}
use Rattle.cd_meaning.specs.Functions.{MapsInto, HasPair, FailsAt}
use Rattle.cd_typing.specs.Interfaces.{Arrow, AllArrows, IsIntersection}
use Rattle.cd_typing.specs.Later.{IsLater}
use Rattle.cd_typing.specs.Typ.{Typ, typ, In, IsType}
use Rattle.cd_typing.proofs.Later.{later_still, type_later}
use Rattle.cd_safety.specs.HoldsAs.{HoldsAs}
use Rattle.cd_safety.specs.OfInterface.{AreArrowsOf}
use Rattle.cd_safety.specs.StandsIn as stand
use Rattle.cd_safety.specs.StandsIn.{Agrees, StandsIn}
use Rattle.cd_safety.specs.ValueIn.{ValueIn}
use Rattle.cd_safety.proofs.ArrowsPlaced.{ArrowsHold, arrows_placed, arrows_still_hold, types_of, admitted}
use Rattle.cd_safety.proofs.GraphsJoined.{behind, later_holds}
use Rattle.cd_safety.proofs.StandIns.{stand_in}

abbrev Ids : Type 0
Ids = ArrowOf NodeId

abbrev arrow_formula : Ids → Formula
arrow_formula ids = formula.Arrow ids.argument ids.result

-- behind a graph, a node for each of some arrows
abbrev HasNodeOf : Graph → Ids → Type 0
HasNodeOf graph ids = (id : NodeId) × (formula_at graph id ≡ arrow_formula ids)

arrow_nodes : (graph : Graph) (all : List Ids) → AllOf (HasNodeOf (graph ++ map arrow_formula all)) all
arrow_nodes graph [] = tt
arrow_nodes graph (ids ∷ rest) = (
  (node (length graph + 0), behind graph (arrow_formula ids ∷ map arrow_formula rest) 0),
  subst (λ whole. AllOf (HasNodeOf whole) rest) (append_assoc graph (arrow_formula ids ∷ []) (map arrow_formula rest))
      (arrow_nodes (graph ++ (arrow_formula ids ∷ [])) rest),
)

-- arrows between nodes are formulas
arrow_formulas : (graph : Graph) (count : ℕ) (all : List Ids) (arrows : List Arrow) → ArrowsHold graph all arrows
    → AllOf (IsFormula (length graph + count)) (map arrow_formula all)
arrow_formulas graph count [] arrows hold = tt
arrow_formulas graph count (ids ∷ rest) [] hold = absurd hold
arrow_formulas graph count (ids ∷ rest) (arrow ∷ arrows) hold =
    let a = hold.0.argument.is_node in
    let b = hold.0.result.is_node in
    ((omega (arith, a), omega (arith, b)), arrow_formulas graph count rest arrows hold.1)

-- a function that is in the arrow from one node to another maps the elements of the one into those of the other
module _ (graph : Graph) (a b : NodeId) where
  total_at : (pairs : Pairs) → element_maps (nodes graph) pairs a b true → (from : Thing) → FailsAt pairs from
      → in_node graph from a true → ⊥
  total_at NoPair maps from fails inside = fails
  total_at (Maps one other rest) maps from fails inside = total_at rest maps.1 from fails inside
  total_at (Fails one rest) maps from (inl same) inside =
      element_apart (nodes graph) (nodes_keep graph) from a inside (subst (λ e. in_node graph e a false) same maps.0)
  total_at (Fails one rest) maps from (inr fails) inside = total_at rest maps.1 from fails inside

  into_at : (pairs : Pairs) → element_maps (nodes graph) pairs a b true → (from to : Thing) → HasPair pairs from to
      → in_node graph from a true → in_node graph to b true
  into_at NoPair maps from to pair inside = absurd pair
  into_at (Maps one other rest) maps from to (inl same) inside = by_side maps.0
    where
      by_side : in_node graph one a false ⊎ in_node graph other b true → in_node graph to b true
      by_side (inl outside) = absurd
          (element_apart (nodes graph) (nodes_keep graph) from a inside (subst (λ e. in_node graph e a false) same.0 outside))
      by_side (inr is) = subst (λ e. in_node graph e b true) same.1 is
  into_at (Maps one other rest) maps from to (inr pair) inside = into_at rest maps.1 from to pair inside
  into_at (Fails one rest) maps from to pair inside = into_at rest maps.1 from to pair inside

  pub maps_into : (s t : Typ) → HoldsAs graph a s → HoldsAs graph b t → (pairs : Pairs) → element_maps (nodes graph) pairs a b true
      → MapsInto pairs (In s) (In t)
  maps_into s t from_holds to_holds pairs maps = record {
    total = λ from fails inside. total_at pairs maps from fails ((from_holds.elements from true).1 inside);
    into = λ from to pair inside.
        (to_holds.elements to true).0 (into_at pairs maps from to pair ((from_holds.elements from true).1 inside));
  }

-- only a function stands in for a closure
record HasFunctionFor (graph : Graph) (interfaces : Interfaces) (v : Thing) : Type 0 where
  pairs : Pairs
  is_element : IsElement (Function pairs)
  agrees : Agrees graph interfaces v (Function pairs)

function_for : (graph : Graph) (interfaces : Interfaces) (v e : Thing) → StandsIn graph interfaces v e → IsElement e
    → (function : ℕ) (env : Fields) → v ≡ Closure function env → HasFunctionFor graph interfaces v
function_for graph interfaces _ _ (stand.closure own environment pairs agrees) element function env same =
    record { pairs = pairs; is_element = element; agrees = agrees }
function_for graph interfaces _ _ _ element function env same = absurd cc

in_all_arrows : (arrows : List Arrow) (pairs : Pairs) → AllOf (λ arrow. MapsInto pairs (In arrow.argument) (In arrow.result)) arrows
    → AllArrows arrows (Function pairs)
in_all_arrows arrows pairs maps = (pairs, refl, maps)

module _ (interfaces : Interfaces) (function : ℕ) (env : Fields) (are_values : AreValues env) (arrows : List Arrow)
    (are : AreArrowsOf interfaces function arrows) where
  abbrev self : Thing
  self = Closure function env

  module _ (graph : Graph) (all : List Ids) (hold : ArrowsHold graph all arrows) (pairs : Pairs)
      (agrees : Agrees graph interfaces self (Function pairs)) where
    -- it is in each of its arrows, and so is what stands in for it
    each_arrow : (some : List Ids) (others : List Arrow) → ArrowsHold graph some others → AllOf (HasNodeOf graph) some
        → ((own : Pairs) → IsElement (Function own) → admits interfaces function own
        → AllOf (λ ids. element_maps (nodes graph) own ids.argument ids.result true) some)
        → AllOf (λ arrow. MapsInto pairs (In arrow.argument) (In arrow.result)) others
    each_arrow [] [] some_hold found admitted_are = tt
    each_arrow [] (arrow ∷ others) some_hold found admitted_are = absurd some_hold
    each_arrow (ids ∷ some) [] some_hold found admitted_are = absurd some_hold
    each_arrow (ids ∷ some) (arrow ∷ others) some_hold found admitted_are = (
      maps_into graph ids.argument ids.result arrow.argument arrow.result some_hold.0.argument some_hold.0.result pairs maps,
      each_arrow some others some_hold.1 found.1 (λ own element are_admitted. (admitted_are own element are_admitted).1),
    )
      where
        closure_maps : AllMap (nodes graph) (admits interfaces) function ids.argument ids.result
        closure_maps own element are_admitted = (admitted_are own element are_admitted).0

        inside : value_in_node graph interfaces self found.0.0 true
        inside = subst (λ form. holds (at_formula (value_reader graph interfaces self)) form true) (sym found.0.1) closure_maps

        maps : element_maps (nodes graph) pairs ids.argument ids.result true
        maps = subst (λ form. holds (reader graph (Function pairs)) form true) found.0.1 ((agrees found.0.0 true).0 inside)

  pub closure_in : (t : Typ) → IsIntersection arrows t → ValueIn interfaces t self
  closure_in t is =
      let type = is.is_type in
      let placed = arrows_placed t.graph type.sound arrows (types_of interfaces function arrows are) in
      let batch = map arrow_formula placed.ids in
      let graph : Graph = placed.later ++ batch in
      let last : IsLater placed.later graph = record {
        more = batch;
        is = refl;
        sound = graph_with_more placed.later batch placed.is_later.sound
            (arrow_formulas placed.later (length batch) placed.ids arrows placed.hold);
      } in
      let later : IsLater t.graph graph = later_still t.graph placed.later graph placed.is_later last in
      let here : IsType (typ graph t.id) = type_later t.graph graph later t.id type in
      let hold = arrows_still_hold placed.later graph last placed.is_later.sound placed.ids arrows placed.hold in
      let found = stand_in graph here.more here.begins here.sound interfaces self are_values (arrows, are) in
      let functional = function_for graph interfaces self found.e found.stands found.is_element function env refl in
      let mapped = each_arrow graph placed.ids hold functional.pairs functional.agrees placed.ids arrows hold
      (arrow_nodes placed.later placed.ids)
      (λ own own_is are_admitted. (admitted graph own own_is interfaces function arrows placed.ids are hold).0 are_admitted) in
      let at_self = later_holds t.graph graph later type.sound t.id type.is_node in
      (at_self.values interfaces self true).0
      ((functional.agrees t.id true).1 ((at_self.elements (Function functional.pairs) true).1
      (is.whole (Function functional.pairs) functional.is_element (in_all_arrows arrows functional.pairs mapped))))
