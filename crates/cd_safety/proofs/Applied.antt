-- A closure that is in a type, all functions of which map the arguments into the results, is applied to an argument: some arrow of its
-- interface takes that, and what is in the results of all arrows that do is in the results.
use Rattle.std.proofs.Common.{◌≡◌, ◌+◌, ◌<◌, ℕ, true, false, List, [], ◌∷◌, ◌++◌, ◌⊎◌, inl, inr, length, refl, sym, subst, arith}
use Rattle.cd_sets.specs.declared.node_id.NodeId.{NodeId}
use Rattle.cd_model.specs.AllOf.{AllOf, AnyOf}
use Rattle.cd_model.specs.BuiltIns.{built_ins, node}
use Rattle.cd_model.specs.Formula as formula
use Rattle.cd_model.specs.Formula.{Formula, Graph, IsGraph, nodes, at_formula, formula_at, holds, in_node}
use Rattle.cd_model.specs.Interfaces.{Interfaces, ArrowOf, admits, value_in_node, value_reader}
use Rattle.cd_model.specs.Membership.{reader}
use Rattle.cd_model.specs.Thing.{Thing, Fields, Function, Closure, Pairs, NoPair, Maps, Fails, IsElement, ArePairs}
use Rattle.cd_model.specs.Types.{AllMap, element_maps}
use Rattle.cd_model.proofs.Apart.{element_apart}
use Rattle.cd_model.proofs.ApartAtNodes.{nodes_keep}
use Rattle.cd_model.proofs.DecidedAtNodes as elements
use Rattle.cd_rules.specs.Needs.{question}
use Rattle.cd_rules.proofs.Answered.{each_of_asked}
use Rattle.cd_rules.proofs.Asking.{asked_of_each}
use Rattle.cd_rules.proofs.EachQuestion.{element_too}
use Rattle.cd_model.proofs.Ones.{each_weaker}
use Rattle.cd_model.proofs.FormulasAmongMore.{graph_with_more}
use Rattle.cd_meaning.specs.Functions.{MapsInto, IsFunction}
use Rattle.cd_typing.specs.Interfaces.{Arrow}
use Rattle.cd_typing.specs.Later.{IsLater}
use Rattle.cd_typing.specs.Typ.{Typ, typ, In, IsType}
use Rattle.cd_typing.proofs.Later.{later_still, type_later}
use Rattle.cd_safety.specs.Applicable.{IsApplicable}
use Rattle.cd_safety.specs.HoldsAs.{HoldsAs}
use Rattle.cd_safety.specs.StandsIn as stand
use Rattle.cd_safety.specs.StandsIn.{Agrees, StandsIn, HasStandIn}
use Rattle.cd_safety.specs.ValueIn.{ValueIn, IsTypedValue}
use Rattle.cd_safety.proofs.ArrowsPlaced.{ArrowsHold, arrows_placed, arrows_still_hold, node_placed, types_of, admitted}
use Rattle.cd_safety.proofs.ClosuresDecided.{closure_decided}
use Rattle.cd_safety.proofs.GraphsJoined.{behind, later_holds, still_holds}
use Rattle.cd_safety.proofs.StandInsAgree.{agree}
use Rattle.cd_safety.proofs.StandIns.{stand_in}

-- only a closure has a function that stands in for it
closure_alone : (graph : Graph) (interfaces : Interfaces) (v e : Thing) → StandsIn graph interfaces v e → IsFunction e
    → (function : ℕ) × (environment : Fields) × (v ≡ Closure function environment)
closure_alone graph interfaces _ _ (stand.closure function environment pairs agrees) is = (function, environment, refl)
closure_alone graph interfaces _ _ _ is = absurd is

-- a value in a type of functions is a closure
pub is_closure : (interfaces : Interfaces) (self : Typ) → IsType self → ((e : Thing) → IsElement e → In self e → IsFunction e)
    → (v : Thing) → IsTypedValue interfaces v → ValueIn interfaces self v
    → (function : ℕ) × (environment : Fields) × (v ≡ Closure function environment)
is_closure interfaces self type functions v typed inside =
    let found = stand_in self.graph type.more type.begins type.sound interfaces v typed.is_value typed.have_arrows in
    closure_alone self.graph interfaces v found.e found.stands (functions found.e found.is_element
    ((agree self.graph interfaces v found.e found.stands self.id true).0 inside))

-- a node behind a graph, with the arrow from one node to another
module _ (graph : Graph) (a b : NodeId) where
  abbrev with_arrow : Graph
  with_arrow = graph ++ (formula.Arrow a b ∷ [])

  abbrev the_arrow : NodeId
  the_arrow = node (length graph + 0)

  arrow_is_later : IsGraph graph → a.0 < length graph → b.0 < length graph → IsLater graph with_arrow
  arrow_is_later sound a_below b_below = record {
    more = formula.Arrow a b ∷ [];
    is = refl;
    sound = graph_with_more graph (formula.Arrow a b ∷ []) sound ((omega (arith, a_below), omega (arith, b_below)), tt);
  }

  is_the_arrow : formula_at with_arrow the_arrow ≡ formula.Arrow a b
  is_the_arrow = behind graph (formula.Arrow a b ∷ []) 0

-- a function that maps the elements of one node into those of another
module _ (graph : Graph) (a b : NodeId) where
  pub maps_at : (pairs : Pairs) → MapsInto pairs (λ e. in_node graph e a true) (λ e. in_node graph e b true)
      → element_maps (nodes graph) pairs a b true
  maps_at NoPair maps = refl
  maps_at (Maps from to rest) maps = (
    elim (elements.in_or_outside graph from a) [
      | inl inside ↦ inr (maps.into from to (inl (refl, refl)) inside)
      | inr outside ↦ inl outside
    ],
    maps_at rest (record { total = maps.total; into = λ one other pair. maps.into one other (inr pair) }),
  )
  maps_at (Fails from rest) maps = (
    elim (elements.in_or_outside graph from a) [
      | inl inside ↦ absurd (maps.total from (inl refl) inside)
      | inr outside ↦ outside
    ],
    maps_at rest (record { total = λ one fails. maps.total one (inr fails); into = maps.into }),
  )

-- all types of an application as nodes of one graph, and a node for the arrow from the argument's to the result's
record InOneGraph (self s result : Typ) (arrows : List Arrow) : Type 0 where
  graph : Graph
  more : Graph
  begins : graph ≡ built_ins ++ more
  sound : IsGraph graph
  self_at : NodeId
  s_at : NodeId
  result_at : NodeId
  arrow_at : NodeId
  ids : List (ArrowOf NodeId)
  self_holds : HoldsAs graph self_at self
  s_holds : HoldsAs graph s_at s
  result_holds : HoldsAs graph result_at result
  arrow_is : formula_at graph arrow_at ≡ formula.Arrow s_at result_at
  hold : ArrowsHold graph ids arrows

in_one_graph : (self s result : Typ) (arrows : List Arrow) → IsType self → IsType s → IsType result
    → AllOf (λ arrow. IsType arrow.argument × IsType arrow.result) arrows → InOneGraph self s result arrows
in_one_graph self s result arrows self_is s_is result_is types =
    let one = node_placed self.graph self_is.sound s s_is in
    let two = node_placed one.later one.is_later.sound result result_is in
    let all = arrows_placed two.later two.is_later.sound arrows types in
    let from_one : IsLater one.later all.later = later_still one.later two.later all.later two.is_later all.is_later in
    let from_self : IsLater self.graph all.later = later_still self.graph one.later all.later one.is_later from_one in
    let s_holds : HoldsAs all.later one.id s = still_holds one.later all.later from_one one.is_later.sound one.id s one.holds in
    let result_holds : HoldsAs all.later two.id result =
    still_holds two.later all.later all.is_later two.is_later.sound two.id result two.holds in
    let sound = all.is_later.sound in
    let graph : Graph = with_arrow all.later one.id two.id in
    let last : IsLater all.later graph = arrow_is_later all.later one.id two.id sound s_holds.is_node result_holds.is_node in
    let from_first : IsLater self.graph graph = later_still self.graph all.later graph from_self last in
    let type : IsType (typ graph self.id) = type_later self.graph graph from_first self.id self_is in
    record {
      graph = graph;
      more = type.more;
      begins = type.begins;
      sound = type.sound;
      self_at = self.id;
      s_at = one.id;
      result_at = two.id;
      arrow_at = the_arrow all.later one.id two.id;
      ids = all.ids;
      self_holds = later_holds self.graph graph from_first self_is.sound self.id self_is.is_node;
      s_holds = still_holds all.later graph last sound one.id s s_holds;
      result_holds = still_holds all.later graph last sound two.id result result_holds;
      arrow_is = is_the_arrow all.later one.id two.id;
      hold = arrows_still_hold all.later graph last sound all.ids arrows all.hold;
    }

module _ (interfaces : Interfaces) (function : ℕ) (environment : Fields) (arrows : List Arrow) (self s result : Typ)
    (is : IsApplicable interfaces function environment arrows self s result) where
  abbrev all : InOneGraph self s result arrows
  all = in_one_graph self s result arrows is.self_is is.s_is is.result_is (types_of interfaces function arrows is.are_arrows)

  abbrev self_value : Thing
  self_value = Closure function environment

  -- the elements of its type are in the arrow from the one type to the other
  elements_in_arrow : (e : Thing) → IsElement e → In self e → holds (reader all.graph e) (formula.Arrow all.s_at all.result_at) true
  elements_in_arrow (Function pairs) element inside =
      let maps = is.all_map.into pairs (element, inside) in
      maps_at all.graph all.s_at all.result_at pairs (record {
        total = λ from fails argument. maps.total from fails ((all.s_holds.elements from true).0 argument);
        into = λ from to pair argument.
            (all.result_holds.elements to true).1 (maps.into from to pair ((all.s_holds.elements from true).0 argument));
      })
  elements_in_arrow e element inside = absurd (is.all_map.functions_alone e element inside)

  -- so it is itself: else an element of its type would be outside the arrow
  in_arrow : AllMap (nodes all.graph) (admits interfaces) function all.s_at all.result_at
  in_arrow = elim (closure_decided all.graph all.more all.begins all.sound interfaces function arrows is.are_arrows
      environment all.arrow_at) [
        | inl inside ↦ subst (λ form. holds (at_formula (value_reader all.graph interfaces self_value)) form true) all.arrow_is inside
        | inr outside ↦ absurd (refuted outside)
      ]
    where
      refuted : value_in_node all.graph interfaces self_value all.arrow_at false → ⊥
      refuted outside =
          let found = element_too all.graph all.more all.begins all.sound (question (all.self_at ∷ []) (all.arrow_at ∷ []))
          interfaces self_value is.are_values (asked_of_each (value_in_node all.graph interfaces self_value)
          (all.self_at ∷ []) (all.arrow_at ∷ []) ((all.self_holds.values interfaces self_value true).1 is.inside, tt) (outside, tt)) in
          let each = each_of_asked (in_node all.graph found.0) (all.self_at ∷ []) (all.arrow_at ∷ []) found.2 in
          element_apart (nodes all.graph) (nodes_keep all.graph) found.0 all.arrow_at
          (subst (λ form. holds (reader all.graph found.0) form true) (sym all.arrow_is)
          (elements_in_arrow found.0 found.1 ((all.self_holds.elements found.0 true).0 each.0.0)))
          each.1.0

  -- a function element that is in all arrows of the interface maps as the type says
  maps_as_said : (pairs : Pairs) → ArePairs pairs
      → AllOf (λ ids. element_maps (nodes all.graph) pairs ids.argument ids.result true) all.ids
      → element_maps (nodes all.graph) pairs all.s_at all.result_at true
  maps_as_said pairs element each = in_arrow pairs element
      ((admitted all.graph pairs element interfaces function arrows all.ids is.are_arrows all.hold).1 each)

  -- what stands in for a value, in this graph
  abbrev for_value : (v : Thing) → IsTypedValue interfaces v → HasStandIn all.graph interfaces v
  for_value v typed = stand_in all.graph all.more all.begins all.sound interfaces v typed.is_value typed.have_arrows

  module _ (w : Thing) (typed : IsTypedValue interfaces w) (argument : ValueIn interfaces s w) where
    abbrev from : Thing
    from = (for_value w typed).e

    agrees : Agrees all.graph interfaces w from
    agrees = agree all.graph interfaces w from (for_value w typed).stands

    from_inside : in_node all.graph from all.s_at true
    from_inside = (agrees all.s_at true).0 ((all.s_holds.values interfaces w true).1 argument)

    takes_or_not : (ids : List (ArrowOf NodeId)) (arrows : List Arrow) → ArrowsHold all.graph ids arrows
        → AnyOf (λ arrow. ValueIn interfaces arrow.argument w) arrows ⊎ AllOf (λ ids. in_node all.graph from ids.argument false) ids
    takes_or_not [] [] hold = inr tt
    takes_or_not [] (arrow ∷ arrows) hold = absurd hold
    takes_or_not (ids ∷ rest) [] hold = absurd hold
    takes_or_not (ids ∷ rest) (arrow ∷ arrows) hold =
        by_first (elements.in_or_outside all.graph from ids.argument) (takes_or_not rest arrows hold.1)
      where
        by_first : in_node all.graph from ids.argument true ⊎ in_node all.graph from ids.argument false
            → AnyOf (λ arrow. ValueIn interfaces arrow.argument w) arrows ⊎ AllOf (λ ids. in_node all.graph from ids.argument false) rest
            → AnyOf (λ arrow. ValueIn interfaces arrow.argument w) (arrow ∷ arrows)
            ⊎ AllOf (λ ids. in_node all.graph from ids.argument false) (ids ∷ rest)
        by_first (inl inside) later = inl (inl ((hold.0.argument.values interfaces w true).0 ((agrees ids.argument true).1 inside)))
        by_first (inr outside) (inl later) = inl (inr later)
        by_first (inr outside) (inr none) = inr (outside, none)

    -- Some arrow of the interface takes the argument: else a function that fails at what stands in for it would be in all arrows
    pub is_taken : AnyOf (λ arrow. ValueIn interfaces arrow.argument w) arrows
    is_taken = elim (takes_or_not all.ids arrows all.hold) [ inl some ↦ some | inr none ↦ absurd (refuted none) ]
      where
        refuted : AllOf (λ ids. in_node all.graph from ids.argument false) all.ids → ⊥
        refuted none =
            let fails = maps_as_said (Fails from NoPair) ((for_value w typed).is_element, tt)
            (each_weaker (λ (ids : ArrowOf NodeId). in_node all.graph from ids.argument false)
            (λ ids. element_maps (nodes all.graph) (Fails from NoPair) ids.argument ids.result true) (λ ids outside. (outside, refl))
            all.ids none) in
            element_apart (nodes all.graph) (nodes_keep all.graph) from all.s_at from_inside fails.0

    module _ (r : Thing) (typed' : IsTypedValue interfaces r)
        (given : AllOf (λ arrow. ValueIn interfaces arrow.argument w → ValueIn interfaces arrow.result r) arrows) where
      abbrev to : Thing
      to = (for_value r typed').e

      agrees_to : Agrees all.graph interfaces r to
      agrees_to = agree all.graph interfaces r to (for_value r typed').stands

      each_maps : (ids : List (ArrowOf NodeId)) (arrows : List Arrow) → ArrowsHold all.graph ids arrows
          → AllOf (λ arrow. ValueIn interfaces arrow.argument w → ValueIn interfaces arrow.result r) arrows
          → AllOf (λ ids. element_maps (nodes all.graph) (Maps from to NoPair) ids.argument ids.result true) ids
      each_maps [] [] hold given = tt
      each_maps [] (arrow ∷ arrows) hold given = absurd hold
      each_maps (ids ∷ rest) [] hold given = absurd hold
      each_maps (ids ∷ rest) (arrow ∷ arrows) hold given = (
        (
          elim (elements.in_or_outside all.graph from ids.argument) [
            | inl inside ↦ inr ((agrees_to ids.result true).0 ((hold.0.result.values interfaces r true).1
                (given.0 ((hold.0.argument.values interfaces w true).0 ((agrees ids.argument true).1 inside)))))
            | inr outside ↦ inl outside
          ],
          refl,
        ),
        each_maps rest arrows hold.1 given.1,
      )

      -- What is in the results of the arrows that take the argument is in the results: a function that maps what stands in for the one to
      -- what stands in for the other is in all arrows
      pub is_given : ValueIn interfaces result r
      is_given = by_side (maps_as_said (Maps from to NoPair) ((for_value w typed).is_element, (for_value r typed').is_element, tt)
          (each_maps all.ids arrows all.hold given)).0
        where
          by_side : in_node all.graph from all.s_at false ⊎ in_node all.graph to all.result_at true → ValueIn interfaces result r
          by_side (inl outside) =
              absurd (element_apart (nodes all.graph) (nodes_keep all.graph) from all.s_at from_inside outside)
          by_side (inr inside) = (all.result_holds.values interfaces r true).0 ((agrees_to all.result_at true).1 inside)
