-- The nodes that are made from an explored table hold what variables capture.
use Rattle.std.proofs.Common.{◌≡◌, ◌<◌, ℕ, Bool, true, false, List, ◌++◌, length}
use Rattle.std.proofs.Common.{Option, Some, None, is_some, refl, sym, subst, append_assoc}
use Rattle.std.proofs.Common.{length-append, arith}
use Rattle.std.specs.List.{slice_get}
use Rattle.std.proofs.lemmas.Option.{slice_get_within}
use Rattle.cd_sets.specs.declared.node_id.NodeId.{NodeId}
use Rattle.cd_model.specs.AllOf.{AllOf}
use Rattle.cd_model.specs.Formula.{Graph, IsGraph, in_node}
use Rattle.cd_model.specs.Interfaces.{Interfaces, admits, value_in_node}
use Rattle.cd_model.specs.Thing.{Thing, IsElement, IsValue}
use Rattle.cd_model.proofs.BothWays.{itself}
use Rattle.cd_model.proofs.Extending.{kept_elements, kept_values}
use Rattle.cd_matching.specs.Kernel.{Kernel, KernelNode, Test, Bind, Put, Pair, Xml, Record, Both}
use Rattle.cd_matching.specs.Kernel.{First, Gather, Ends, IsSoundNode, optional_types, taken}
use Rattle.cd_model.proofs.Ones.{each_weaker}
use Rattle.cd_products.specs.Products.{AreInterfacesOf}
use Rattle.cd_filter.specs.Accepting.{place_if, place_of, IsAcceptedFrom, AreRight, AreAccepting}
use Rattle.cd_filter.specs.Capturing.{IsSettled, IsWhole, IsAccepted}
use Rattle.cd_filter.specs.Capturing.{IsInhabitedPlace}
use Rattle.cd_filter.specs.CapturedNodes.{IsSolvedForElements, IsSolvedForValues, IsExactCapture}
use Rattle.cd_filter.specs.CapturedNodes.{IsWideCapture}
use Rattle.cd_filter.specs.Table.{Place, Table, first_place}
use Rattle.cd_filter.proofs.Accepts.{elements_accepting, values_accepting}
use Rattle.cd_filter.proofs.ExactCapture.{exactly, widely}
use Rattle.cd_explored.specs.CaptureNodes.{AreCaptureNodes, AreNodesOfVariables}
use Rattle.cd_explored.specs.Captures.{AreExactCaptures, AreWideCaptures}
use Rattle.cd_explored.specs.Explored.{IsPlace, IsSettledPlace, IsExplored}
use Rattle.cd_explored.proofs.CaptureNodesHold.{element_nodes, value_nodes}
use Rattle.cd_explored.proofs.LongerTables.{explored_stays}

-- a node whose types are such has types that are such
sound_weaker : (nodes : List (KernelNode NodeId)) (variables : ℕ) (Is Has : NodeId → Type 0)
    → ((type : NodeId) → Is type → Has type) → (node : KernelNode NodeId)
    → IsSoundNode nodes variables Is node → IsSoundNode nodes variables Has node
sound_weaker nodes variables Is Has weaker (Test type) sound = weaker type sound
sound_weaker nodes variables Is Has weaker (Bind variable) sound = sound
sound_weaker nodes variables Is Has weaker (Put variable constant) sound = sound
sound_weaker nodes variables Is Has weaker (Pair p q) sound = sound
sound_weaker nodes variables Is Has weaker (Xml p q r) sound = sound
sound_weaker nodes variables Is Has weaker (Record named more) sound =
    (sound.0, sound.1, each_weaker Is Has weaker (optional_types named) sound.2)
sound_weaker nodes variables Is Has weaker (Both p q) sound = sound
sound_weaker nodes variables Is Has weaker (First p q) sound = sound
sound_weaker nodes variables Is Has weaker (Gather by p q) sound = sound

module _ (graph : Graph) (kernel : Kernel NodeId) (first : ℕ)
    (is : IsAcceptedFrom graph kernel first) where
  abbrev accepts : ℕ → NodeId
  accepts = place_of kernel.nodes first

  -- the nodes that accept are nodes of the graph
  pub accepts_below : (number : ℕ) → (accepts number).0 < length graph
  accepts_below number = by_node (slice_get kernel.nodes number) refl
    where
      by_node : (one : Option (KernelNode NodeId)) → slice_get kernel.nodes number ≡ one
          → (place_if first number one).0 < length graph
      by_node None there = omega (arith, is.sound.root, is.within)
      by_node (Some one) there =
          omega (arith, slice_get_within kernel.nodes number one there, is.within)

  -- they accept in each longer graph
  module _ (sound : IsGraph graph) (rest : Graph) (test : NodeId → Thing → Bool) where
    abbrev longer : Graph
    longer = graph ++ rest

    elements_accept : AreRight (in_node longer) IsElement (length graph) test
        → AreAccepting (in_node longer) IsElement test kernel.nodes accepts
    elements_accept right d number element = let answer = is_some (taken NodeId test kernel.nodes d number) in
        (kept_elements graph rest sound d (accepts number) answer (accepts_below number)).0
        (elements_accepting graph kernel first test is right_first d number element)
      where
        right_first : AreRight (in_node graph) IsElement first test
        right_first id below e element = let here : id.0 < length graph = omega (arith, is.within) in
            (kept_elements graph rest sound e id (test id e) here).1 (right id here e element)

    values_accept : (interfaces : Interfaces)
        → AreRight (value_in_node longer interfaces) IsValue (length graph) test
        → AreAccepting (value_in_node longer interfaces) IsValue test kernel.nodes accepts
    values_accept interfaces right d number value = let answer = is_some (taken NodeId test kernel.nodes d number) in
        (kept_values graph rest sound (admits interfaces) (admits interfaces)
        (λ function pairs element. itself) d (accepts number) answer (accepts_below number)).0
        (values_accepting graph interfaces kernel first test is right_first d number value)
      where
        right_first : AreRight (value_in_node graph interfaces) IsValue first test
        right_first id below v value = let here : id.0 < length graph = omega (arith, is.within) in
            (kept_values graph rest sound (admits interfaces) (admits interfaces)
            (λ function pairs element. itself) v id (test id v) here).1 (right id here v value)

    nodes_sound : AllOf (IsSoundNode kernel.nodes (length kernel.variables)
        (λ type. type.0 < length longer)) kernel.nodes
    nodes_sound = each_weaker
        (IsSoundNode kernel.nodes (length kernel.variables) (λ type. type.0 < first))
        (IsSoundNode kernel.nodes (length kernel.variables) (λ type. type.0 < length longer))
        (sound_weaker kernel.nodes (length kernel.variables) (λ type. type.0 < first)
        (λ type. type.0 < length longer)
        (λ type below. omega (arith, length-append graph rest, is.within)))
        kernel.nodes is.sound.nodes

  -- what is explored is whole
  module _ (matched : NodeId) (table : Table) where
    abbrev root : Place
    root = first_place kernel matched accepts

    whole_elements : (all : Graph) → IsExplored all kernel accepts root table
        → IsWhole (in_node all) IsElement kernel.nodes true accepts table
    whole_elements all explored = record {
      settled = each_weaker (IsSettledPlace all kernel accepts)
          (IsSettled (in_node all) IsElement kernel.nodes true accepts)
          (λ entry it. it.elements) table explored.settled;
      ends = each_weaker (λ entry. IsPlace all kernel entry.0)
          (λ entry. Ends kernel.nodes (length kernel.nodes) entry.0.number)
          (λ entry it. is.sound.ends entry.0.number it.number) table explored.places;
      leads = explored.leads;
      gathers = explored.gathers;
    }

    whole_values : (all more : Graph) (interfaces : Interfaces) → IsGraph (all ++ more)
        → AreInterfacesOf (all ++ more) interfaces → IsExplored all kernel accepts root table
        → IsWhole (value_in_node (all ++ more) interfaces) IsValue kernel.nodes false accepts table
    whole_values all more interfaces still of_graph explored = record {
      settled = each_weaker (IsSettledPlace all kernel accepts)
          (IsSettled (value_in_node (all ++ more) interfaces) IsValue kernel.nodes false accepts)
          (λ entry it. it.values more interfaces still of_graph) table explored.settled;
      ends = each_weaker (λ entry. IsPlace all kernel entry.0)
          (λ entry. Ends kernel.nodes (length kernel.nodes) entry.0.number)
          (λ entry it. is.sound.ends entry.0.number it.number) table explored.places;
      leads = explored.leads;
      gathers = explored.gathers;
    }

    module _ (batch : Graph) (sound : IsGraph graph)
        (explored : IsExplored graph kernel accepts root table) (variable : ℕ)
        (id : Place → NodeId)
        (are : AreCaptureNodes (graph ++ batch) variable id table root) where
      abbrev after : Graph
      after = graph ++ batch

      still_explored : IsExplored after kernel accepts root table
      still_explored =
          explored_stays graph batch sound kernel accepts accepts_below root table explored

      solved_elements : (test : NodeId → Thing → Bool)
          → AreRight (in_node after) IsElement (length after) test
          → IsSolvedForElements after matched kernel accepts table variable id test
      solved_elements test right = (
        record {
          kernel_is = record {
            accepting = elements_accept sound batch test
                (λ type below. right type (omega (arith, length-append graph batch)));
            in_range = is.sound.parts;
            sound = nodes_sound sound batch test;
            ends = is.sound.ends;
          };
          whole = whole_elements after still_explored;
          rooted = explored.rooted;
          are_nodes = element_nodes after variable id table root are;
        },
        each_weaker (λ entry. IsPlace after kernel entry.0)
            (λ entry. IsAccepted (in_node after) IsElement test kernel.nodes entry.0)
            (λ entry it. it.accepted test right) table still_explored.places,
        each_weaker (IsSettledPlace after kernel accepts)
            (IsInhabitedPlace (in_node after) IsElement) (λ entry it. it.inhabited) table
            still_explored.settled,
      )

      exact_capture : IsExactCapture after matched kernel variable (id root)
      exact_capture = exactly after matched kernel accepts table variable id solved_elements

      module _ (more : Graph) (interfaces : Interfaces) (test : NodeId → Thing → Bool)
          (still : IsGraph (after ++ more)) (of_graph : AreInterfacesOf (after ++ more) interfaces)
          (right : AreRight (value_in_node (after ++ more) interfaces) IsValue (length after) test)
        where
          same : after ++ more ≡ graph ++ (batch ++ more)
          same = append_assoc graph batch more

          accepting : AreAccepting (value_in_node (after ++ more) interfaces) IsValue test
              kernel.nodes accepts
          accepting = subst
              (λ g. AreAccepting (value_in_node g interfaces) IsValue test kernel.nodes accepts)
              (sym same)
              (values_accept sound (batch ++ more) test interfaces
              (subst (λ g. AreRight (value_in_node g interfaces) IsValue (length graph) test) same
              (λ type below. right type (omega (arith, length-append graph batch)))))

          solved_values : IsSolvedForValues (after ++ more) interfaces matched kernel accepts table
              variable id test
          solved_values = record {
            kernel_is = record {
              accepting = accepting;
              in_range = is.sound.parts;
              sound = subst (λ g. AllOf (IsSoundNode kernel.nodes (length kernel.variables)
                  (λ type. type.0 < length g)) kernel.nodes) (sym same)
                  (nodes_sound sound (batch ++ more) test);
              ends = is.sound.ends;
            };
            whole = whole_values after more interfaces still of_graph still_explored;
            rooted = explored.rooted;
            are_nodes = value_nodes after variable id table more interfaces still of_graph root are;
          }

          wide_capture : IsWideCapture (after ++ more) interfaces matched kernel variable (id root)
              test
          wide_capture = widely (after ++ more) interfaces matched kernel accepts table variable id
              test solved_values

    -- of all variables
    module _ (batch : Graph) (sound : IsGraph graph)
        (explored : IsExplored graph kernel accepts root table) (ids : List NodeId)
        (are : AreNodesOfVariables (graph ++ batch) table root ids) where
      pub exact_captures : AreExactCaptures (graph ++ batch) matched kernel ids
      exact_captures variable one there = let found = are variable one there in
          subst (IsExactCapture (graph ++ batch) matched kernel variable) found.1
          (exact_capture batch sound explored variable found.0 found.2)

      pub wide_captures : AreWideCaptures (graph ++ batch) matched kernel ids
      wide_captures more interfaces test variable one still of_graph right there =
          let found = are variable one there in
          subst (λ node. IsWideCapture ((graph ++ batch) ++ more) interfaces matched kernel variable
          node test) found.1
          (wide_capture batch sound explored variable found.0 found.2 more interfaces test still
          of_graph right)
