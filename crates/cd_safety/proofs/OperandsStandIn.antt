-- Elements in the place of operands, in a graph with nodes for all types at hand; and from what is given for these elements, what the
-- outcome for the values is.
use Rattle.std.proofs.Common.{◌≡◌, ◌++◌, ℕ, true, List, [], ◌∷◌, refl, lit<}
use Rattle.cd_sets.specs.declared.node_id.NodeId.{NodeId}
use Rattle.cd_model.specs.BuiltIns.{built_ins}
use Rattle.cd_model.specs.Formula.{Graph, IsGraph}
use Rattle.cd_model.specs.Interfaces.{Interfaces}
use Rattle.cd_model.specs.Thing.{Thing, Fields, IsElement}
use Rattle.cd_model.proofs.SoundBuiltIns.{built_ins_are_sound}
use Rattle.cd_typing.specs.Typ.{Typ, In, IsType, AreIn}
use Rattle.cd_evaluation.specs.Runs.{Outcome, Done, Raised, Overflow, Spent, Stuck}
use Rattle.cd_safety.specs.ByParts.{OutcomeOf}
use Rattle.cd_safety.specs.Gives.{Gives}
use Rattle.cd_safety.specs.HoldsAs.{HoldsAs}
use Rattle.cd_safety.specs.Operands.{GoodIn, AreGoodIn}
use Rattle.cd_safety.specs.OutcomesStandIn.{AllStandIn, OutcomeStandsIn}
use Rattle.cd_safety.specs.SharedGraph.{HaveNodes}
use Rattle.cd_safety.specs.Sound.{data_type, IsGood, IsFine}
use Rattle.cd_safety.specs.StandsIn.{StandsIn}
use Rattle.cd_safety.specs.ValueIn.{ValueIn}
use Rattle.cd_safety.proofs.StandInsAgree.{agree}
use Rattle.cd_safety.proofs.StandIns.{stand_in}
use Rattle.cd_safety.proofs.TypesPlaced.{shared_graph}
use Rattle.cd_safety.proofs.ValuesWithin.{agrees_at}

pub data_is_type : IsType data_type
data_is_type = record { more = []; begins = refl; sound = built_ins_are_sound; is_node = lit< tt }

module _ (fact : ℕ → Fields → Type 0) (interfaces : Interfaces) where
  -- what stands in for a value in a type is in it, and the other way about
  pub record HasPlace (graph : Graph) (t : Typ) (v : Thing) : Type 0 where
    pub e : Thing
    pub is_element : IsElement e
    pub stands : StandsIn graph interfaces v e
    pub inside : In t e

  pub record HavePlaces (graph : Graph) (types : List Typ) (vs : List Thing) : Type 0 where
    pub es : List Thing
    pub stand : AllStandIn graph interfaces vs es
    pub inside : AreIn types es

  module _ (graph more : Graph) (begins : graph ≡ built_ins ++ more) (sound : IsGraph graph) where
    pub has_place : (t : Typ) → (id : NodeId) × HoldsAs graph id t → (v : Thing) → GoodIn fact interfaces t v → HasPlace graph t v
    has_place t node v good =
        let found = stand_in graph more begins sound interfaces v good.0.typed.is_value good.0.typed.have_arrows in
        record {
          e = found.e;
          is_element = found.is_element;
          stands = found.stands;
          inside = (agrees_at graph interfaces v found.e (agree graph interfaces v found.e found.stands) node.0 t node.1 true).0 good.1;
        }

    pub have_places : (types : List Typ) → HaveNodes graph types → (vs : List Thing) → AreGoodIn fact interfaces types vs
        → HavePlaces graph types vs
    have_places [] nodes [] are = record { es = []; stand = tt; inside = tt }
    have_places [] nodes (v ∷ vs) are = absurd are
    have_places (t ∷ types) nodes [] are = absurd are
    have_places (t ∷ types) nodes (v ∷ vs) are =
        let first = has_place t nodes.0 v are.0 in
        let rest = have_places types nodes.1 vs are.1 in
        record {
          es = first.e ∷ rest.es;
          stand = (first.stands, rest.stand);
          inside = (first.is_element, first.inside, rest.inside);
        }

  module _ (graph : Graph) where
    pub value_in : (t : Typ) → (id : NodeId) × HoldsAs graph id t → (v e : Thing) → StandsIn graph interfaces v e → In t e
        → ValueIn interfaces t v
    value_in t node v e stands inside = (agrees_at graph interfaces v e (agree graph interfaces v e stands) node.0 t node.1 true).1 inside

    pub outcome_fine : (t : Typ) → (id : NodeId) × HoldsAs graph id t → (id : NodeId) × HoldsAs graph id data_type
        → (of_values of_elements : Outcome) → OutcomeStandsIn graph interfaces of_values of_elements → Gives (In t) of_elements
        → OutcomeOf (IsGood fact interfaces) of_values → IsFine fact interfaces (ValueIn interfaces t) of_values
    outcome_fine t node data_node (Done v) (Done e) stands gives good = (good, value_in t node v e stands gives)
    outcome_fine t node data_node (Raised v) (Raised e) stands gives good = (good, value_in data_type data_node v e stands gives)
    outcome_fine t node data_node Overflow Overflow stands gives good = tt
    outcome_fine t node data_node Spent Spent stands gives good = tt
    outcome_fine t node data_node Stuck Stuck stands gives good = absurd gives
    outcome_fine t node data_node _ _ stands gives good = absurd stands

  -- what is done with operands alike, of values and of elements, and gives elements of a type, ends well
  pub one_fine : (s t : Typ) → IsType s → IsType t → (run : Thing → Outcome)
      → ((graph : Graph) (v e : Thing) → StandsIn graph interfaces v e → OutcomeStandsIn graph interfaces (run v) (run e))
      → ((e : Thing) → IsElement e → In s e → Gives (In t) (run e))
      → (v : Thing) → GoodIn fact interfaces s v → OutcomeOf (IsGood fact interfaces) (run v)
      → IsFine fact interfaces (ValueIn interfaces t) (run v)
  one_fine s t s_is t_is run stands gives v v_good good =
      let all = shared_graph (data_type ∷ t ∷ s ∷ []) (data_is_type, (t_is, (s_is, tt))) in
      let e = has_place all.graph all.more all.begins all.sound s all.nodes.1.1.0 v v_good in
      outcome_fine all.graph t all.nodes.1.0 all.nodes.0 (run v) (run e.e) (stands all.graph v e.e e.stands)
      (gives e.e e.is_element e.inside) good

  pub two_fine : (r s t : Typ) → IsType r → IsType s → IsType t → (run : (first second : Thing) → Outcome)
      → ((graph : Graph) (v w d e : Thing) → StandsIn graph interfaces v d → StandsIn graph interfaces w e
      → OutcomeStandsIn graph interfaces (run v w) (run d e))
      → ((d e : Thing) → IsElement d → IsElement e → In r d → In s e → Gives (In t) (run d e))
      → (v w : Thing) → GoodIn fact interfaces r v → GoodIn fact interfaces s w → OutcomeOf (IsGood fact interfaces) (run v w)
      → IsFine fact interfaces (ValueIn interfaces t) (run v w)
  two_fine r s t r_is s_is t_is run stands gives v w v_good w_good good =
      let all = shared_graph (data_type ∷ t ∷ r ∷ s ∷ []) (data_is_type, (t_is, (r_is, (s_is, tt)))) in
      let d = has_place all.graph all.more all.begins all.sound r all.nodes.1.1.0 v v_good in
      let e = has_place all.graph all.more all.begins all.sound s all.nodes.1.1.1.0 w w_good in
      outcome_fine all.graph t all.nodes.1.0 all.nodes.0 (run v w) (run d.e e.e) (stands all.graph v w d.e e.e d.stands e.stands)
      (gives d.e e.e d.is_element e.is_element d.inside e.inside) good
