-- Sequences all items of which are in one type: what `map` and `transform` go through, and what they make.
use Rattle.std.proofs.Common.{◌≡◌, ◌++◌, ℕ, List, [], ◌∷◌, refl, sym, subst}
use Rattle.cd_sets.specs.declared.node_id.NodeId.{NodeId}
use Rattle.cd_model.specs.AllOf.{AllOf}
use Rattle.cd_model.specs.BuiltIns.{built_ins}
use Rattle.cd_model.specs.Formula.{Graph, IsGraph}
use Rattle.cd_model.specs.Interfaces.{Interfaces}
use Rattle.cd_model.specs.Thing.{Thing, Fields, IsElement, AreFields}
use Rattle.cd_matching.specs.Sequences.{nil, sequence_of}
use Rattle.cd_model.proofs.Ones.{each_weaker}
use Rattle.cd_meaning.specs.Sets.{◌⊆◌}
use Rattle.cd_meaning.specs.Sequences.{IsListOf}
use Rattle.cd_typing.specs.Typ.{Typ, In, IsType}
use Rattle.cd_evaluation.specs.Lists.{listed}
use Rattle.cd_evaluation.specs.Evaluation.{mapped, joined}
use Rattle.cd_safety.specs.HoldsAs.{HoldsAs}
use Rattle.cd_safety.specs.Operands.{GoodIn}
use Rattle.cd_safety.specs.OutcomesStandIn.{AllStandIn}
use Rattle.cd_safety.specs.Sound.{IsGood, AreGood, IsFine}
use Rattle.cd_safety.specs.ValueIn.{ValueIn}
use Rattle.cd_safety.proofs.ItemsOfSequences.{all_items_in}
use Rattle.cd_safety.proofs.OperandsStandIn.{has_place, value_in}
use Rattle.cd_safety.proofs.SequencesGiven.{sequence_listed}
use Rattle.cd_safety.proofs.SequencesGood.{sequence_good, items_good}
use Rattle.cd_safety.proofs.SequencesSafe.{items_here}
use Rattle.cd_safety.proofs.SequencesStandIn.{sequences_stand}
use Rattle.cd_safety.proofs.SortsByParts.{elements_by_parts, good_by_parts}
use Rattle.cd_safety.proofs.TypesPlaced.{shared_graph}

module _ (fact : ℕ → Fields → Type 0) (interfaces : Interfaces) where
  values_in : (graph : Graph) (item : Typ) → (id : NodeId) × HoldsAs graph id item → (vs es : List Thing)
      → AllOf (IsGood fact interfaces) vs → AllStandIn graph interfaces vs es → AllOf (In item) es → AllOf (GoodIn fact interfaces item) vs
  values_in graph item node [] es goods stand inside = tt
  values_in graph item node (v ∷ vs) [] goods stand inside = absurd stand
  values_in graph item node (v ∷ vs) (e ∷ es) goods stand inside = (
    (goods.0, value_in fact interfaces graph item node v e stand.0 inside.0),
    values_in graph item node vs es goods.1 stand.1 inside.1,
  )

  -- an operand whose elements are sequences of elements of a type has items, each of them in the type
  pub list_in : (s item : Typ) → IsType s → IsType item → In s ⊆ IsListOf (In item) → (v : Thing) → GoodIn fact interfaces s v
      → IsListOf (GoodIn fact interfaces item) v
  list_in s item s_is item_is within v good =
      let all = shared_graph (s ∷ item ∷ []) (s_is, (item_is, tt)) in
      let e = has_place fact interfaces all.graph all.more all.begins all.sound s all.nodes.0 v good in
      let found = within e.e e.is_element e.inside in
      let own = items_here all.graph interfaces v e.e found.0 e.stands found.1 in
      let goods = items_good (IsGood fact interfaces) (AreGood fact interfaces) (good_by_parts fact interfaces) v own.vs own.are good.0 in
      (own.vs, own.are, values_in all.graph item all.nodes.1.0 own.vs found.0 goods own.stand found.2)

  record ItemsPlaced (graph : Graph) (item : Typ) (vs : List Thing) : Type 0 where
    es : List Thing
    elements : AllOf IsElement es
    stand : AllStandIn graph interfaces vs es
    inside : AllOf (In item) es

  items_placed : (graph more : Graph) → graph ≡ built_ins ++ more → IsGraph graph → (item : Typ)
      → (id : NodeId) × HoldsAs graph id item → (vs : List Thing) → AllOf (GoodIn fact interfaces item) vs → ItemsPlaced graph item vs
  items_placed graph more begins sound item node [] are = record { es = []; elements = tt; stand = tt; inside = tt }
  items_placed graph more begins sound item node (v ∷ vs) are =
      let first = has_place fact interfaces graph more begins sound item node v are.0 in
      let rest = items_placed graph more begins sound item node vs are.1 in
      record {
        es = first.e ∷ rest.es;
        elements = (first.is_element, rest.elements);
        stand = (first.stands, rest.stand);
        inside = (first.inside, rest.inside);
      }

  module _ (item t : Typ) (item_is : IsType item) (t_is : IsType t) (within : IsListOf (In item) ⊆ In t) where
    -- the sequence of the results of `map`
    pub mapped_fine : (vs : List Thing) → AllOf (GoodIn fact interfaces item) vs → IsFine fact interfaces (ValueIn interfaces t) (mapped vs)
    mapped_fine vs are =
        let all = shared_graph (t ∷ item ∷ []) (t_is, (item_is, tt)) in
        let places = items_placed all.graph all.more all.begins all.sound item all.nodes.1.0 vs are in (
          sequence_good (IsGood fact interfaces) (AreGood fact interfaces) (good_by_parts fact interfaces) vs
              (each_weaker (GoodIn fact interfaces item) (IsGood fact interfaces) (λ v is. is.0) vs are),
          value_in fact interfaces all.graph t all.nodes.0 (sequence_of vs) (sequence_of places.es)
              (sequences_stand all.graph interfaces vs places.es places.stand)
              (within (sequence_of places.es) (sequence_good IsElement AreFields elements_by_parts places.es places.elements)
              (sequence_listed (In item) places.es places.inside)),
        )

    -- the sequence of all items of the results of `transform`
    pub joined_fine : (vs : List Thing) → AllOf (IsListOf (GoodIn fact interfaces item)) vs
        → IsFine fact interfaces (ValueIn interfaces t) (joined vs)
    joined_fine vs are =
        let made = all_items_in (GoodIn fact interfaces item) vs are in
        subst (λ found. IsFine fact interfaces (ValueIn interfaces t) (listed found)) (sym made.1) (mapped_fine made.0 made.2)

  -- what an item without a branch gives in `transform`
  pub nil_listed : (item : Typ) → IsListOf (GoodIn fact interfaces item) nil
  nil_listed item = ([], refl, tt)
