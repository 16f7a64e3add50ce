-- Tuples that are written are good and in the types that hold all that their rule gives.
use Rattle.std.proofs.Common.{ℕ, List, [], ◌∷◌, refl, sym, ap, subst}
use Rattle.cd_model.specs.AllOf.{AllOf}
use Rattle.cd_model.specs.Formula.{Graph}
use Rattle.cd_model.specs.Interfaces.{Interfaces}
use Rattle.cd_model.specs.Thing.{Thing, Fields, Pair, IsElement}
use Rattle.cd_meaning.specs.Sets.{◌⊆◌}
use Rattle.cd_typing.specs.Typ.{Typ, In, IsType, AreIn}
use Rattle.cd_typing.specs.Results.{tuple_after, IsTupleOf}
use Rattle.cd_safety.specs.Operands.{GoodIn, AreGoodIn, IsTupleIn}
use Rattle.cd_safety.specs.OutcomesStandIn.{AllStandIn}
use Rattle.cd_safety.specs.Sound.{IsGood}
use Rattle.cd_safety.specs.StandsIn as stand
use Rattle.cd_safety.specs.StandsIn.{StandsIn}
use Rattle.cd_safety.proofs.OperandsStandIn.{has_place, have_places, value_in}
use Rattle.cd_safety.proofs.SortsByParts.{good_by_parts}
use Rattle.cd_safety.proofs.TypesPlaced.{shared_graph}

tuples_stand : (graph : Graph) (interfaces : Interfaces) (v e : Thing) (vs es : List Thing) → StandsIn graph interfaces v e
    → AllStandIn graph interfaces vs es → StandsIn graph interfaces (tuple_after v vs) (tuple_after e es)
tuples_stand graph interfaces v e [] [] first rest = first
tuples_stand graph interfaces v e [] (d ∷ es) first rest = absurd rest
tuples_stand graph interfaces v e (w ∷ vs) [] first rest = absurd rest
tuples_stand graph interfaces v e (w ∷ vs) (d ∷ es) first rest =
    stand.pair v (tuple_after w vs) e (tuple_after d es) first (tuples_stand graph interfaces w d vs es rest.0 rest.1)

tuple_element : (types : List Typ) (e : Thing) (es : List Thing) → IsElement e → AreIn types es → IsElement (tuple_after e es)
tuple_element [] e [] is are = is
tuple_element [] e (d ∷ es) is are = absurd are
tuple_element (t ∷ types) e [] is are = absurd are
tuple_element (t ∷ types) e (d ∷ es) is are = (is, tuple_element types d es are.0 are.2)

module _ (fact : ℕ → Fields → Type 0) (interfaces : Interfaces) where
  tuple_good : (types : List Typ) (v : Thing) (vs : List Thing) → IsGood fact interfaces v → AreGoodIn fact interfaces types vs
      → IsGood fact interfaces (tuple_after v vs)
  tuple_good [] v [] good are = good
  tuple_good [] v (w ∷ vs) good are = absurd are
  tuple_good (t ∷ types) v [] good are = absurd are
  tuple_good (t ∷ types) v (w ∷ vs) good are =
      ((good_by_parts fact interfaces).pair v (tuple_after w vs)).1 (good, tuple_good types w vs are.0.0 are.1)

  -- the last part, and one more before a tuple
  pub tuple_of_one : (t : Typ) (v : Thing) → GoodIn fact interfaces t v → IsTupleIn fact interfaces (t ∷ []) v
  tuple_of_one t v good = (v, [], (good, tt), refl)

  pub tuple_of_more : (t : Typ) (types : List Typ) (v w : Thing) → GoodIn fact interfaces t v → IsTupleIn fact interfaces types w
      → IsTupleIn fact interfaces (t ∷ types) (Pair v w)
  tuple_of_more t types v w good rest = (v, rest.0 ∷ rest.1, (good, rest.2), ap (Pair v) rest.3)

  pub tuple_in : (types : List Typ) (t : Typ) → AllOf IsType types → IsType t → IsTupleOf types ⊆ In t
      → (v : Thing) → IsTupleIn fact interfaces types v → GoodIn fact interfaces t v
  tuple_in [] t types_are t_is within v is = absurd is.2
  tuple_in (s ∷ types) t types_are t_is within v is =
      let all = shared_graph (t ∷ s ∷ types) (t_is, types_are) in
      let first = has_place fact interfaces all.graph all.more all.begins all.sound s all.nodes.1.0 is.0 is.2.0 in
      let rest = have_places fact interfaces all.graph all.more all.begins all.sound types all.nodes.1.1 is.1 is.2.1 in
      subst (GoodIn fact interfaces t) (sym is.3) (
        tuple_good types is.0 is.1 is.2.0.0 is.2.1,
        value_in fact interfaces all.graph t all.nodes.0 (tuple_after is.0 is.1) (tuple_after first.e rest.es)
            (tuples_stand all.graph interfaces is.0 first.e is.1 rest.es first.stands rest.stand)
            (within (tuple_after first.e rest.es) (tuple_element types first.e rest.es first.is_element rest.inside)
            (first.e, rest.es, (first.is_element, first.inside, rest.inside), refl)),
      )
