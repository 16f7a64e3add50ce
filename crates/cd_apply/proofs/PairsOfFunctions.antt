-- The pairs of a function, and the arrows that the function is in.
use Rattle.std.proofs.Common.{List, inl, inr, subst}
use Rattle.cd_model.specs.AllOf.{AllOf}
use Rattle.cd_model.specs.Formula.{Graph}
use Rattle.cd_model.specs.Membership.{mapping}
use Rattle.cd_model.specs.Thing.{Thing, Pairs, NoPair, Maps, Fails, IsElement, ArePairs}
use Rattle.cd_rules.specs.Clauses.{Pair}
use Rattle.cd_rules.proofs.ArrowsForward.{IsInArrow}
use Rattle.cd_rules.proofs.MembersOfArrows.{IsInArrows, IsOutsideArrow}
use Rattle.cd_model.proofs.Ones.{each_weaker}
use Rattle.cd_rules.proofs.PairsBack.{both_of_each}
use Rattle.cd_meaning.specs.Functions.{HasPair, FailsAt}
use Rattle.cd_apply.specs.Inner.Results.{IsBeyond, IsRight}

-- the arguments and the results of a function that is an element are elements
pub pair_elements : (pairs : Pairs) (from to : Thing) → ArePairs pairs → HasPair pairs from to
    → IsElement from × IsElement to
pair_elements NoPair from to are none = elim none [ ]
pair_elements (Maps one other rest) from to are (inl same) =
    (subst IsElement same.0 are.0, subst IsElement same.1 are.1)
pair_elements (Maps one other rest) from to are (inr later) = pair_elements rest from to are.2 later
pair_elements (Fails one rest) from to are later = pair_elements rest from to are.1 later

pub failing_element : (pairs : Pairs) (from : Thing) → ArePairs pairs → FailsAt pairs from
    → IsElement from
failing_element NoPair from are none = elim none [ ]
failing_element (Maps one other rest) from are later = failing_element rest from are.2 later
failing_element (Fails one rest) from are (inl same) = subst IsElement same are.0
failing_element (Fails one rest) from are (inr later) = failing_element rest from are.1 later

module _ (graph : Graph) where
  -- the pairs of a function in an arrow are right for it
  pub pair_is_right : (pairs : Pairs) (from to : Thing) (arrow : Pair) → HasPair pairs from to
      → IsInArrow (mapping graph pairs) arrow → IsRight graph from to arrow
  pair_is_right NoPair from to arrow none maps = elim none [ ]
  pair_is_right (Maps one other rest) from to arrow (inl same) maps =
      subst (λ (is : Thing). IsRight graph is to arrow) same.0
      (subst (λ (is : Thing). IsRight graph one is arrow) same.1 maps.0)
  pair_is_right (Maps one other rest) from to arrow (inr later) maps =
      pair_is_right rest from to arrow later maps.1
  pair_is_right (Fails one rest) from to arrow later maps =
      pair_is_right rest from to arrow later maps.1

  -- and it fails outside the argument of the arrow
  pub fails_beyond : (pairs : Pairs) (from : Thing) (arrow : Pair) → FailsAt pairs from
      → IsInArrow (mapping graph pairs) arrow → IsBeyond graph from arrow
  fails_beyond NoPair from arrow none maps = elim none [ ]
  fails_beyond (Maps one other rest) from arrow later maps =
      fails_beyond rest from arrow later maps.1
  fails_beyond (Fails one rest) from arrow (inl same) maps =
      subst (λ (is : Thing). IsBeyond graph is arrow) same maps.0
  fails_beyond (Fails one rest) from arrow (inr later) maps =
      fails_beyond rest from arrow later maps.1

  -- a function of some arrows takes any pair more that is right for the wanted ones
  pub with_pair : (wanted refused : List Pair) (pairs : Pairs)
      → IsInArrows graph wanted refused pairs → (from to : Thing) → IsElement from → IsElement to
      → AllOf (IsRight graph from to) wanted → IsInArrows graph wanted refused (Maps from to pairs)
  with_pair wanted refused pairs is from to from_is to_is right = (
    (from_is, to_is, is.0),
    both_of_each (IsRight graph from to) (IsInArrow (mapping graph pairs)) wanted right is.1,
    each_weaker (IsOutsideArrow graph pairs) (IsOutsideArrow graph (Maps from to pairs))
        (λ arrow out. inr out) refused is.2,
  )

  -- and any failure outside their arguments
  pub with_failure : (wanted refused : List Pair) (pairs : Pairs)
      → IsInArrows graph wanted refused pairs → (from : Thing) → IsElement from
      → AllOf (IsBeyond graph from) wanted → IsInArrows graph wanted refused (Fails from pairs)
  with_failure wanted refused pairs is from from_is beyond = (
    (from_is, is.0),
    both_of_each (IsBeyond graph from) (IsInArrow (mapping graph pairs)) wanted beyond is.1,
    each_weaker (IsOutsideArrow graph pairs) (IsOutsideArrow graph (Fails from pairs))
        (λ arrow out. inr out) refused is.2,
  )
