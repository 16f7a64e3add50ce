-- A clause has a function exactly when each refused arrow can be refused.
use Rattle.std.proofs.Common.{Bool, true, false, List, [], ◌∷◌, inl, inr, refl, sym, ap}
use Rattle.std.proofs.Common.{◌↔◌}
use Rattle.std.proofs.lemmas.Bool.{true≢false}
use Rattle.cd_model.specs.AllOf.{AllOf}
use Rattle.cd_model.specs.Formula.{Graph}
use Rattle.cd_model.specs.Kinds.{Kind, AFunction, kind_of}
use Rattle.cd_model.specs.Membership.{mapping, reader}
use Rattle.cd_model.specs.Thing.{Thing, Function, Closure, Pairs, NoPair, Maps, Fails, IsElement}
use Rattle.cd_model.specs.Thing.{ArePairs}
use Rattle.cd_rules.specs.Clauses.{Pair, Arrows, IsInClause}
use Rattle.cd_rules.proofs.ArrowsForward.{IsInArrow}
use Rattle.cd_rules.proofs.MembersOfArrows.{IsInArrows, none_in_arrows, with_maps, with_fails}
use Rattle.cd_model.proofs.Ones.{each_weaker}
use Rattle.cd_apply.specs.Inner.Results.{IsBeyond, IsRight, CanRefuse}
use Rattle.cd_apply.specs.Inner.FunctionClauses.{FunctionClause, HasFunction}

abbrev pub is_function : Kind → Bool
is_function AFunction = true
is_function _ = false

module _ (graph : Graph) where
  -- a member of a clause of functions is a function
  module _ (clause : FunctionClause) where
    abbrev pub IsOf : Pairs → Type 0
    IsOf pairs = IsInArrows graph clause.wanted clause.refused pairs

    function_in : (is : Thing) → IsElement is
        → IsInClause (kind_of is) (reader graph is) (Arrows clause.wanted clause.refused)
        → (pairs : Pairs) × IsOf pairs
    function_in (Function pairs) sound within = (pairs, (sound, within.1, within.2))
    function_in (Closure function environment) sound within = absurd sound
    function_in _ sound within = absurd (true≢false (sym (ap is_function within.0)))

    pub function_of : HasFunction graph clause → (pairs : Pairs) × IsOf pairs
    function_of has = function_in has.0 has.1 has.2

    pub has_function : (pairs : Pairs) → IsOf pairs → HasFunction graph clause
    has_function pairs is = (Function pairs, is.0, (refl, is.1, is.2))

  module _ (wanted : List Pair) where
    -- a function with a pair, or a failure, for each refused arrow
    made : (refused : List Pair) → AllOf (CanRefuse graph wanted) refused
        → (pairs : Pairs) × IsInArrows graph wanted refused pairs
    made [] each = (NoPair, (tt, none_in_arrows graph wanted, tt))
    made (one ∷ refused) each = more each.0 (made refused each.1)
      where
        more : CanRefuse graph wanted one → (pairs : Pairs) × IsInArrows graph wanted refused pairs
            → (pairs : Pairs) × IsInArrows graph wanted (one ∷ refused) pairs
        more (inl (from, from_is, inside, beyond)) rest = (
          Fails from rest.0,
          with_fails graph wanted refused one rest.0 rest.1 from from_is inside beyond,
        )
        more (inr (to, to_is, out, (from, from_is, asking, right))) rest = (
          Maps from to rest.0,
          with_maps graph wanted refused one rest.0 rest.1 from to from_is to_is asking.0.0 out
              right,
        )

    -- a function of the wanted arrows that is outside one more
    refuses : (one : Pair) (pairs : Pairs) → ArePairs pairs
        → AllOf (IsInArrow (mapping graph pairs)) wanted → mapping graph pairs one.0 one.1 false
        → CanRefuse graph wanted one
    refuses one NoPair are each out = absurd (true≢false (sym out))
    refuses one (Maps from to rest) are each (inl (inside, out)) = inr (
      to,
      are.1,
      out,
      (
        from,
        are.0,
        ((inside, tt), tt),
        each_weaker (IsInArrow (mapping graph (Maps from to rest))) (IsRight graph from to)
            (λ arrow is. is.0) wanted each,
      ),
    )
    refuses one (Maps from to rest) are each (inr later) = refuses one rest are.2
        (each_weaker (IsInArrow (mapping graph (Maps from to rest)))
        (IsInArrow (mapping graph rest)) (λ arrow is. is.1) wanted each) later
    refuses one (Fails from rest) are each (inl inside) = inl (
      from,
      are.0,
      inside,
      each_weaker (IsInArrow (mapping graph (Fails from rest))) (IsBeyond graph from)
          (λ arrow is. is.0) wanted each,
    )
    refuses one (Fails from rest) are each (inr later) = refuses one rest are.1
        (each_weaker (IsInArrow (mapping graph (Fails from rest))) (IsInArrow (mapping graph rest))
        (λ arrow is. is.1) wanted each) later

  pub has_function_exactly : (clause : FunctionClause)
      → HasFunction graph clause ↔ AllOf (CanRefuse graph clause.wanted) clause.refused
  has_function_exactly clause = (
    λ has. let function = function_of clause has in
        each_weaker (λ one. mapping graph function.0 one.0 one.1 false)
        (CanRefuse graph clause.wanted)
        (λ one out. refuses clause.wanted one function.0 function.1.0 function.1.1 out)
        clause.refused function.1.2,
    λ each. let function = made clause.wanted clause.refused each in
        has_function clause function.0 function.1,
  )
