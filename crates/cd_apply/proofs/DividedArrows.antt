-- Arrows that are put aside, since their arguments hold all arguments or none.
use Rattle.std.proofs.Common.{◌≡◌, ◌<◌, ◌+◌, ℕ, List, [], ◌∷◌, ◌++◌, ◌⊎◌, inl, inr, ◌↔◌}
use Rattle.std.proofs.Common.{length, take, get_or, sym, subst}
use Rattle.cd_sets.specs.declared.question.Question.{Question}
use Rattle.cd_model.specs.AllOf.{AllOf}
use Rattle.cd_model.specs.Formula.{Graph, IsIn, IsOutside}
use Rattle.cd_model.specs.Thing.{Thing, IsElement}
use Rattle.cd_model.proofs.DecidedAtNodes.{in_or_outside}
use Rattle.cd_rules.specs.Clauses.{Pair}
use Rattle.cd_rules.specs.Family.{AsksNodes}
use Rattle.cd_rules.specs.Within.{IsPairWithin}
use Rattle.cd_model.proofs.Ones.{each_of_lists}
use Rattle.cd_apply.specs.Inner.Found.{Divided, IsRightBy, IsOfNodes, IsDivided, Divides}
use Rattle.cd_apply.specs.Inner.Found.{AddsResults, AddsImage}
use Rattle.cd_apply.specs.Inner.Results.{IsInQuestion, IsInOne, IsRight, IsResult, IsResultIn}
use Rattle.cd_apply.proofs.TakenThings.{each_apart, each_taken}

module _ (graph : Graph) (arguments : Question) where
  -- what is divided says what one arrow more says
  pub divided_further : (arrows : List Pair) (i : ℕ) (arrow : Pair) → i < length arrows
      → arrow ≡ get_or arrows i arrow → (before after : Divided)
      → IsDivided graph arguments (take i arrows) before → (other : Graph) → other ≡ graph
      → Divides other arguments arrow before after
      → IsDivided graph arguments (take (i + 1) arrows) after
  divided_further arrows i arrow below is before after divided other kept there = record {
    same = λ from to element asking.
        let first = divided.same from to element asking in
        let then = divides.same from to element asking in
        let all = each_taken arrows i arrow below is (IsRight graph from to) in (
          λ each. let parts = all.0 each in then.0 (first.0 parts.0, parts.1),
          λ right. let parts = then.1 right in all.1 (first.1 parts.0, parts.1),
        );
    nodes = divides.nodes divided.nodes;
  }
    where
      divides : Divides graph arguments arrow before after
      divides = subst (λ (g : Graph). Divides g arguments arrow before after) kept there

  module _ (arrow : Pair) (before after : Divided) where
    -- the argument of the arrow holds all arguments
    pub divides_all : (within : Question)
        → ((e : Thing) → IsInQuestion graph within e
        ↔ (IsInQuestion graph before.results e × IsIn graph e arrow.1))
        → (AsksNodes (length graph) before.results → AsksNodes (length graph) within)
        → ((e : Thing) → IsElement e → IsInQuestion graph arguments e → IsOutside graph e arrow.0
        → ⊥)
        → after.results ≡ within → after.unsettled ≡ before.unsettled
        → Divides graph arguments arrow before after
    divides_all within within_is asks none results unsettled = record {
      same = λ from to is asking. (
        λ both. (
          subst (AllOf (IsRight graph from to)) (sym unsettled) both.0.0,
          subst (λ (q : Question). IsInQuestion graph q to) (sym results)
              ((within_is to).1 (both.0.1, inside from to is asking both.1)),
        ),
        λ right. let parts = (within_is to).0
            (subst (λ (q : Question). IsInQuestion graph q to) results right.1) in (
              (subst (AllOf (IsRight graph from to)) unsettled right.0, parts.0),
              inr parts.1,
            ),
      );
      nodes = λ of. (
        subst (AsksNodes (length graph)) (sym results) (asks of.0),
        subst (AllOf (IsPairWithin (length graph))) (sym unsettled) of.1,
      );
    }
      where
        inside : (from to : Thing) → IsElement from → IsInQuestion graph arguments from
            → IsRight graph from to arrow → IsIn graph to arrow.1
        inside from to is asking (inl out) = absurd (none from is asking out)
        inside from to is asking (inr result) = result

    -- it holds none
    pub divides_none : ((e : Thing) → IsElement e → IsInQuestion graph arguments e
        → IsIn graph e arrow.0 → ⊥)
        → after ≡ before → Divides graph arguments arrow before after
    divides_none none same = record {
      same = λ from to is asking. (
        λ both. subst (λ (d : Divided). IsRightBy graph d from to) (sym same) both.0,
        λ right. (
          subst (λ (d : Divided). IsRightBy graph d from to) same right,
          inl (outside from is asking (in_or_outside graph from arrow.0)),
        ),
      );
      nodes = λ of. subst (IsOfNodes graph) (sym same) of;
    }
      where
        outside : (from : Thing) → IsElement from → IsInQuestion graph arguments from
            → IsIn graph from arrow.0 ⊎ IsOutside graph from arrow.0
            → IsOutside graph from arrow.0
        outside from is asking (inl inside) = absurd (none from is asking inside)
        outside from is asking (inr out) = out

    -- it holds some of them
    pub divides_some : IsPairWithin (length graph) arrow → after.results ≡ before.results
        → after.unsettled ≡ before.unsettled ++ arrow ∷ []
        → Divides graph arguments arrow before after
    divides_some below results unsettled = record {
      same = λ from to is asking. (
        λ both. (
          subst (AllOf (IsRight graph from to)) (sym unsettled)
              (each_of_lists (IsRight graph from to) before.unsettled (arrow ∷ []) both.0.0
              (both.1, tt)),
          subst (λ (q : Question). IsInQuestion graph q to) (sym results) both.0.1,
        ),
        λ right. let parts = each_apart (IsRight graph from to) before.unsettled (arrow ∷ [])
            (subst (AllOf (IsRight graph from to)) unsettled right.0) in (
              (parts.0, subst (λ (q : Question). IsInQuestion graph q to) results right.1),
              parts.1.0,
            ),
      );
      nodes = λ of. (
        subst (AsksNodes (length graph)) (sym results) of.0,
        subst (AllOf (IsPairWithin (length graph))) (sym unsettled)
            (each_of_lists (IsPairWithin (length graph)) before.unsettled (arrow ∷ []) of.1
            (below, tt)),
      );
    }

-- the results of arguments are those by what is divided
pub adds_image : (graph : Graph) (arguments : Question) (arrows : List Pair) (divided : Divided)
    → IsDivided graph arguments arrows divided → (before after : List Question)
    → AddsResults graph arguments divided.unsettled divided.results before after
    → AddsImage graph arguments arrows before after
adds_image graph arguments arrows divided of before after adds to = (
  λ one. there ((adds to).0 one),
  λ one. (adds to).1 (back one),
)
  where
    there : IsInOne graph before to
        ⊎ IsResultIn graph arguments divided.unsettled divided.results to
        → IsInOne graph before to ⊎ IsResult graph arguments arrows to
    there (inl old) = inl old
    there (inr ((from, is, asking, right), result)) =
        inr (from, is, asking, (of.same from to is asking).1 (right, result))

    back : IsInOne graph before to ⊎ IsResult graph arguments arrows to
        → IsInOne graph before to
        ⊎ IsResultIn graph arguments divided.unsettled divided.results to
    back (inl old) = inl old
    back (inr (from, is, asking, right)) =
        let parts = (of.same from to is asking).0 right in
        inr ((from, is, asking, parts.0), parts.1)
