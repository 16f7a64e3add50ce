-- What is so of the elements of a table stays so in a longer one.
use Rattle.std.proofs.Common.{◌≡◌, List, [], ◌∷◌, ◌++◌, Option, Some, None, refl, sym, ap, subst, ◌∙◌, arith, length-append}
use Rattle.std.proofs.lemmas.List.{get_or_append_left}
use Rattle.cd_sets.specs.declared.question.Question.{Question}
use Rattle.cd_model.specs.AllOf.{AllOf}
use Rattle.cd_model.specs.Formula.{Graph}
use Rattle.cd_model.specs.Membership.{answers}
use Rattle.cd_model.specs.Thing.{Thing, Atom, Function}
use Rattle.cd_elements.specs.declared.shape.ElementId.{ElementId}
use Rattle.cd_elements.specs.Table.{Names, IsResult, element_at, result_at, pairs_of}
use Rattle.cd_facts.specs.Facts.{Fact, IsRight, AreRight}
use Rattle.cd_model.proofs.Ones.{each_weaker}
use Rattle.cd_verdicts.specs.declared.verdict.Verdict.{Verdict}
use Rattle.cd_verdicts.specs.declared.verdict.Verdict.TheVariants.{Empty, Inhabited}
use Rattle.cd_empty.specs.Inner.Fit.{IsPairNamed}
use Rattle.cd_empty.specs.Kept.{IsNamed}
use Rattle.cd_verdicts.specs.Witnesses.{witnesses_in}

module _ (table more : List Thing) where
  pub named_longer : (id : ElementId) → Names table id → Names (table ++ more) id
  named_longer id named = omega (arith, length-append table more)

  pub element_longer : (id : ElementId) → Names table id → element_at (table ++ more) id ≡ element_at table id
  element_longer id named = get_or_append_left table more (Atom []) id.0 named

  pub result_longer : (id : Option ElementId) → IsResult table id → IsResult (table ++ more) id
  result_longer None is = tt
  result_longer (Some id) named = named_longer id named

  pub result_same : (id : Option ElementId) → IsResult table id → result_at (table ++ more) id ≡ result_at table id
  result_same None is = refl
  result_same (Some id) named = ap Some (element_longer id named)

  -- the pairs of a function
  pair_longer : (pair : ElementId × Option ElementId) → IsPairNamed table pair → IsPairNamed (table ++ more) pair
  pair_longer pair named = (named_longer pair.0 named.0, result_longer pair.1 named.1)

  pub pairs_longer : (pairs : List (ElementId × Option ElementId)) → AllOf (IsPairNamed table) pairs
      → AllOf (IsPairNamed (table ++ more)) pairs
  pairs_longer = each_weaker (IsPairNamed table) (IsPairNamed (table ++ more)) pair_longer

  pub pairs_same : (pairs : List (ElementId × Option ElementId)) → AllOf (IsPairNamed table) pairs
      → pairs_of (table ++ more) pairs ≡ pairs_of table pairs
  pairs_same [] named = refl
  pairs_same (pair ∷ pairs) named =
      cc (element_longer pair.0 named.0.0, result_same pair.1 named.0.1, pairs_same pairs named.1)

  -- verdicts
  verdict_longer : (verdict : Verdict) → IsNamed table verdict → IsNamed (table ++ more) verdict
  verdict_longer Empty named = tt
  verdict_longer (Inhabited id) named = named_longer id named

  pub verdicts_longer : (kept : List (Question × Verdict)) → AllOf (λ one. IsNamed table one.1) kept
      → AllOf (λ one. IsNamed (table ++ more) one.1) kept
  verdicts_longer = each_weaker (λ one. IsNamed table one.1) (λ one. IsNamed (table ++ more) one.1)
      (λ one named. verdict_longer one.1 named)

  pub witnesses_same : (kept : List (Question × Verdict)) → AllOf (λ one. IsNamed table one.1) kept
      → witnesses_in (table ++ more) kept ≡ witnesses_in table kept
  witnesses_same [] named = refl
  witnesses_same ((question, Empty) ∷ kept) named = witnesses_same kept named.1
  witnesses_same ((question, Inhabited id) ∷ kept) named =
      cc (element_longer id named.0, witnesses_same kept named.1)

  -- facts
  fact_longer : (graph : Graph) (fact : Fact) → IsRight graph table fact → IsRight graph (table ++ more) fact
  fact_longer graph fact right = (
    (named_longer fact.0.id right.0.0, right.0.1),
    subst (λ (is : Thing). answers graph is fact.0.node fact.1) (sym (element_longer fact.0.id right.0.0)) right.1,
  )

  pub facts_longer : (graph : Graph) (facts : List Fact) → AreRight graph table facts → AreRight graph (table ++ more) facts
  facts_longer graph = each_weaker (IsRight graph table) (IsRight graph (table ++ more)) (fact_longer graph)

-- a function that is added is of the same pairs in the table with it
pub function_added : (old table : List Thing) → (more : List Thing) × (table ≡ old ++ more)
    → (pairs : List (ElementId × Option ElementId)) → AllOf (IsPairNamed old) pairs → (e : Thing)
    → e ≡ Function (pairs_of old pairs) → e ≡ Function (pairs_of table pairs)
function_added old table grows pairs named e is = is ∙ ap Function (sym (pairs_same old grows.0 pairs named))
    ∙ ap (λ (table : List Thing). Function (pairs_of table pairs)) (sym grows.1)
