-- What is in one of some questions, where those within others go.
use Rattle.std.proofs.Common.{◌≡◌, ◌⊎◌, ◌<◌, ◌+◌, ◌++◌, ◌≤◌, ℕ, true, false, List, [], ◌∷◌, inl, inr}
use Rattle.std.proofs.Common.{length, take, get_or, sym, ap, subst, ◌∙◌, arith, zero, suc}
use Rattle.std.proofs.lemmas.List.{take_more, take_all}
use Rattle.cd_sets.specs.declared.node_id.NodeId.{NodeId}
use Rattle.cd_sets.specs.declared.question.Question.{Question}
use Rattle.cd_model.specs.AllOf.{AllOf}
use Rattle.cd_model.specs.BuiltIns.{built_ins}
use Rattle.cd_model.specs.Formula.{Graph, asked, in_node}
use Rattle.cd_model.specs.Thing.{Thing, IsElement}
use Rattle.cd_model.proofs.BothWays.{through}
use Rattle.cd_model.proofs.Ones.{one_on_left, one_on_right, one_on_a_side}
use Rattle.cd_rules.specs.Family.{AsksNodes}
use Rattle.cd_verdicts.specs.Verdicts.{HasNoElement, IsExact}
use Rattle.cd_verdicts.specs.declared.verdict.Verdict.{Verdict}
use Rattle.cd_verdicts.specs.declared.verdict.Verdict.TheVariants.{Empty}
use Rattle.cd_products.specs.QuestionBoxes.{without_node}
use Rattle.cd_products.proofs.Decided.{elements_decided}
use Rattle.cd_products.proofs.OneMore.{each_with}
use Rattle.cd_builders.specs.Inner.Alone.{AsksAlone}
use Rattle.cd_builders.specs.Inner.Outermost.{AskSame, IsKept, IsWithin, IsWithinNode, IsWithinOne}
use Rattle.cd_builders.specs.Unions.{IsInOne}
use Rattle.cd_builders.proofs.AloneNodes.{alone_same}

pub without_asks : (count : ℕ) (id : NodeId) (question : Question) → id.0 < count
    → AsksNodes count question → AsksNodes count (without_node id question)
without_asks count id question below asks =
    (asks.0, each_with (λ one. one.0 < count) id question.neg below asks.1)

module _ (graph : Graph) where
  -- what a question asks is in a node, where nothing of it is outside
  none_without : (question : Question) (id : NodeId)
      → HasNoElement graph (without_node id question) → IsWithinNode graph question id
  none_without question id none e element inside =
      elim (elements_decided graph e id element) [
        | inl there ↦ there
        | inr outside ↦ absurd (none e element (
          inside.0,
          each_with (λ one. in_node graph e one false) id question.neg outside inside.1,
        ))
      ]

  pub by_verdict : (question : Question) (id : NodeId) (table : List Thing) (asked : Question)
      → asked ≡ without_node id question → (verdict : Verdict)
      → IsExact graph table asked verdict → verdict ≡ Empty → IsWithinNode graph question id
  by_verdict question id table asked same verdict exact is = none_without question id
      (subst (λ (v : Verdict). IsExact graph table (without_node id question) v) is
      (subst (λ (q : Question). IsExact graph table q verdict) same exact)).0

  pub within_alone : (more : Graph) → graph ≡ built_ins ++ more → (question other : Question)
      (id : NodeId) → AsksAlone other id → IsWithinNode graph question id
      → IsWithin graph question other
  within_alone more begins question other id alone within e element inside =
      (alone_same graph more begins other id alone e).1 (within e element inside)

  -- a question within another one is within all of them
  pub within_one : (question other : Question) (others : List Question) (i : ℕ)
      → i < length others → other ≡ get_or others i other → IsWithin graph question other
      → IsWithinOne graph question others
  within_one question other others i below is within e element inside =
      one_at others i below is (within e element inside)
    where
      one_at : (all : List Question) (i : ℕ) → i < length all → other ≡ get_or all i other
          → asked (in_node graph e) other true → IsInOne graph all e
      one_at [] i below is has = absurd (omega (arith, below))
      one_at (one ∷ all) zero below is has =
          inl (subst (λ (q : Question). asked (in_node graph e) q true) is has)
      one_at (one ∷ all) (suc i) below is has =
          inr (one_at all i (omega (arith, below)) is has)

  -- one question that goes, and one that stays
  pub is_left_out : (question : Question) (old : List Question)
      → AllOf (AsksNodes (length graph)) old → IsWithinOne graph question old
      → IsKept graph question old old
  is_left_out question old asks within = record {
    exact = λ e element. (
      λ one. inl one,
      λ side. elim side [
        | inl one ↦ one
        | inr inside ↦ within e element inside
      ],
    );
    asks = asks;
  }

  pub is_put_first : (question : Question) (old new : List Question)
      → AllOf (AsksNodes (length graph)) old → AsksNodes (length graph) question
      → new ≡ question ∷ old → IsKept graph question old new
  is_put_first question old new asks one same =
      subst (IsKept graph question old) (sym same) (record {
        exact = λ e element. (
          λ some. elim some [ inl inside ↦ inr inside | inr later ↦ inl later ],
          λ side. elim side [ inl later ↦ inr later | inr inside ↦ inl inside ],
        );
        asks = (one, asks);
      })

  -- of the first questions, and of one more
  pub one_more_same : (questions : List Question) (i : ℕ) (question : Question)
      → i < length questions → question ≡ get_or questions i question → (old new : List Question)
      → AskSame graph (take i questions) old → IsKept graph question old new
      → AskSame graph (take (i + 1) questions) new
  one_more_same questions i question below is old new same kept =
      subst (λ (all : List Question). AskSame graph all new)
      (sym (take_more questions i question below
      ∙ ap (λ (one : Question). take i questions ++ one ∷ []) (sym is))) (record {
        exact = λ e element. (
          λ some. (kept.exact e element).1
              (first_or_last e element (one_on_a_side (λ q. asked (in_node graph e) q true)
              (take i questions) (question ∷ []) some)),
          λ one. back e element ((kept.exact e element).0 one),
        );
        asks = kept.asks;
      })
    where
      first_or_last : (e : Thing) → IsElement e
          → (IsInOne graph (take i questions) e ⊎ IsInOne graph (question ∷ []) e)
          → (IsInOne graph old e ⊎ asked (in_node graph e) question true)
      first_or_last e element (inl first) = inl ((same.exact e element).0 first)
      first_or_last e element (inr (inl here)) = inr here
      first_or_last e element (inr (inr none)) = absurd none

      back : (e : Thing) → IsElement e
          → (IsInOne graph old e ⊎ asked (in_node graph e) question true)
          → IsInOne graph (take i questions ++ question ∷ []) e
      back e element (inl one) = one_on_left (λ q. asked (in_node graph e) q true)
          (take i questions) (question ∷ []) ((same.exact e element).1 one)
      back e element (inr here) = one_on_right (λ q. asked (in_node graph e) q true)
          (take i questions) (question ∷ []) (inl here)

  pub all_same : (questions : List Question) (i : ℕ) → length questions ≤ i
      → (kept : List Question) → AskSame graph (take i questions) kept
      → AskSame graph questions kept
  all_same questions i past kept same =
      subst (λ (all : List Question). AskSame graph all kept) (take_all i questions past) same

  -- one pass and another one
  pub same_twice : (questions first second shown : List Question) → AskSame graph questions first
      → shown ≡ first → AskSame graph shown second → AskSame graph questions second
  same_twice questions first second shown same is again = record {
    exact = λ e element. through (same.exact e element)
        ((subst (λ (all : List Question). AskSame graph all second) is again).exact e element);
    asks = (subst (λ (all : List Question). AskSame graph all second) is again).asks;
  }
