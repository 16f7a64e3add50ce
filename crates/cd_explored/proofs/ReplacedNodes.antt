-- What is in a question with another node in the place of one, by what is in the one node and the
-- other.
use Rattle.std.proofs.Common.{◌≡◌, ◌<◌, ◌||◌, ℕ, Bool, true, false, List, [], ◌∷◌, map}
use Rattle.std.proofs.Common.{nat_eq, if◌then◌else◌, refl, sym, subst, ap, ◌∙◌, arith}
use Rattle.std.proofs.lemmas.Bool.{true≢false, eqb-true}
use Rattle.std.proofs.lemmas.Bool.Decides.{nat_tests}
use Rattle.cd_sets.specs.declared.node_id.NodeId.{NodeId}
use Rattle.cd_sets.specs.declared.question.Question.{Question}
use Rattle.cd_sets.specs.IdSet.{holds}
use Rattle.cd_sets.proofs.Members.{holds_first}
use Rattle.cd_model.specs.AllOf.{AllOf}
use Rattle.cd_model.specs.BuiltIns.{node}
use Rattle.cd_model.proofs.Ones.{each_weaker}
use Rattle.cd_rules.specs.Family.{AsksNodes}
use Rattle.cd_rules.proofs.Answered.{map_of_each}
use Rattle.cd_rules.proofs.Asking.{each_of_map}
use Rattle.cd_explored.specs.Inner.Choices.{in_place, IsSwapped}

module _ (fact : NodeId → Type 0) where
  -- a number that is held is one of the list
  held : (ids : List NodeId) (one : NodeId) → holds ids one ≡ true → AllOf fact ids → fact one
  held [] one is all = absurd (true≢false (sym is))
  held (id ∷ ids) one is all =
      by_test (nat_eq id.0 one.0) refl is (λ there. held ids one there all.1)
    where
      by_test : (same : Bool) → nat_eq id.0 one.0 ≡ same → (same || holds ids one) ≡ true
          → (holds ids one ≡ true → fact one) → fact one
      by_test true same there later = subst fact (ap node (eqb-true id.0 one.0 same)) all.0
      by_test false differs there later = later there

  each_held : (ids others : List NodeId)
      → ((one : NodeId) → holds others one ≡ true → holds ids one ≡ true) → AllOf fact ids
      → AllOf fact others
  each_held ids [] among all = tt
  each_held ids (other ∷ others) among all = (
    held ids other (among other (holds_first other others)) all,
    each_held ids others (λ one is. among one (later one is)) all,
  )
    where
      later : (one : NodeId) → holds others one ≡ true → holds (other ∷ others) one ≡ true
      later one is = grind arith

  module _ (own id : NodeId) where
    one_back : (fact id → fact own) → (one : NodeId) → fact (in_place own id one) → fact one
    one_back leads one is = by_test (nat_eq one.0 own.0) refl is
      where
        by_test : (same : Bool) → nat_eq one.0 own.0 ≡ same → fact (if same then id else one)
            → fact one
        by_test true same is = subst fact (sym (ap node (eqb-true one.0 own.0 same))) (leads is)
        by_test false differs is = is

    one_swapped : (fact own → fact id) → (one : NodeId) → fact one → fact (in_place own id one)
    one_swapped leads one is = by_test (nat_eq one.0 own.0) refl
      where
        by_test : (same : Bool) → nat_eq one.0 own.0 ≡ same → fact (if same then id else one)
        by_test true same = leads (subst fact (ap node (eqb-true one.0 own.0 same)) is)
        by_test false differs = is

    module _ (question swapped : Question) (is : IsSwapped own id question swapped) where
      listed : AllOf fact swapped.pos → AllOf (λ one. fact (in_place own id one)) question.pos
      listed all = map_of_each (in_place own id) fact question.pos
          (each_held swapped.pos (map (in_place own id) question.pos)
          (λ one there. is.wanted one ∙ there) all)

      -- what each of the one set has, each of the other has
      pub each_back : (fact id → fact own) → AllOf fact swapped.pos → AllOf fact question.pos
      each_back leads all = each_weaker (λ one. fact (in_place own id one)) fact (one_back leads)
          question.pos (listed all)

      pub each_swapped : (fact own → fact id) → AllOf fact question.pos → AllOf fact swapped.pos
      each_swapped leads all = each_held (map (in_place own id) question.pos) swapped.pos
          (λ one there. sym (is.wanted one) ∙ there)
          (each_of_map (in_place own id) fact question.pos
          (each_weaker fact (λ one. fact (in_place own id one)) (one_swapped leads) question.pos
          all))

-- where `own` is wanted, the other node is
own_place : (own id : NodeId) → in_place own id own ≡ id
own_place own id = grind (arith, nat_tests)

pub at_swapped : (fact : NodeId → Type 0) (own id : NodeId) (question swapped : Question)
    → IsSwapped own id question swapped → holds question.pos own ≡ true → AllOf fact swapped.pos
    → fact id
at_swapped fact own id question swapped is wanted all = subst fact (own_place own id)
    (held (λ one. fact (in_place own id one)) question.pos own wanted
    (listed fact own id question swapped is all))

pub swapped_asks : (count : ℕ) (own id : NodeId) (question swapped : Question)
    → IsSwapped own id question swapped → id.0 < count → AsksNodes count question
    → AsksNodes count swapped
swapped_asks count own id question swapped is below asks = (
  each_swapped (λ one. one.0 < count) own id question swapped is (λ own. below) asks.0,
  subst (AllOf (λ (one : NodeId). one.0 < count)) (sym is.refused) asks.1,
)
