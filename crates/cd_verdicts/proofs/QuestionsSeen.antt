-- What a look at a question finds.
use Rattle.std.proofs.Common.{◌≡◌, ◌==◌, ◌||◌, Bool, true, false, ℕ, zero, suc, List, [], ◌∷◌, ◌++◌, Some, inl, inr, refl, ap, arith, length, slice_get}
use Rattle.std.proofs.lemmas.Bool.{eqb-true}
use Rattle.std.proofs.lemmas.Option.{none-some, same_Some}
use Rattle.std.specs.List.{list_any}
use Rattle.cd_sets.specs.IdSet.{holds}
use Rattle.cd_sets.specs.declared.node_id.NodeId.{NodeId}
use Rattle.cd_sets.specs.declared.question.Question.{Question}
use Rattle.cd_model.specs.AllOf.{AnyOf}
use Rattle.cd_model.specs.BuiltIns.{node}
use Rattle.cd_model.proofs.Ones.{one_on_left, one_on_right}
use Rattle.cd_rules.specs.Machine.{NotIn}
use Rattle.cd_rules.specs.Family.{IsOfFamily, IsSubsumed}
use Rattle.cd_rules.proofs.Subsumption.{subsumes_own}
use Rattle.cd_verdicts.specs.declared.verdict.Verdict.{Verdict}
use Rattle.cd_verdicts.specs.declared.verdict.Verdict.TheVariants.{Empty, Inhabited}
use Rattle.cd_verdicts.specs.Verdicts.{IsKept, family}

-- a question with the verdict that it is empty is one of those without elements
kept_empty : (kept : List (Question × Verdict)) (question : Question) → IsKept kept question Empty → IsOfFamily question (family kept)
kept_empty [] question is = elim is [ ]
kept_empty ((other, Empty) ∷ kept) question (inl same) = inl (ap (λ one. one.0) same)
kept_empty ((other, Inhabited id) ∷ kept) question (inl same) =
    let alike : Inhabited id ≡ Empty = ap (λ one. one.1) same in absurd cc
kept_empty ((other, Empty) ∷ kept) question (inr later) = inr (kept_empty kept question later)
kept_empty ((other, Inhabited id) ∷ kept) question (inr later) = kept_empty kept question later

pub empty_is_known : (kept : List (Question × Verdict)) (list : List Question) (question : Question) → IsKept kept question Empty
    → IsSubsumed question (family kept ++ list)
empty_is_known kept list question is = subsumes_own (family kept ++ list) question
    (one_on_left (λ other. other ≡ question) (family kept) list (kept_empty kept question is))

-- a question with a number in a list is one of it
listed : (list : List Question) (number : ℕ) (question : Question) → slice_get list number ≡ Some question → IsOfFamily question list
listed [] number question at = absurd (none-some question at)
listed (one ∷ list) zero question at = inl (same_Some one question at)
listed (one ∷ list) (suc number) question at = inr (listed list number question at)

pub listed_is_known : (kept : List (Question × Verdict)) (list : List Question) (number : ℕ) (question : Question)
    → slice_get list number ≡ Some question → IsSubsumed question (family kept ++ list)
listed_is_known kept list number question at = subsumes_own (family kept ++ list) question
    (one_on_right (λ other. other ≡ question) (family kept) list (listed list number question at))

-- a set that has a number has one that is it
has_one : (ids : List NodeId) (id : NodeId) → holds ids id ≡ true → AnyOf (λ other. other ≡ id) ids
has_one [] id is = absurd cc
has_one (other ∷ ids) id is = by_test (other.0 == id.0) refl is (has_one ids id)
  where
    by_test : (same : Bool) → (other.0 == id.0) ≡ same → (same || holds ids id) ≡ true
        → (holds ids id ≡ true → AnyOf (λ other. other ≡ id) ids) → AnyOf (λ other. other ≡ id) (other ∷ ids)
    by_test true at is on = inl (ap node (eqb-true other.0 id.0 at))
    by_test false at is on = inr (on is)

-- a question contradicts itself where one of the nodes that it wants is among those that it refuses
contradicts_by : (pos neg : List NodeId) → list_any (holds neg) pos ≡ true → AnyOf (λ id. AnyOf (λ other. other ≡ id) neg) pos
contradicts_by [] neg is = absurd cc
contradicts_by (id ∷ pos) neg is = by_test (holds neg id) refl is (contradicts_by pos neg)
  where
    by_test : (there : Bool) → holds neg id ≡ there → (there || list_any (holds neg) pos) ≡ true
        → (list_any (holds neg) pos ≡ true → AnyOf (λ id. AnyOf (λ other. other ≡ id) neg) pos)
        → AnyOf (λ id. AnyOf (λ other. other ≡ id) neg) (id ∷ pos)
    by_test true at is on = inl (has_one neg id at)
    by_test false at is on = inr (on is)

pub contradiction_is_subsumed : (family : List Question) (question : Question) → list_any (holds question.neg) question.pos ≡ true
    → IsSubsumed question family
contradiction_is_subsumed family question is = inr (contradicts_by question.pos question.neg is)

-- where it refuses none it doesn't
pub none_refused : (pos neg : List NodeId) → length neg ≡ 0 → false ≡ list_any (holds neg) pos
none_refused [] neg none = refl
none_refused (id ∷ pos) [] none = none_refused pos [] none
none_refused (id ∷ pos) (other ∷ neg) none = absurd (omega arith)

-- and one without a number is not
pub not_listed : (list : List Question) (question : Question) → ((number : ℕ) → slice_get list number ≡ Some question → ⊥)
    → NotIn list question
not_listed [] question none is = elim is [ ]
not_listed (one ∷ list) question none (inl same) = none 0 (ap Some same)
not_listed (one ∷ list) question none (inr later) = not_listed list question (λ number at. none (suc number) at) later
