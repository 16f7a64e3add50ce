-- What the tests on questions that others subsume say.
use Rattle.std.proofs.Common.{◌≡◌, ◌==◌, ◌||◌, ◌&&◌, Bool, true, false, List, [], ◌∷◌, inl, inr}
use Rattle.std.proofs.Common.{refl, sym}
use Rattle.std.proofs.lemmas.Bool.{eqb-true, true≢false}
use Rattle.std.specs.List.{list_all, list_any}
use Rattle.cd_sets.specs.IdSet.{holds}
use Rattle.cd_sets.specs.declared.node_id.NodeId.{NodeId}
use Rattle.cd_sets.specs.declared.question.Question.{Question}
use Rattle.cd_sets.proofs.Members.{id_from_number}
use Rattle.cd_model.specs.AllOf.{AllOf, AnyOf}
use Rattle.cd_rules.specs.Family.{IsSubsumedBy}
use Rattle.cd_apply.specs.Inner.Subsuming.{is_subsumed_by}

-- both are so, and one of two is
both_true : (a b : Bool) → a && b ≡ true → (a ≡ true) × (b ≡ true)
both_true true true is = (refl, refl)
both_true true false is = absurd (true≢false (sym is))
both_true false b is = absurd (true≢false (sym is))

module _ {X : Type 0} (test : X → Bool) (Fact : X → Type 0)
    (shows : (x : X) → test x ≡ true → Fact x)
  where
    pub all_shown : (xs : List X) → list_all test xs ≡ true → AllOf Fact xs
    all_shown [] is = tt
    all_shown (x ∷ xs) is = let both = both_true (test x) (list_all test xs) is in
        (shows x both.0, all_shown xs both.1)

    pub one_shown : (xs : List X) → list_any test xs ≡ true → AnyOf Fact xs
    one_shown [] is = absurd (true≢false (sym is))
    one_shown (x ∷ xs) is = by_first (test x) refl is (one_shown xs)
      where
        by_first : (first : Bool) → test x ≡ first → first || list_any test xs ≡ true
            → (list_any test xs ≡ true → AnyOf Fact xs) → AnyOf Fact (x ∷ xs)
        by_first true here is later = inl (shows x here)
        by_first false here is later = inr (later is)

held : (ids : List NodeId) (id : NodeId) → holds ids id ≡ true → AnyOf (λ other. other ≡ id) ids
held ids id is = one_shown (λ other. other.0 == id.0) (λ other. other ≡ id)
    (λ other same. id_from_number other id (eqb-true other.0 id.0 same)) ids is

pub is_subsuming : (question : Question) (others : List Question)
    → list_any (is_subsumed_by question) others ≡ true → AnyOf (IsSubsumedBy question) others
is_subsuming question others is =
    one_shown (is_subsumed_by question) (IsSubsumedBy question) by_one others is
  where
    by_one : (other : Question) → is_subsumed_by question other ≡ true → IsSubsumedBy question other
    by_one other is =
        let both = both_true (list_all (holds question.pos) other.pos)
        (list_all (holds question.neg) other.neg) is in (
          all_shown (holds question.pos) (λ id. AnyOf (λ one. one ≡ id) question.pos)
              (held question.pos) other.pos both.0,
          all_shown (holds question.neg) (λ id. AnyOf (λ one. one ≡ id) question.neg)
              (held question.neg) other.neg both.1,
        )
