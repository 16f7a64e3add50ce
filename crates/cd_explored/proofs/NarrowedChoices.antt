-- A question that wants a union of two nodes, narrowed by the first of them: the union is replaced.
use Rattle.std.proofs.Common.{◌≡◌, inl, inr, true, false, [], ◌∷◌, sym, subst}
use Rattle.cd_sets.specs.declared.node_id.NodeId.{NodeId}
use Rattle.cd_sets.specs.declared.question.Question.{Question}
use Rattle.cd_sets.specs.IdSet.{holds}
use Rattle.cd_model.specs.AllOf.{AllOf}
use Rattle.cd_model.specs.Formula.{asked}
use Rattle.cd_model.specs.Thing.{Thing}
use Rattle.cd_model.specs.Types.{Answers}
use Rattle.cd_rules.specs.Needs as needs
use Rattle.cd_rules.proofs.Asking.{asked_of_each}
use Rattle.cd_products.specs.QuestionBoxes.{AreDecided, within_node, without_node}
use Rattle.cd_filter.specs.Capturing.{IsNarrowed}
use Rattle.cd_explored.specs.Inner.Choices.{IsUnion, IsSwapped}
use Rattle.cd_explored.proofs.Narrowed.{within_narrows, without_narrows}
use Rattle.cd_explored.proofs.ReplacedNodes.{each_back, each_swapped, at_swapped}

module _ (answers : Thing → Answers NodeId) (Sort : Thing → Type 0) (own first second : NodeId)
    (union : IsUnion answers Sort own first second) (question : Question) where
  abbrev In : Thing → NodeId → Type 0
  In d id = answers d id true

  -- what is in the first node
  pub taken_narrows : (swapped : Question) → IsSwapped own first question swapped
      → IsNarrowed answers Sort true first question (within_node first swapped)
  taken_narrows swapped is d sort = (
    λ h. let parts = (within_narrows answers Sort first swapped d sort).0 h in (
      (
        each_back (In d) own first question swapped is (union.by_first d sort) parts.0.0,
        subst (AllOf (λ (id : NodeId). answers d id false)) is.refused parts.0.1,
      ),
      parts.1,
    ),
    λ h. (within_narrows answers Sort first swapped d sort).1 (
      (
        each_swapped (In d) own first question swapped is (λ own. h.1) h.0.0,
        subst (AllOf (λ (id : NodeId). answers d id false)) (sym is.refused) h.0.1,
      ),
      h.1,
    ),
  )

  -- and what is not
  module _ (rest : Question) (is : IsSwapped own second question rest) where
    rest_back : (d : Thing) → Sort d → asked (answers d) rest true
        → asked (answers d) question true
    rest_back d sort h = (
      each_back (In d) own second question rest is (union.by_second d sort) h.0,
      subst (AllOf (λ (id : NodeId). answers d id false)) is.refused h.1,
    )

    in_rest : (d : Thing) → Sort d → asked (answers d) question true → answers d first false
        → asked (answers d) rest true
    in_rest d sort h outside = (
      each_swapped (In d) own second question rest is
          (λ inside. union.else_second d sort inside outside) h.0,
      subst (AllOf (λ (id : NodeId). answers d id false)) (sym is.refused) h.1,
    )

    pub rest_narrows : IsNarrowed answers Sort false first question (without_node first rest)
    rest_narrows d sort = (
      λ h. let parts = (without_narrows answers Sort first rest d sort).0 h in
          (rest_back d sort parts.0, parts.1),
      λ h. (without_narrows answers Sort first rest d sort).1 (in_rest d sort h.0 h.1, h.1),
    )

    all_outside : AreDecided answers Sort
        → ((d : Thing) → Sort d → asked (answers d) rest true → answers d first true → ⊥)
        → IsNarrowed answers Sort false first question rest
    all_outside decides none d sort = (
      λ h. (
        rest_back d sort h,
        elim (decides d first sort) [
          | inl inside ↦ absurd (none d sort h inside)
          | inr outside ↦ outside
        ],
      ),
      λ h. in_rest d sort h.0 h.1,
    )

    -- where nothing of the question is in the first node
    pub rest_untaken : AreDecided answers Sort → (taken : Question)
        → IsNarrowed answers Sort true first question taken
        → ((d : Thing) → Sort d → asked (answers d) taken true → ⊥)
        → IsNarrowed answers Sort false first question rest
    rest_untaken decides taken narrows none = all_outside decides
        (λ d sort h inside. none d sort ((narrows d sort).1 (rest_back d sort h, inside)))

    -- where it wants the union, and nothing is in both nodes
    pub rest_apart : AreDecided answers Sort → holds question.pos own ≡ true
        → ((d : Thing) → Sort d
        → asked (answers d) (needs.question (first ∷ second ∷ []) []) true → ⊥)
        → IsNarrowed answers Sort false first question rest
    rest_apart decides wanted none = all_outside decides
        (λ d sort h inside. none d sort (asked_of_each (answers d) (first ∷ second ∷ []) []
        (inside, (at_swapped (In d) own second question rest is wanted h.0, tt)) tt))
