-- Each question is there once: settled, in the list, or with a witness.
use Rattle.std.proofs.Common.{◌≡◌, ◌⊎◌, List, [], ◌∷◌, ◌++◌, map, inl, inr, refl, sym, ap, subst, ◌∙◌, append_assoc, append-nil}
use Rattle.cd_sets.specs.declared.question.Question.{Question}
use Rattle.cd_model.specs.AllOf.{AnyOf}
use Rattle.cd_model.specs.Formula.{Graph}
use Rattle.cd_model.proofs.Ones.{one_on_left, one_on_right, one_on_a_side}
use Rattle.cd_rules.specs.Machine.{Witness, State, state, NotIn, all_questions, Step, opens, knows, works, finds, leaves}
use Rattle.cd_rules.specs.Right.{Differ, AreFrames}
use Rattle.cd_rules.proofs.FramesKept.{cut_to_place}

module _ {X : Type 0} where
  -- one is in two lists where it is in one of them, and in none where it is in neither
  pub in_neither : (some others : List X) (x : X) → NotIn some x → NotIn others x → NotIn (some ++ others) x
  in_neither some others x one other there = by_side (one_on_a_side (λ (y : X). y ≡ x) some others there)
    where
      by_side : AnyOf (λ (y : X). y ≡ x) some ⊎ AnyOf (λ (y : X). y ≡ x) others → ⊥
      by_side (inl is) = one is
      by_side (inr is) = other is

  not_on_left : (some others : List X) (x : X) → NotIn (some ++ others) x → NotIn some x
  not_on_left some others x none there = none (one_on_left (λ (y : X). y ≡ x) some others there)

  not_on_right : (some others : List X) (x : X) → NotIn (some ++ others) x → NotIn others x
  not_on_right some others x none there = none (one_on_right (λ (y : X). y ≡ x) some others there)

  -- one that is not among others may stand between them, and back
  differ_with : (some others : List X) (x : X) → Differ (some ++ others) → NotIn (some ++ others) x → Differ (some ++ x ∷ others)
  differ_with [] others x differ none = (none, differ)
  differ_with (y ∷ some) others x differ none = (
    in_neither some (x ∷ others) y (not_on_left some others y differ.0) other_one,
    differ_with some others x differ.1 (λ there. none (inr there)),
  )
    where
      other_one : NotIn (x ∷ others) y
      other_one (inl same) = none (inl (sym same))
      other_one (inr there) = not_on_right some others y differ.0 there

  differ_without : (some others : List X) (x : X) → Differ (some ++ x ∷ others) → Differ (some ++ others) × NotIn (some ++ others) x
  differ_without [] others x differ = (differ.1, differ.0)
  differ_without (y ∷ some) others x differ = let rest = differ_without some others x differ.1 in (
    (
      in_neither some others y (not_on_left some (x ∷ others) y differ.0)
          (λ there. not_on_right some (x ∷ others) y differ.0 (inr there)),
      rest.0,
    ),
    other_one rest.1,
  )
    where
      other_one : NotIn (some ++ others) x → NotIn (y ∷ some ++ others) x
      other_one none (inl same) = not_on_right some (x ∷ others) y differ.0 (inl (sym same))
      other_one none (inr there) = none there

  -- those between may go
  differ_less : (some more others : List X) → Differ (some ++ (more ++ others)) → Differ (some ++ others)
  differ_less some [] others differ = differ
  differ_less some (y ∷ more) others differ = differ_less some more others (differ_without some (more ++ others) y differ).0

  not_in_less : (some more others : List X) (x : X) → NotIn (some ++ (more ++ others)) x → NotIn (some ++ others) x
  not_in_less some more others x none = in_neither some others x (not_on_left some (more ++ others) x none)
      (not_on_right more others x (not_on_right some (more ++ others) x none))

  -- one more at the end
  differ_more : (all : List X) (x : X) → Differ all → NotIn all x → Differ (all ++ x ∷ [])
  differ_more all x differ none = differ_with all [] x (subst Differ (sym (append-nil all)) differ)
      (subst (λ all. NotIn all x) (sym (append-nil all)) none)

questions_of_more : (witnesses : List Witness) (witness : Witness)
    → map (λ witness. witness.0) (witnesses ++ witness ∷ []) ≡ map (λ witness. witness.0) witnesses ++ witness.0 ∷ []
questions_of_more [] witness = refl
questions_of_more (one ∷ witnesses) witness = ap (λ more. one.0 ∷ more) (questions_of_more witnesses witness)

module _ (settled : List Question) where
  abbrev of_both : (list : List Question) → List Witness → List Question
  of_both list witnesses = settled ++ list ++ map (λ witness. witness.0) witnesses

  -- where a question stands in the list
  listed_between : (before done : List Question) (question : Question) (witnesses : List Witness)
      → of_both (before ++ question ∷ done) witnesses
      ≡ (settled ++ before) ++ question ∷ (done ++ map (λ witness. witness.0) witnesses)
  listed_between before done question witnesses =
      ap (λ all. all ++ map (λ witness. witness.0) witnesses) (sym (append_assoc settled before (question ∷ done)))
      ∙ append_assoc (settled ++ before) (question ∷ done) (map (λ witness. witness.0) witnesses)

  one_witness_more : (list : List Question) (witnesses : List Witness) (witness : Witness) → Differ (of_both list witnesses)
      → NotIn (of_both list witnesses) witness.0 → Differ (of_both list (witnesses ++ witness ∷ []))
  one_witness_more list witnesses witness differ none =
      subst Differ (append_assoc (settled ++ list) (map (λ witness. witness.0) witnesses) (witness.0 ∷ [])
      ∙ sym (ap (λ more. settled ++ list ++ more) (questions_of_more witnesses witness)))
      (differ_more (of_both list witnesses) witness.0 differ none)

  pub once_kept : (graph : Graph) (before after : State) → Step graph settled before after
      → AreFrames graph settled before.list before.frames → Differ (all_questions settled before)
      → Differ (all_questions settled after)
  once_kept graph _ _ (opens before question conjuncts new asks of accounts) are once =
      subst Differ (sym (listed_between before.list [] question before.witnesses))
      (differ_with (settled ++ before.list) (map (λ witness. witness.0) before.witnesses) question once new)
  once_kept graph _ _ (knows before witness new is) are once = one_witness_more before.list before.witnesses witness once new
  once_kept graph _ _ (works witnesses list place question before after frames step) are once = once
  once_kept graph _ _ (finds witnesses list last frames e is) (before, done, list_is, place_is, left, refuted, are) once =
      subst (λ list. Differ (of_both list (witnesses ++ (last.question, e) ∷ [])))
      (sym (cut_to_place last.place list before last.question done list_is place_is))
      (one_witness_more before witnesses (last.question, e)
      (differ_less (settled ++ before) done (map (λ witness. witness.0) witnesses) without.0)
      (not_in_less (settled ++ before) done (map (λ witness. witness.0) witnesses) last.question without.1))
    where
      without : Differ ((settled ++ before) ++ (done ++ map (λ witness. witness.0) witnesses))
          × NotIn ((settled ++ before) ++ (done ++ map (λ witness. witness.0) witnesses)) last.question
      without = differ_without (settled ++ before) (done ++ map (λ witness. witness.0) witnesses) last.question
          (subst Differ (listed_between before done last.question witnesses) (subst (λ list. Differ (of_both list witnesses)) list_is once))
  once_kept graph _ _ (leaves witnesses list last frames is_done) are once = once

-- so it is with the list settled
pub once_again : (settled list : List Question) (witnesses : List Witness) → Differ (all_questions settled (state witnesses list []))
    → Differ (all_questions (settled ++ list) (state witnesses [] []))
once_again settled list witnesses = subst (λ all. Differ (all ++ map (λ witness. witness.0) witnesses)) (sym (append-nil (settled ++ list)))
