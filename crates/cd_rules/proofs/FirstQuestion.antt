-- The first question of the list stays there until it has a witness.
use Rattle.std.proofs.Common.{◌≡◌, ◌⊎◌, List, [], ◌∷◌, ◌++◌, take, inl, inr, sym, ap, ◌∙◌}
use Rattle.cd_sets.specs.declared.question.Question.{Question}
use Rattle.cd_model.specs.Formula.{Graph}
use Rattle.cd_model.proofs.Ones.{one_on_left, one_on_right}
use Rattle.cd_rules.specs.Machine.{Witness, State, state, Step, opens, knows, works, finds, leaves}
use Rattle.cd_rules.specs.Right.{IsRight, HasFirst}
use Rattle.cd_rules.proofs.FramesKept.{cut_to_place}

-- the list up to a question that is the first one, or stands after it
first_or_after : (before done rest : List Question) (question last : Question) → before ++ last ∷ done ≡ question ∷ rest
    → (last ≡ question) ⊎ ((others : List Question) × (before ≡ question ∷ others))
first_or_after [] done rest question last same = inl cc
first_or_after (x ∷ before) done rest question last same = let is : x ≡ question = cc in inr (before, ap (λ one. one ∷ before) is)

module _ (graph : Graph) (settled : List Question) (question : Question) where
  abbrev IsIts : Witness → Type 0
  IsIts witness = witness.0 ≡ question

  pub first_kept : (before after : State) → Step graph settled before after → IsRight graph settled before
      → HasFirst question before → HasFirst question after
  first_kept _ _ (opens before other conjuncts new asks of accounts) is (inl one) = inl one
  first_kept _ _ (opens before other conjuncts new asks of accounts) is (inr (rest, same)) =
      inr (rest ++ other ∷ [], ap (λ list. list ++ other ∷ []) same)
  first_kept _ _ (knows before witness new right) is (inl one) = inl (one_on_left IsIts before.witnesses (witness ∷ []) one)
  first_kept _ _ (knows before witness new right) is (inr first) = inr first
  first_kept _ _ (works witnesses list place other before after frames step) is has = has
  first_kept _ _ (finds witnesses list last frames e right) is (inl one) = inl (one_on_left IsIts witnesses ((last.question, e) ∷ []) one)
  first_kept _ _ (finds witnesses list last frames e right) is (inr (rest, same)) =
      by_side is.frames.0 (cut_to_place last.place list is.frames.0 last.question is.frames.1 is.frames.2 is.frames.3)
      (first_or_after is.frames.0 is.frames.1 rest question last.question (sym is.frames.2 ∙ same))
    where
      by_side : (before : List Question) → take last.place list ≡ before
          → (last.question ≡ question) ⊎ ((others : List Question) × (before ≡ question ∷ others))
          → HasFirst question (state (witnesses ++ (last.question, e) ∷ []) (take last.place list) frames)
      by_side before cut (inl found) = inl (one_on_right IsIts witnesses ((last.question, e) ∷ []) (inl found))
      by_side before cut (inr (others, first)) = inr (others, cut ∙ first)
  first_kept _ _ (leaves witnesses list last frames is_done) is has = has
