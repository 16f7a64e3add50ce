-- Questions of items, each once, one after another.
use Rattle.std.proofs.Common.{◌≡◌, ◌<◌, ◌+◌, ◌⊎◌, inl, inr, ℕ, Bool, true, false, List, [], ◌∷◌}
use Rattle.std.proofs.Common.{◌++◌}
use Rattle.std.proofs.Common.{drop, map, length, get_or, Some, sym, ap, subst, ◌∙◌}
use Rattle.std.proofs.Common.{append_assoc, append-nil, if◌then◌else◌, ◌≤◌}
use Rattle.std.proofs.lemmas.List.{at_drop_more, at_drop_all}
use Rattle.std.specs.List.{slice_get}
use Rattle.cd_sets.specs.declared.question.Question.{Question}
use Rattle.cd_model.specs.AllOf.{AnyOf}
use Rattle.cd_model.proofs.Ones.{one_on_left, one_on_right, one_on_a_side}
use Rattle.cd_rules.specs.Family.{AreAmong, SameMembers}
use Rattle.cd_rules.proofs.Among.{among_itself, among_on, each_of_its}
use Rattle.cd_forms.specs.declared.of_sequences.state.State.{State as CodeState}
use Rattle.cd_forms.specs.declared.of_sequences.step.Step.{Step}
use Rattle.cd_forms.specs.Inner.ItemQuestions.{is_marked, items_of_steps, items_of_states}
use Rattle.cd_forms.specs.Inner.States.{plain_state}
use Rattle.cd_forms.proofs.ByNumber.{got_among}

-- lists with the same members
pub same_itself : {X : Type 0} (xs : List X) → SameMembers xs xs
same_itself xs = (among_itself xs, among_itself xs)

same_on : {X : Type 0} (xs ys zs : List X) → SameMembers xs ys → SameMembers ys zs
    → SameMembers xs zs
same_on xs ys zs one other = (among_on xs ys zs one.0 other.0, among_on zs ys xs other.1 one.1)

-- with others after them
among_with : {X : Type 0} (xs ys more : List X) → AreAmong xs ys
    → AreAmong (xs ++ more) (ys ++ more)
among_with {X} xs ys more among = each_of_its (λ x. AnyOf (λ (other : X). other ≡ x) (ys ++ more))
    (xs ++ more) (λ x there. elim (one_on_a_side (λ (other : X). other ≡ x) xs more there) [
      | inl left ↦ one_on_left (λ (other : X). other ≡ x) ys more (its xs among x left)
      | inr right ↦ one_on_right (λ (other : X). other ≡ x) ys more right
    ])
  where
    its : (some : List X) → AreAmong some ys → (x : X) → AnyOf (λ other. other ≡ x) some
        → AnyOf (λ other. other ≡ x) ys
    its [] all x is = absurd is
    its (y ∷ some) all x (inl same) =
        subst (λ (x : X). AnyOf (λ other. other ≡ x) ys) same all.0
    its (y ∷ some) all x (inr later) = its some all.1 x later

same_with : {X : Type 0} (xs ys more : List X) → SameMembers xs ys
    → SameMembers (xs ++ more) (ys ++ more)
same_with xs ys more same = (among_with xs ys more same.0, among_with ys xs more same.1)

-- a question that is numbered stands before those that are left
added : (old new : List Question) (number : ℕ) (question : Question) (rest : List Question)
    → slice_get new number ≡ Some question → (new ≡ old) ⊎ (new ≡ old ++ question ∷ [])
    → SameMembers (new ++ rest) (old ++ question ∷ rest)
added old new number question rest there (inl same) =
    subst (λ (new : List Question). SameMembers (new ++ rest) (old ++ question ∷ rest)) (sym same) (
      each_of_its (λ q. AnyOf (λ other. other ≡ q) (old ++ question ∷ rest)) (old ++ rest)
          (λ q is. elim (one_on_a_side (λ other. other ≡ q) old rest is) [
            | inl left ↦ one_on_left (λ other. other ≡ q) old (question ∷ rest) left
            | inr right ↦ one_on_right (λ other. other ≡ q) old (question ∷ rest) (inr right)
          ]),
      each_of_its (λ q. AnyOf (λ other. other ≡ q) (old ++ rest)) (old ++ question ∷ rest)
          (λ q is. elim (one_on_a_side (λ other. other ≡ q) old (question ∷ rest) is) [
            | inl left ↦ one_on_left (λ other. other ≡ q) old rest left
            | inr right ↦ elim right [
              | inl equal ↦ one_on_left (λ other. other ≡ q) old rest
                  (subst (λ (q : Question). AnyOf (λ other. other ≡ q) old) equal
                  (got_among old number question (subst (λ (all : List Question).
                  slice_get all number ≡ Some question) same there)))
              | inr later ↦ one_on_right (λ other. other ≡ q) old rest later
            ]
          ]),
    )
added old new number question rest there (inr one) =
    subst (λ (all : List Question). SameMembers all (old ++ question ∷ rest))
    (sym (ap (λ all. all ++ rest) one ∙ append_assoc old (question ∷ []) rest))
    (same_itself (old ++ question ∷ rest))

-- One step more, which leads to a marked state or not
module _ (marks : List Bool) (steps : List Step) (i : ℕ) (step : Step) (below : i < length steps)
    (is : step ≡ get_or steps i step) (whole : List Question) where
  -- what is left with this step
  left_is : (mark : Bool) → is_marked marks step.rest ≡ mark → items_of_steps marks (drop i steps)
      ≡ (if mark then step.item ∷ items_of_steps marks (drop (i + 1) steps)
      else items_of_steps marks (drop (i + 1) steps))
  left_is mark same = at_drop_more (items_of_steps marks) steps i step below
      ∙ ap (λ one. items_of_steps marks (one ∷ drop (i + 1) steps)) (sym is)
      ∙ ap (λ mark. if mark then step.item ∷ items_of_steps marks (drop (i + 1) steps)
      else items_of_steps marks (drop (i + 1) steps)) same

  pub item_added : (old new : List Question) (number : ℕ) (item : Question)
      → is_marked marks step.rest ≡ true
      → SameMembers (old ++ items_of_steps marks (drop i steps)) whole → item ≡ step.item
      → slice_get new number ≡ Some item → (new ≡ old) ⊎ (new ≡ old ++ item ∷ [])
      → SameMembers (new ++ items_of_steps marks (drop (i + 1) steps)) whole
  item_added old new number item mark so_far same there grows =
      let rest = items_of_steps marks (drop (i + 1) steps) in
      same_on (new ++ rest) (old ++ step.item ∷ rest) whole
      (subst (λ (q : Question). SameMembers (new ++ rest) (old ++ q ∷ rest)) same
      (added old new number item rest there grows))
      (subst (λ (left : List Question). SameMembers (old ++ left) whole) (left_is true mark) so_far)

  pub none_added : (old : List Question) → is_marked marks step.rest ≡ false
      → SameMembers (old ++ items_of_steps marks (drop i steps)) whole
      → SameMembers (old ++ items_of_steps marks (drop (i + 1) steps)) whole
  none_added old mark so_far =
      subst (λ (left : List Question). SameMembers (old ++ left) whole) (left_is false mark) so_far

-- no step is left
pub steps_done : (marks : List Bool) (steps : List Step) (i : ℕ) (items whole : List Question)
    → length steps ≤ i → SameMembers (items ++ items_of_steps marks (drop i steps)) whole
    → SameMembers items whole
steps_done marks steps i items whole past same =
    subst (λ (all : List Question). SameMembers all whole)
    (ap (λ left. items ++ left) (at_drop_all (items_of_steps marks) steps i past)
    ∙ append-nil items) same

-- the same of states
module _ (marks : List Bool) (states : List CodeState) (i : ℕ) (whole : List Question) where
  pub state_added : (state : CodeState) (old new : List Question) → i < length states
      → state ≡ get_or states i state
      → SameMembers (old ++ items_of_states marks (map plain_state (drop i states))) whole
      → SameMembers new (old ++ items_of_steps marks state.steps.items)
      → SameMembers (new ++ items_of_states marks (map plain_state (drop (i + 1) states))) whole
  state_added state old new below is so_far one =
      let rest = items_of_states marks (map plain_state (drop (i + 1) states)) in
      let steps = items_of_steps marks state.steps.items in
      let left : items_of_states marks (map plain_state (drop i states)) ≡ steps ++ rest =
      at_drop_more (λ states. items_of_states marks (map plain_state states)) states i state below
      ∙ ap (λ (one : CodeState). items_of_steps marks one.steps.items ++ rest) (sym is) in
      same_on (new ++ rest) ((old ++ steps) ++ rest) whole
      (same_with new (old ++ steps) rest one)
      (subst (λ (all : List Question). SameMembers all whole)
      (ap (λ left. old ++ left) left ∙ sym (append_assoc old steps rest)) so_far)

  pub states_done : (items : List Question) → length states ≤ i
      → SameMembers (items ++ items_of_states marks (map plain_state (drop i states))) whole
      → SameMembers items whole
  states_done items past same = subst (λ (all : List Question). SameMembers all whole)
      (ap (λ left. items ++ left)
      (at_drop_all (λ states. items_of_states marks (map plain_state states)) states i past)
      ∙ append-nil items) same
