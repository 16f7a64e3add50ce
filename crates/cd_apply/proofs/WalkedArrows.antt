-- The results of arguments by arrows, with one arrow after the other.
use Rattle.std.proofs.Common.{◌≡◌, Bool, true, false, List, [], ◌∷◌, ◌++◌, ◌⊎◌, inl, inr, ◌↔◌}
use Rattle.std.proofs.Common.{sym, subst, ap, ◌∙◌}
use Rattle.cd_sets.specs.declared.question.Question.{Question}
use Rattle.cd_model.specs.AllOf.{AnyOf}
use Rattle.cd_model.specs.Formula.{Graph, IsIn, IsOutside, in_node, nodes}
use Rattle.cd_model.specs.Thing.{Thing}
use Rattle.cd_model.proofs.Apart.{element_apart}
use Rattle.cd_model.proofs.ApartAtNodes.{nodes_keep}
use Rattle.cd_model.proofs.DecidedAtNodes.{in_or_outside}
use Rattle.cd_rules.specs.Clauses.{Pair}
use Rattle.cd_rules.specs.Family.{IsSubsumedBy}
use Rattle.cd_rules.specs.Members.{HasElement}
use Rattle.cd_rules.proofs.Among.{each_of_among}
use Rattle.cd_model.proofs.Ones.{one_weaker, one_on_left, one_on_right, one_on_a_side}
use Rattle.cd_products.specs.QuestionBoxes.{within_node, without_node}
use Rattle.cd_apply.specs.Inner.Found.{AddsResults, IsSeenToAdd}
use Rattle.cd_apply.specs.Inner.Results.{IsInQuestion, IsInOne, IsRight, IsResultIn}
use Rattle.cd_apply.proofs.QuestionsNarrowed.{within_exactly, without_exactly}

module _ (graph : Graph) where
  -- what is in a node is not outside it
  pub inside_alone : (e : Thing) (arrow : Pair) (to : Thing) → IsIn graph e arrow.0
      → IsRight graph e to arrow → IsIn graph to arrow.1
  inside_alone e arrow to inside (inl out) =
      absurd (element_apart (nodes graph) (nodes_keep graph) e arrow.0 inside out)
  inside_alone e arrow to inside (inr is) = is

  -- arguments outside that of an arrow and inside it, and results inside that of it
  module _ (arguments beyond inside results within : Question) (arrow : Pair)
      (beyond_is : (e : Thing) → IsInQuestion graph beyond e
      ↔ (IsInQuestion graph arguments e × IsOutside graph e arrow.0))
      (inside_is : (e : Thing) → IsInQuestion graph inside e
      ↔ (IsInQuestion graph arguments e × IsIn graph e arrow.0))
      (within_is : (e : Thing) → IsInQuestion graph within e
      ↔ (IsInQuestion graph results e × IsIn graph e arrow.1)) (rest : List Pair) where
    apart : (to : Thing) → IsResultIn graph arguments (arrow ∷ rest) results to
        → IsResultIn graph beyond rest results to ⊎ IsResultIn graph inside rest within to
    apart to ((from, is, asking, right), result) = by_side (in_or_outside graph from arrow.0)
      where
        by_side : IsIn graph from arrow.0 ⊎ IsOutside graph from arrow.0
            → IsResultIn graph beyond rest results to ⊎ IsResultIn graph inside rest within to
        by_side (inl in_it) = inr (
          (from, is, (inside_is from).1 (asking, in_it), right.1),
          (within_is to).1 (result, inside_alone from arrow to in_it right.0),
        )
        by_side (inr out) = inl ((from, is, (beyond_is from).1 (asking, out), right.1), result)

    together : (to : Thing)
        → IsResultIn graph beyond rest results to ⊎ IsResultIn graph inside rest within to
        → IsResultIn graph arguments (arrow ∷ rest) results to
    together to (inl ((from, is, asking, right), result)) =
        let parts = (beyond_is from).0 asking in
        ((from, is, parts.0, (inl parts.1, right)), result)
    together to (inr ((from, is, asking, right), result)) =
        let parts = (inside_is from).0 asking in
        let both = (within_is to).0 result in
        ((from, is, parts.0, (inr both.1, right)), both.0)

    -- the results of both are added, one after the other
    pub adds_both : (before between after : List Question)
        → AddsResults graph beyond rest results before between
        → AddsResults graph inside rest within between after
        → AddsResults graph arguments (arrow ∷ rest) results before after
    adds_both before between after first second to = (
      λ is. first_of ((second to).0 is),
      λ is. (second to).1 (back is),
    )
      where
        second_of : IsResultIn graph inside rest within to
            → IsInOne graph before to ⊎ IsResultIn graph arguments (arrow ∷ rest) results to
        second_of is = inr (together to (inr is))

        of_first : IsInOne graph before to ⊎ IsResultIn graph beyond rest results to
            → IsInOne graph before to ⊎ IsResultIn graph arguments (arrow ∷ rest) results to
        of_first (inl is) = inl is
        of_first (inr is) = inr (together to (inl is))

        first_of : IsInOne graph between to ⊎ IsResultIn graph inside rest within to
            → IsInOne graph before to ⊎ IsResultIn graph arguments (arrow ∷ rest) results to
        first_of (inl is) = of_first ((first to).0 is)
        first_of (inr is) = second_of is

        by_part : IsResultIn graph beyond rest results to ⊎ IsResultIn graph inside rest within to
            → IsInOne graph between to ⊎ IsResultIn graph inside rest within to
        by_part (inl is) = inl ((first to).1 (inr is))
        by_part (inr is) = inr is

        back : IsInOne graph before to ⊎ IsResultIn graph arguments (arrow ∷ rest) results to
            → IsInOne graph between to ⊎ IsResultIn graph inside rest within to
        back (inl is) = inl ((first to).1 (inl is))
        back (inr is) = by_part (apart to is)

  -- where all arrows are gone over, and there is an argument, the results are all in the question
  pub adds_rest : (arguments results : Question) → HasElement graph arguments
      → (before after : List Question) → after ≡ before ++ results ∷ []
      → AddsResults graph arguments [] results before after
  adds_rest arguments results (e, is, asking) before after put to = (
    λ one. first (one_on_a_side (λ question. IsInQuestion graph question to) before (results ∷ [])
        (subst (λ (all : List Question). IsInOne graph all to) put one)),
    λ one. subst (λ (all : List Question). IsInOne graph all to) (sym put) (back one),
  )
    where
      last : IsInOne graph (results ∷ []) to → IsResultIn graph arguments [] results to
      last (inl result) = ((e, is, asking, tt), result)
      last (inr none) = absurd none

      first : IsInOne graph before to ⊎ IsInOne graph (results ∷ []) to
          → IsInOne graph before to ⊎ IsResultIn graph arguments [] results to
      first (inl old) = inl old
      first (inr one) = inr (last one)

      back : IsInOne graph before to ⊎ IsResultIn graph arguments [] results to
          → IsInOne graph (before ++ results ∷ []) to
      back (inl old) = one_on_left (λ question. IsInQuestion graph question to) before
          (results ∷ []) old
      back (inr one) = one_on_right (λ question. IsInQuestion graph question to) before
          (results ∷ []) (inl one.1)

  -- where the results are seen to be there, nothing is added
  pub adds_nothing : (arguments results : Question) (questions : List Question) (seen : Bool)
      → IsSeenToAdd graph arguments results questions seen → seen ≡ false → (arrows : List Pair)
      → AddsResults graph arguments arrows results questions questions
  adds_nothing arguments results questions seen there not_new arrows to = (
    λ one. inl one,
    λ one. back one,
  )
    where
      back : IsInOne graph questions to ⊎ IsResultIn graph arguments arrows results to
          → IsInOne graph questions to
      back (inl old) = old
      back (inr one) =
          subst (λ (b : Bool). IsSeenToAdd graph arguments results questions b) not_new there arrows
          to one

  -- what a question holds that one of some questions subsumes is in one of these
  pub in_subsuming : (results : Question) (questions : List Question)
      → AnyOf (IsSubsumedBy results) questions → (e : Thing) → IsInQuestion graph results e
      → IsInOne graph questions e
  in_subsuming results questions some e is =
      one_weaker (IsSubsumedBy results) (λ question. IsInQuestion graph question e)
      (λ question less. (
        each_of_among (λ id. in_node graph e id true) question.pos results.pos less.0 is.0,
        each_of_among (λ id. in_node graph e id false) question.neg results.neg less.1 is.1,
      ))
      questions some

  -- as the code finds them
  pub rest_added : (arrows : List Pair) → arrows ≡ [] → (arguments results : Question)
      (seen : Bool) (questions : List Question)
      → IsSeenToAdd graph arguments results questions seen → seen ≡ true → (pushed : Question)
      → pushed ≡ results → (before after : List Question) → after ≡ before ++ pushed ∷ []
      → AddsResults graph arguments arrows results before after
  rest_added arrows none arguments results seen questions there some pushed same before after put =
      subst (λ (all : List Pair). AddsResults graph arguments all results before after) (sym none)
      (adds_rest arguments results
      (subst (λ (b : Bool). IsSeenToAdd graph arguments results questions b) some there) before
      after (put ∙ ap (λ question. before ++ question ∷ []) same))

  pub both_added : (arrows : List Pair) (arrow : Pair) (rest : List Pair) → arrows ≡ arrow ∷ rest
      → (arguments results : Question) (first second : Graph) → first ≡ graph → second ≡ graph
      → (before between after : List Question)
      → AddsResults first (without_node arrow.0 arguments) rest results before between
      → AddsResults second (within_node arrow.0 arguments) rest (within_node arrow.1 results)
      between after
      → AddsResults graph arguments arrows results before after
  both_added arrows arrow rest are arguments results first second one two before between after
      beyond inside =
      subst (λ (all : List Pair). AddsResults graph arguments all results before after) (sym are)
      (adds_both arguments (without_node arrow.0 arguments) (within_node arrow.0 arguments) results
      (within_node arrow.1 results) arrow (without_exactly graph arrow.0 arguments)
      (within_exactly graph arrow.0 arguments) (within_exactly graph arrow.1 results) rest before
      between after
      (subst (λ (g : Graph). AddsResults g (without_node arrow.0 arguments) rest results before
      between) one beyond)
      (subst (λ (g : Graph). AddsResults g (within_node arrow.0 arguments) rest
      (within_node arrow.1 results) between after) two inside))
