-- What looks at all questions of a list find.
use Rattle.std.proofs.Common.{◌≡◌, ℕ, zero, suc, ◌<◌, List, [], ◌∷◌, ◌++◌, refl, sym, ap, subst, ◌∙◌, arith, length, take, get_or}
use Rattle.cd_sets.specs.declared.question.Question.{Question}
use Rattle.cd_model.specs.AllOf.{AnyOf}
use Rattle.cd_elements.specs.declared.shape.ElementId.{ElementId}
use Rattle.cd_rules.specs.Family.{IsSubsumed}
use Rattle.cd_empty.specs.declared.decider.Decider.{Decider}
use Rattle.cd_verdicts.specs.declared.verdict.Verdict.TheVariants.{Inhabited}
use Rattle.cd_empty.specs.Inner.Looking.{HaveElements}
use Rattle.cd_empty.specs.Inner.PlainFrame.{known}
use Rattle.cd_empty.specs.Kept.{kept}
use Rattle.cd_verdicts.specs.Verdicts.{IsKept}
use Rattle.cd_empty.proofs.EachAt.{one_at}

-- one more has an element
have_longer : (decider : Decider) (ids : List ElementId) (questions : List Question) (id : ElementId) (question : Question)
    → HaveElements decider ids questions → IsKept (kept decider) question (Inhabited id)
    → HaveElements decider (ids ++ id ∷ []) (questions ++ question ∷ [])
have_longer decider [] [] id question have is = (is, tt)
have_longer decider (other ∷ ids) (one ∷ questions) id question have is =
    (have.0, have_longer decider ids questions id question have.1 is)
have_longer decider [] (one ∷ questions) id question have is = absurd have
have_longer decider (other ∷ ids) [] id question have is = absurd have

-- the questions up to a place, and the one at it
take_one_more : (questions : List Question) (place : ℕ) (question : Question) → place < length questions
    → take (suc place) questions ≡ take place questions ++ get_or questions place question ∷ []
take_one_more [] place question within = absurd (omega arith)
take_one_more (one ∷ questions) zero question within = refl
take_one_more (one ∷ questions) (suc place) question within =
    ap (λ (rest : List Question). one ∷ rest) (take_one_more questions place question (omega arith))

pub have_one_more : (decider : Decider) (ids : List ElementId) (questions : List Question) (place : ℕ) (id : ElementId)
    (question other : Question) → place < length questions → question ≡ get_or questions place other
    → HaveElements decider ids (take place questions) → IsKept (kept decider) question (Inhabited id)
    → HaveElements decider (ids ++ id ∷ []) (take (suc place) questions)
have_one_more decider ids questions place id question other within at have is =
    subst (HaveElements decider (ids ++ id ∷ [])) (sym (take_one_more questions place other within))
    (have_longer decider ids (take place questions) id (get_or questions place other) have
    (subst (λ (question : Question). IsKept (kept decider) question (Inhabited id)) at is))

-- the one at a place is known to have none
pub one_subsumed : (decider : Decider) (questions : List Question) (place : ℕ) (question other : Question) → place < length questions
    → question ≡ get_or questions place other → IsSubsumed question (known decider)
    → AnyOf (λ question. IsSubsumed question (known decider)) questions
one_subsumed decider questions place question other within at is =
    one_at (λ question. IsSubsumed question (known decider)) questions place other
    (subst (λ (question : Question). IsSubsumed question (known decider)) at is) within

-- it is one of them
pub one_there : (questions : List Question) (place : ℕ) (question other copy : Question) → place < length questions
    → question ≡ get_or questions place other → copy ≡ question → AnyOf (λ one. one ≡ copy) questions
one_there questions place question other copy within at same =
    one_at (λ one. one ≡ copy) questions place other (sym at ∙ sym same) within
