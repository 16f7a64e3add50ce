-- Questions under numbers, to which steps add those that rests are asked.
use Rattle.std.specs.Prelude.{◌≡◌, ◌⊎◌, ◌++◌, List, Some}
use Rattle.std.specs.List.{slice_get, AllZip}
use Rattle.cd_sets.specs.declared.question.Question.{Question}
use Rattle.cd_model.specs.AllOf.{AnyOf}
use Rattle.cd_forms.specs.declared.of_sequences.step.Step.{Step}

abbrev pub IsAmong : {X : Type 0} → List X → X → Type 0
IsAmong xs x = AnyOf (λ other. other ≡ x) xs

-- the questions are there, and others may come after them
abbrev pub GrowTo : List Question → List Question → Type 0
GrowTo old new = (more : List Question) × (new ≡ old ++ more)

-- the step of a product: what its first question asks, and the number of its second question
abbrev pub IsStepOf : List Question → Step → Question × Question → Type 0
IsStepOf questions step product =
    (step.item ≡ product.0) × (slice_get questions step.rest ≡ Some product.1)

-- the questions have grown by those of the products, whose steps are these
pub record AreNumbered (old new : List Question) (steps : List Step)
    (products : List (Question × Question)) : Type 0 where
  pub grown : GrowTo old new
  pub numbered : AllZip (IsStepOf new) steps products
  pub second : (question : Question) → IsAmong new question
      → IsAmong old question ⊎ AnyOf (λ product. product.1 ≡ question) products
