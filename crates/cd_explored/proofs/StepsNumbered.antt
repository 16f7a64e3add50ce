-- Steps under the numbers of their places stay so while places are added.
use Rattle.std.proofs.Common.{◌≡◌, ◌⊎◌, inl, inr, ℕ, List, [], ◌∷◌, ◌++◌, Some, None}
use Rattle.std.proofs.Common.{refl, sym, subst, ◌∙◌, ap, append_assoc, append-nil}
use Rattle.std.specs.List.{slice_get}
use Rattle.cd_model.proofs.ByNumber.{got_more}
use Rattle.cd_model.proofs.Ones.{one_on_left, one_on_right}
use Rattle.cd_filter.specs.Table.{Place, Step, Leads, Gathers}
use Rattle.cd_explored.specs.Inner.NumberedSteps.{IsNumbered, GrowTo, LeadsTo, AreNumbered}
use Rattle.cd_explored.specs.Inner.PlainSteps.{IsStep, AreSteps}
use Rattle.cd_explored.specs.declared.step.Step.{Step as CodeStep}
use Rattle.cd_explored.specs.declared.step.Step.TheVariants as step

-- a place keeps its number
pub grown_there : (old new : List Place) (number : ℕ) (place : Place) → GrowTo old new
    → slice_get old number ≡ Some place → slice_get new number ≡ Some place
grown_there old new number place (more, same) there =
    subst (λ (places : List Place). slice_get places number ≡ Some place) (sym same)
    (got_more old more number place there)

pub grow_not : (places : List Place) → GrowTo places places
grow_not places = ([], sym (append-nil places))

pub grow_then : (old mid new : List Place) → GrowTo old mid → GrowTo mid new → GrowTo old new
grow_then old mid new (first, one) (then, other) =
    (first ++ then, other ∙ ap (λ places. places ++ then) one ∙ append_assoc old first then)

-- so steps stay right
step_still : (old new : List Place) → GrowTo old new → (code : CodeStep) (is : Step)
    → IsStep old code is → IsStep new code is
step_still old new grow (step.Takes variable) is right = right
step_still old new grow (step.Puts variable constant) is right = right
step_still old new grow (step.Leads but number) is (next, there, same) =
    (next, grown_there old new number next grow there, same)
step_still old new grow (step.Gathers variable item number) is (first, next, there, then, same) = (
  first,
  next,
  grown_there old new item first grow there,
  grown_there old new number next grow then,
  same,
)

pub steps_still : (old new : List Place) → GrowTo old new → (codes : List CodeStep)
    (steps : List Step) → AreSteps old codes steps → AreSteps new codes steps
steps_still old new grow [] steps are = are
steps_still old new grow (code ∷ codes) [] are = absurd are
steps_still old new grow (code ∷ codes) (is ∷ steps) are =
    (step_still old new grow code is are.0, steps_still old new grow codes steps are.1)

steps_then : (places : List Place) (codes others : List CodeStep) (steps more : List Step)
    → AreSteps places codes steps → AreSteps places others more
    → AreSteps places (codes ++ others) (steps ++ more)
steps_then places [] others steps more are then =
    subst (λ (steps : List Step). AreSteps places others (steps ++ more)) (sym are) then
steps_then places (code ∷ codes) others [] more are then = absurd are
steps_then places (code ∷ codes) others (is ∷ steps) more are then =
    (are.0, steps_then places codes others steps more are.1 then)

-- steps after others
pub numbered_then : (old mid new : List Place) (codes others : List CodeStep)
    (steps more : List Step) → AreNumbered old mid codes steps → AreNumbered mid new others more
    → AreNumbered old new (codes ++ others) (steps ++ more)
numbered_then old mid new codes others steps more one other = record {
  grown = grow_then old mid new one.grown other.grown;
  numbered = steps_then new codes others steps more
      (steps_still mid new other.grown codes steps one.numbered) other.numbered;
  led = λ place there. elim (other.led place there) [
    | inl before ↦ elim (one.led place before) [
      | inl first ↦ inl first
      | inr led ↦ inr (one_on_left (LeadsTo place) steps more led)
    ]
    | inr led ↦ inr (one_on_right (LeadsTo place) steps more led)
  ];
}

-- the place has a number, and no other one is added
pub record IsAdded (old new : List Place) (number : ℕ) (place : Place) : Type 0 where
  pub found : slice_get new number ≡ Some place
  pub grown : GrowTo old new
  pub led : (other : Place) → IsNumbered new other → IsNumbered old other ⊎ (place ≡ other)

-- steps to added places
pub leads_numbered : (old new : List Place) (number : ℕ) (place : Place)
    → IsAdded old new number place
    → AreNumbered old new (step.Leads None number ∷ []) (Leads None place ∷ [])
leads_numbered old new number place added = record {
  grown = added.grown;
  numbered = ((place, added.found, refl), refl);
  led = λ other there. elim (added.led other there) [
    | inl before ↦ inl before
    | inr same ↦ inr (inl same)
  ];
}

pub gathers_numbered : (old mid new : List Place) (variable item number : ℕ)
    (first next : Place) → IsAdded old mid item first → IsAdded mid new number next
    → AreNumbered old new (step.Leads None item ∷ step.Leads (Some variable) number
    ∷ step.Gathers variable item number ∷ []) (Leads None first ∷ Leads (Some variable) next
    ∷ Gathers variable first.question next ∷ [])
gathers_numbered old mid new variable item number first next one other =
    let there = grown_there mid new item first other.grown one.found in record {
      grown = grow_then old mid new one.grown other.grown;
      numbered = (
        (first, there, refl),
        ((next, other.found, refl), ((first, next, there, other.found, refl), refl)),
      );
      led = λ place numbered. elim (other.led place numbered) [
        | inl before ↦ elim (one.led place before) [
          | inl first ↦ inl first
          | inr same ↦ inr (inl same)
        ]
        | inr same ↦ inr (inr (inl same))
      ];
    }
