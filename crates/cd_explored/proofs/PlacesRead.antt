-- The place of a number that is looked up, and the formula of its question.
use Rattle.std.proofs.Common.{◌≡◌, ℕ, zero, suc, List, [], ◌∷◌, Option, Some, None, Result, Ok, Err, length, refl, sym, ap, subst, ◌∙◌}
use Rattle.std.proofs.lemmas.Option.{none-some, same_Some, slice_get-map}
use Rattle.std.specs.List.{slice_get}
use Rattle.std.specs.Option.{option_map}
use Rattle.std.specs.Result.{IfOk}
use Rattle.std.specs.declared.alloc.AllocError.{AllocError}
use Rattle.cd_model.specs.AllOf.{AllOf}
use Rattle.cd_model.specs.Formula.{Formula, Nothing}
use Rattle.cd_model.proofs.ByNumber.{all_got}
use Rattle.cd_graph.specs.PlainFormula.{plain}
use Rattle.cd_graph.specs.declared.formula.Formula.{Formula as CodeFormula}
use Rattle.cd_rules.specs.Family.{AsksNodes}
use Rattle.cd_products.specs.Keeping.{IsFormulaOfQuestion}
use Rattle.cd_filter.specs.Table.{Place}
use Rattle.cd_explored.specs.declared.place.Place.{Place as CodePlace}
use Rattle.cd_explored.specs.Inner.Made.{IsComing}
use Rattle.cd_explored.specs.Inner.Plan.{Plan}
use Rattle.cd_explored.specs.Inner.PlainSteps.{plain_place, plain_places}

pub place_there : (places : List CodePlace) (number : ℕ) (place : CodePlace)
    → Some place ≡ slice_get places number
    → slice_get (plain_places places) number ≡ Some (plain_place place)
place_there places number place is =
    slice_get-map plain_place places number ∙ ap (option_map plain_place) (sym is)

pub place_past : (places : List CodePlace) (number : ℕ) → None ≡ slice_get places number
    → slice_get (plain_places places) number ≡ None
place_past places number is =
    slice_get-map plain_place places number ∙ ap (option_map plain_place) (sym is)

-- places that are there once are there once as plain data
same_code : (one other : CodePlace) → plain_place one ≡ plain_place other → one ≡ other
same_code one other same = λ i. record { number = (same i).number; question = (same i).question }

got_plain : (places : List CodePlace) (number : ℕ) (place : Place)
    → slice_get (plain_places places) number ≡ Some place
    → (code : CodePlace) × (slice_get places number ≡ Some code) × (plain_place code ≡ place)
got_plain [] number place is = absurd (none-some place is)
got_plain (code ∷ places) zero place is = (code, refl, same_Some (plain_place code) place is)
got_plain (code ∷ places) (suc number) place is = got_plain places number place is

pub places_once : (places : List CodePlace) → ((one other : ℕ) (place : CodePlace)
    → slice_get places one ≡ Some place → slice_get places other ≡ Some place → one ≡ other)
    → (one other : ℕ) (place : Place) → slice_get (plain_places places) one ≡ Some place
    → slice_get (plain_places places) other ≡ Some place → one ≡ other
places_once places once one other place is same =
    let first = got_plain places one place is in
    let second = got_plain places other place same in
    once one other first.0 first.1
    (second.1 ∙ ap Some (same_code second.0 first.0 (second.2 ∙ sym first.2)))

module _ (plan : Plan) where
  pub asks_there : (number : ℕ) (place : Place) → slice_get plan.places number ≡ Some place
      → AllOf (λ place. AsksNodes (length plan.graph) place.question) plan.places
      → AsksNodes (length plan.graph) place.question
  asks_there number place there asks = all_got
      (λ place. AsksNodes (length plan.graph) place.question) plan.places number place asks there

  pub coming_made : (number : ℕ) (place : Place) → slice_get plan.places number ≡ Some place
      → (result : Result CodeFormula AllocError)
      → IfOk result (λ formula. IsFormulaOfQuestion plan.graph place.question (plain formula))
      → IfOk result (λ formula. IsComing plan (slice_get plan.places number) (plain formula))
  coming_made number place there (Ok formula) is =
      subst (λ (found : Option Place). IsComing plan found (plain formula)) (sym there) is
  coming_made number place there (Err error) is = tt

  pub coming_past : (number : ℕ) (f : Formula) → slice_get plan.places number ≡ None → f ≡ Nothing
      → IsComing plan (slice_get plan.places number) f
  coming_past number f there none =
      subst (λ (found : Option Place). IsComing plan found f) (sym there) none
