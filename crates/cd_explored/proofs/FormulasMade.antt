-- Formulas are made for wants, one by one, and are those of a graph.
use Rattle.std.proofs.Common.{◌≡◌, ◌<◌, ◌≤◌, ◌+◌, ℕ, List, [], ◌∷◌, ◌++◌, map, length, Option, Some, None}
use Rattle.std.proofs.Common.{sym, ap, subst, ◌∙◌, arith, length-append, codes}
use Rattle.std.proofs.lemmas.List.{length-map, length_push, map-append}
use Rattle.std.proofs.lemmas.Option.{slice_get_within}
use Rattle.std.specs.List.{slice_get, AllZip}
use Rattle.cd_syntax.specs.Name.{first}
use Rattle.cd_syntax.specs.declared.constant.Constant.{Constant}
use Rattle.cd_syntax.specs.declared.constant.Constant.TheVariants as constant
use Rattle.cd_model.specs.AllOf.{AllOf}
use Rattle.cd_model.specs.BuiltIns.{atoms_of}
use Rattle.cd_model.specs.Formula.{Formula}
use Rattle.cd_model.specs.Formula.{IsFormula, AreFormulas}
use Rattle.cd_model.specs.Formula.{formulas_of}
use Rattle.cd_model.specs.Thing.{IsElement}
use Rattle.cd_graph.specs.PlainFormula.{plain}
use Rattle.cd_graph.specs.declared.formula.Formula.{Formula as CodeFormula}
use Rattle.cd_matching.specs.Sequences.{thing_of}
use Rattle.cd_model.proofs.ByNumber.{each_got, got_some, past_end}
use Rattle.cd_model.proofs.FormulasAmongMore.{formula_among_more}
use Rattle.cd_model.proofs.SoundBuiltIns.{nil_is_label}
use Rattle.cd_filter.specs.Table.{Place}
use Rattle.cd_explored.specs.declared.givers.Giver.{Giver}
use Rattle.cd_explored.specs.declared.step.Step.{Step}
use Rattle.cd_explored.specs.declared.step.Step.TheVariants as step
use Rattle.cd_explored.specs.declared.want.Want.{Want}
use Rattle.cd_explored.specs.declared.want.Want.TheVariants.{Comes, Captures, Text, Character}
use Rattle.cd_explored.specs.Inner.Givers.{givers_of}
use Rattle.cd_explored.specs.Inner.Made.{IsPairOf, IsComing, IsText, IsConstant, IsPut, IsGiven}
use Rattle.cd_explored.specs.Inner.Made.{IsMember, IsMade, AreMade, text_at}
use Rattle.cd_explored.specs.Inner.Plan.{Plan, IsSoundPlan, IsSoundStep}
use Rattle.cd_explored.specs.Inner.Wanted.{GrowTo}
use Rattle.cd_explored.proofs.GiversFound.{sound_givers}
use Rattle.cd_explored.proofs.GrowingWants.{made_more}

module _ (plan : Plan) (old new : List Want) (grow : GrowTo old new) (batch after : List CodeFormula)
    (formula : CodeFormula) (put : after ≡ batch ++ formula ∷ []) (want : Want)
    (next : slice_get old (length batch) ≡ Some want) where
  pub batch_more : IsMade plan new want (plain formula) → AreMade plan old (map plain batch)
      → AreMade plan new (map plain after)
  batch_more made before = subst (AreMade plan new)
      (sym (ap (map plain) put ∙ map-append plain batch (formula ∷ [])))
      (made_more plan old new grow (map plain batch) want (plain formula) before
      (subst (λ (k : ℕ). slice_get old k ≡ Some want) (sym (length-map batch plain)) next) made)

  pub count_more : length after ≤ length new
  count_more = let below = slice_get_within old (length batch) want next in
      let longer = ap length grow.1 ∙ length-append old grow.0 in
      omega (arith, below, longer, ap length put ∙ length_push batch formula)

-- nothing is wanted further
pub batch_ends : (wants : List Want) (batch : List CodeFormula) → length batch ≤ length wants
    → slice_get wants (length batch) ≡ None → length (map plain batch) ≡ length wants
batch_ends wants batch within none = omega (arith, length-map batch plain, within, past)
  where
    past : length wants ≤ length batch
    past = past_end wants (length batch) none

module _ (plan : Plan) (sound : IsSoundPlan plan) (wants : List Want)
    (first_is : plan.first ≡ length plan.graph) where
  abbrev Sound : Formula → Type 0
  Sound = IsFormula (length plan.graph + length wants)

  pair_sound : (one other : Want) (f : Formula) → IsPairOf plan wants one other f → Sound f
  pair_sound one other f (a, b, (n, at_n, is_a), (m, at_m, is_b), is) = subst Sound (sym is) (
    subst (λ id. id.0 < length plan.graph + length wants) (sym is_a)
        (omega (arith, first_is, slice_get_within wants n one at_n)),
    subst (λ id. id.0 < length plan.graph + length wants) (sym is_b)
        (omega (arith, first_is, slice_get_within wants m other at_m)),
  )

  coming_sound : (found : Option Place) (f : Formula) → IsComing plan found f → Sound f
  coming_sound None f is = subst Sound (sym is) tt
  coming_sound (Some place) f is = formula_among_more (length plan.graph)
      (length plan.graph + length wants) (omega arith) f is.sound

  nil_sound : (f : Formula) → f ≡ atoms_of (codes "nil" ∷ []) → Sound f
  nil_sound f is = subst Sound (sym is) (nil_is_label, tt)

  text_sound : (number next : ℕ) (c : Option ℕ) (f : Formula) → IsText plan wants number next c f → Sound f
  text_sound number next None f is = nil_sound f is
  text_sound number next (Some c) f is = pair_sound (Character c) (Text number next) f is

  constant_sound : (number : ℕ) (is : Constant) (f : Formula) → IsElement (thing_of is)
      → IsConstant plan wants number is f → Sound f
  constant_sound number (constant.Int n) f element made = subst Sound (sym made) tt
  constant_sound number (constant.Char c) f element made = subst Sound (sym made) tt
  constant_sound number (constant.Atom name) f element made = subst Sound (sym made) (element, tt)
  constant_sound number (constant.Text text) f element made = text_sound number 1 (first text) f made
  constant_sound number constant.Nil f element made = nil_sound f made

  put_sound : (found : Option Place) (is : Constant) (f : Formula) → IsElement (thing_of is)
      → IsPut plan wants found is f → Sound f
  put_sound None is f element made = subst Sound (sym made) tt
  put_sound (Some place) is f element made = constant_sound place.number is f element made

  given_sound : (variable number : ℕ) (is : Step) (f : Formula) → IsSoundStep is
      → IsGiven plan wants variable number is f → Sound f
  given_sound variable number (step.Takes other) f element made =
      coming_sound (slice_get plan.places number) f made
  given_sound variable number (step.Puts other constant) f element made =
      put_sound (slice_get plan.places number) constant.now f element made
  given_sound variable number (step.Leads but next) f element made = subst Sound (sym made) tt
  given_sound variable number (step.Gathers other item next) f element made =
      pair_sound (Comes item) (Captures variable next) f made

  members_sound : (variable : ℕ) (givers : List Giver) (members : List Formula)
      → AllOf (λ giver. IsSoundStep giver.step) givers
      → AllZip (IsMember plan wants variable) givers members
      → AreFormulas (length plan.graph + length wants) (formulas_of members)
  members_sound variable [] [] sound all = tt
  members_sound variable [] (f ∷ members) sound all = absurd all
  members_sound variable (giver ∷ givers) [] sound all = tt
  members_sound variable (giver ∷ givers) (f ∷ members) sound all = (
    given_sound variable giver.number giver.step f sound.0 all.0,
    members_sound variable givers members sound.1 all.1,
  )

  made_sound : (want : Want) (f : Formula) → IsMade plan wants want f → Sound f
  made_sound (Comes number) f made = coming_sound (slice_get plan.places number) f made
  made_sound (Captures variable number) f (numbers, reach, all, (members, zip, is)) =
      subst Sound (sym is) (members_sound variable (givers_of variable plan.rows numbers) members
      (sound_givers variable plan.rows sound.constants numbers) zip)
  made_sound (Text number from) f made =
      text_sound number (from + 1) (slice_get (text_at plan number) from) f made
  made_sound (Character c) f made = subst Sound (sym made) tt

  pub batch_sound : (batch : List Formula) → AreMade plan wants batch → length batch ≡ length wants
      → AllOf (IsFormula (length plan.graph + length batch)) batch
  batch_sound batch are count =
      subst (λ (n : ℕ). AllOf (IsFormula (length plan.graph + n)) batch) (sym count)
      (each_got Sound batch (λ k f is.
      let found = got_some wants k (omega (arith, count, slice_get_within batch k f is)) in
      made_sound found.0 f (are k found.0 f found.1 is)))
