-- What is made for wants stays so while others come after them.
use Rattle.std.proofs.Common.{◌≡◌, ◌<◌, ◌+◌, ◌⊎◌, inl, inr, ℕ, List, [], ◌∷◌, ◌++◌, Option, Some, None}
use Rattle.std.proofs.Common.{length, ap, subst, sym, ◌∙◌, arith, append_assoc, append-nil}
use Rattle.std.proofs.lemmas.Option.{same_Some, slice_get_within}
use Rattle.std.specs.List.{slice_get, AllZip}
use Rattle.cd_sets.specs.declared.node_id.NodeId.{NodeId}
use Rattle.cd_syntax.specs.Name.{first}
use Rattle.cd_syntax.specs.declared.constant.Constant.{Constant}
use Rattle.cd_syntax.specs.declared.constant.Constant.TheVariants as constant
use Rattle.cd_model.specs.Formula.{Formula}
use Rattle.cd_model.proofs.ByNumber.{got_more, got_pushed, zip_weaker}
use Rattle.cd_filter.specs.Table.{Place}
use Rattle.cd_explored.specs.declared.givers.Giver.{Giver}
use Rattle.cd_explored.specs.declared.step.Step.{Step}
use Rattle.cd_explored.specs.declared.step.Step.TheVariants as step
use Rattle.cd_explored.specs.declared.want.Want.{Want}
use Rattle.cd_explored.specs.declared.want.Want.TheVariants.{Comes, Captures, Text, Character}
use Rattle.cd_explored.specs.Inner.Givers.{givers_of}
use Rattle.cd_explored.specs.Inner.Made.{IsNodeOfWant, IsPairOf, IsText, IsConstant, IsPut, IsGiven}
use Rattle.cd_explored.specs.Inner.Made.{IsMember, IsMade, AreMade, text_at}
use Rattle.cd_explored.specs.Inner.Plan.{Plan}
use Rattle.cd_explored.specs.Inner.Wanted.{GrowTo}
use Rattle.cd_explored.proofs.Listed.{got_before}

pub grow_itself : (wants : List Want) → GrowTo wants wants
grow_itself wants = ([], sym (append-nil wants))

pub grow_then : (wants others all : List Want) → GrowTo wants others → GrowTo others all
    → GrowTo wants all
grow_then wants others all (more, are) (later, follow) =
    (more ++ later, follow ∙ ap (λ some. some ++ later) are ∙ append_assoc wants more later)

pub grow_one : (want : Want) (old new : List Want) → (new ≡ old) ⊎ (new ≡ old ++ want ∷ [])
    → GrowTo old new
grow_one want old new (inl same) = ([], same ∙ sym (append-nil old))
grow_one want old new (inr one) = (want ∷ [], one)

pub still_wanted : (old new : List Want) → GrowTo old new → (number : ℕ) (want : Want)
    → slice_get old number ≡ Some want → slice_get new number ≡ Some want
still_wanted old new (more, are) number want is =
    subst (λ (wants : List Want). slice_get wants number ≡ Some want) (sym are)
    (got_more old more number want is)

module _ (plan : Plan) (old new : List Want) (grow : GrowTo old new) where
  pub node_stays : (id : NodeId) (want : Want) → IsNodeOfWant plan old id want
      → IsNodeOfWant plan new id want
  node_stays id want (number, there, is) = (number, still_wanted old new grow number want there, is)

  pub pair_stays : (one other : Want) (f : Formula) → IsPairOf plan old one other f
      → IsPairOf plan new one other f
  pair_stays one other f (first, second, is_first, is_second, is) =
      (first, second, node_stays first one is_first, node_stays second other is_second, is)

  pub text_stays : (number next : ℕ) (c : Option ℕ) (f : Formula)
      → IsText plan old number next c f → IsText plan new number next c f
  text_stays number next None f is = is
  text_stays number next (Some c) f is = pair_stays (Character c) (Text number next) f is

  constant_stays : (number : ℕ) (is : Constant) (f : Formula) → IsConstant plan old number is f
      → IsConstant plan new number is f
  constant_stays number (constant.Int n) f made = made
  constant_stays number (constant.Char c) f made = made
  constant_stays number (constant.Atom name) f made = made
  constant_stays number (constant.Text text) f made = text_stays number 1 (first text) f made
  constant_stays number constant.Nil f made = made

  put_stays : (place : Option Place) (is : Constant) (f : Formula) → IsPut plan old place is f
      → IsPut plan new place is f
  put_stays None is f made = made
  put_stays (Some place) is f made = constant_stays place.number is f made

  given_stays : (variable number : ℕ) (is : Step) (f : Formula)
      → IsGiven plan old variable number is f → IsGiven plan new variable number is f
  given_stays variable number (step.Takes other) f made = made
  given_stays variable number (step.Puts other constant) f made =
      put_stays (slice_get plan.places number) constant.now f made
  given_stays variable number (step.Leads but next) f made = made
  given_stays variable number (step.Gathers other item next) f made =
      pair_stays (Comes item) (Captures variable next) f made

  pub members_stay : (variable : ℕ) (givers : List Giver) (members : List Formula)
      → AllZip (IsMember plan old variable) givers members
      → AllZip (IsMember plan new variable) givers members
  members_stay variable givers members all = zip_weaker (IsMember plan old variable)
      (IsMember plan new variable)
      (λ giver f made. given_stays variable giver.number giver.step f made) givers members all

  made_stays : (want : Want) (f : Formula) → IsMade plan old want f → IsMade plan new want f
  made_stays (Comes number) f made = made
  made_stays (Captures variable number) f (numbers, sound, whole, (members, are, is)) = (
    numbers,
    sound,
    whole,
    (members, members_stay variable (givers_of variable plan.rows numbers) members are, is),
  )
  made_stays (Text number from) f made =
      text_stays number (from + 1) (slice_get (text_at plan number) from) f made
  made_stays (Character c) f made = made

  -- formulas with one more, which is made for the next want
  pub made_more : (formulas : List Formula) (want : Want) (f : Formula) → AreMade plan old formulas
      → slice_get old (length formulas) ≡ Some want → IsMade plan new want f
      → AreMade plan new (formulas ++ f ∷ [])
  made_more formulas want f made next is number other g there got =
      elim (got_pushed formulas f number g got) [
        | inl before ↦ of_old number other g there before
        | inr last ↦ of_last number other g there last.0 last.1
      ]
    where
      in_old : (number : ℕ) (other : Want) → number < length old
          → slice_get new number ≡ Some other → slice_get old number ≡ Some other
      in_old number other below there = got_before old grow.0 number other below
          (subst (λ (wants : List Want). slice_get wants number ≡ Some other) grow.1 there)

      of_old : (number : ℕ) (other : Want) (g : Formula) → slice_get new number ≡ Some other
          → slice_get formulas number ≡ Some g → IsMade plan new other g
      of_old number other g there before = made_stays other g (made number other g
          (in_old number other (omega (
            arith,
            slice_get_within formulas number g before,
            slice_get_within old (length formulas) want next,
          )) there) before)

      of_last : (number : ℕ) (other : Want) (g : Formula) → slice_get new number ≡ Some other
          → number ≡ length formulas → f ≡ g → IsMade plan new other g
      of_last number other g there last same =
          let here = subst (λ (k : ℕ). slice_get new k ≡ Some other) last there in
          let wanted = same_Some want other
          (sym (still_wanted old new grow (length formulas) want next) ∙ here) in
          subst (λ (one : Want). IsMade plan new one g) wanted
          (subst (IsMade plan new want) same is)
