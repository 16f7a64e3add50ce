use Rattle.std.proofs.Common.{◌≡◌, ◌++◌, ◌∷◌, [], List, None, Some, sym, subst, ◌∙◌, ap, append_assoc}
use Rattle.cd_explored.specs.Inner.NumberedSteps.{AreNumbered}
use Rattle.cd_explored.specs.Inner.PlainSteps.{plain_place, plain_places, steps_of}
use Rattle.cd_explored.specs.declared.lead.Lead.{Lead}
use Rattle.cd_explored.specs.declared.step.Step.{Step as CodeStep}
use Rattle.cd_explored.specs.declared.step.Step.TheVariants as step
use Rattle.cd_explored.proofs.PlacesAdded.{is_added}
use Rattle.cd_explored.proofs.StepsNumbered.{leads_numbered, gathers_numbered}
use Rattle.cd_explored.proofs.numbering.number.Goals as goal

-- three are added, one after another
three_pushed : {X : Type 0} (xs one two three : List X) (x y z : X) → one ≡ xs ++ x ∷ []
    → two ≡ one ++ y ∷ [] → three ≡ two ++ z ∷ [] → three ≡ xs ++ x ∷ y ∷ z ∷ []
three_pushed xs one two three x y z first second third = third
    ∙ ap (λ all. all ++ z ∷ []) (second ∙ ap (λ all. all ++ y ∷ []) first)
    ∙ append_assoc (xs ++ x ∷ []) (y ∷ []) (z ∷ []) ∙ append_assoc xs (x ∷ []) (y ∷ z ∷ [])

pub returns-in_ok-push-in-Leads : goal.returns-in_ok-push-in-Leads
returns-in_ok-push-in-Leads c =
    let number = c.in_ok-next-in-Leads.next in (
      step.Leads None number ∷ [],
      c.in_ok-push-in-Leads.ensures.items,
      subst (λ (lead : Lead). AreNumbered (plain_places c.args.places.now)
          (plain_places c.number.new.self) (step.Leads None number ∷ []) (steps_of lead))
          (sym c.in-Leads.is)
          (leads_numbered (plain_places c.args.places.now) (plain_places c.number.new.self) number
          (plain_place c.in-Leads.next)
          (is_added c.args.places.now c.number.new.self number c.in-Leads.next
          c.in_ok-next-in-Leads.ensures.found c.in_ok-next-in-Leads.ensures.grows)),
    )

pub returns-in_ok-push-in-Gathers-3 : goal.returns-in_ok-push-in-Gathers-3
returns-in_ok-push-in-Gathers-3 c =
    let old = plain_places c.args.places.now in
    let mid = plain_places c.number-in-Gathers.new.self in
    let new = plain_places c.number-in-Gathers-2.new.self in
    let variable = c.in-Gathers.variable in
    let item = c.in_ok-item-in-Gathers.item in
    let number = c.in_ok-next-in-Gathers.next in
    let more : List CodeStep = step.Leads None item ∷ step.Leads (Some variable) number
    ∷ step.Gathers variable item number ∷ [] in (
      more,
      three_pushed c.args.steps.now.items c.push-in-Gathers.new.self.items
          c.push-in-Gathers-2.new.self.items c.push-in-Gathers-3.new.self.items
          (step.Leads None item) (step.Leads (Some variable) number)
          (step.Gathers variable item number) c.in_ok-push-in-Gathers.ensures.items
          c.in_ok-push-in-Gathers-2.ensures.items c.in_ok-push-in-Gathers-3.ensures.items,
      subst (λ (lead : Lead). AreNumbered old new more (steps_of lead)) (sym c.in-Gathers.is)
          (gathers_numbered old mid new variable item number (plain_place c.in-Gathers.item)
          (plain_place c.in-Gathers.next)
          (is_added c.args.places.now c.number-in-Gathers.new.self item c.in-Gathers.item
          c.in_ok-item-in-Gathers.ensures.found c.in_ok-item-in-Gathers.ensures.grows)
          (is_added c.number-in-Gathers.new.self c.number-in-Gathers-2.new.self number
          c.in-Gathers.next c.in_ok-next-in-Gathers.ensures.found
          c.in_ok-next-in-Gathers.ensures.grows)),
    )
