use Rattle.std.proofs.Common.{◌≡◌, ◌∙◌, ◌++◌, ◌∷◌, [], List, length, map, ap, sym, subst}
use Rattle.std.proofs.lemmas.List.{map-append}
use Rattle.cd_rules.specs.Family.{AsksNodes}
use Rattle.cd_empty.specs.Seen.{graph_of}
use Rattle.cd_records.specs.Inner.Leaving.{Choice, IsAddedIf, leave, take}
use Rattle.cd_records.specs.Inner.Plain.{plain_choice, plain_questions}
use Rattle.cd_records.proofs.AskNodes.{both_ask}
use Rattle.cd_records.proofs.LoopsOfChoices.{step_added}
use Rattle.cd_records.proofs.splitting.add_steps.Goals as goal

pub add_inhabited-requires : goal.add_inhabited-requires
add_inhabited-requires c = let nodes = length (graph_of c.args.world.now) in
    subst (AsksNodes nodes) (sym c.in_ok-both.ensures)
    (both_ask nodes c.args.choice.now.taken c.args.question.now c.requires.choice.0
    c.requires.question)

pub returns-clause-step : goal.returns-clause-step
returns-clause-step c =
    let graph = graph_of c.args.world.now in
    let question = c.args.question.now in
    let choice = plain_choice c.args.choice.now in
    let old = map plain_choice c.args.all.now.items in
    let mid = map plain_choice c.add_inhabited.new.all.items in
    let taken : _ ≡ take question choice = λ i. record {
      taken = c.in_ok-both.ensures i;
      left = (ap plain_questions (c.in_ok-from_slice.ensures.items ∙ c.as_slice.ensures.value)) i;
    } in
    let left : _ ≡ leave question choice = λ i. record {
      taken = c.in_ok-copy.ensures i;
      left = (ap plain_questions (c.in_ok-push.ensures.items)
          ∙ (map-append (λ one. one.now) c.in_ok-left.left.items (c.args.question ∷ [])
          ∙ ap (λ those. plain_questions those ++ question ∷ [])
          (c.in_ok-left.ensures.items ∙ c.as_slice-2.ensures.value))) i;
    } in
    step_added graph question choice old mid (map plain_choice c.push-2.new.self.items)
    (subst (λ (one : Choice). IsAddedIf graph one old mid) taken
    c.in_ok-add_inhabited.ensures.added)
    (ap (map plain_choice) c.in_ok-push-2.ensures.items
    ∙ (map-append plain_choice c.add_inhabited.new.all.items _
    ∙ ap (λ (one : Choice). mid ++ one ∷ []) left))
