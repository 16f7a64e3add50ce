use Rattle.std.proofs.Common.{◌≤◌, List, length, refl, ap, subst, ◌∙◌, arith, length-append}
use Rattle.cd_graph.specs.Nodes.{nodes}
use Rattle.cd_model.specs.BuiltIns.{built_ins}
use Rattle.cd_normal.specs.Partials.{partials}
use Rattle.cd_rules.specs.Family.{AsksNodes}
use Rattle.cd_rules.proofs.Among.{of_each}
use Rattle.cd_sets.specs.declared.question.Question.{Question}
use Rattle.cd_empty.specs.Inner.Looking.{AreParts}
use Rattle.cd_empty.specs.Inner.PlainFrame.{known}
use Rattle.cd_empty.proofs.NeedsLookedAt.{cut_by}
use Rattle.cd_empty.proofs.decider.Decider.look_at_needs.Goals as goal
use Rattle.cd_empty.proofs.decider.Decider.look_at_needs.Goals.{In_ok-parts}

-- what is known of the questions
looked : (c : In_ok-parts) → AreParts c.args.self.now c.in-Some.questions.items c.in_ok-parts.field-0
looked c = subst (λ (questions : List Question). AreParts c.args.self.now questions c.in_ok-parts.field-0)
    c.as_slice.ensures.value c.in_ok-parts.ensures

pub returns-in-Missing : goal.returns-in-Missing
returns-in-Missing c =
    let needed = rw c.in-Some.is at c.in_ok-questions.ensures.needed in
    cut_by (known c.args.self.now) (partials c.args.conjuncts.now) (partials c.cut.new.self) c.in-Some.questions.items c.cut.ensures needed
    (subst (AreParts c.args.self.now c.in-Some.questions.items) c.in-Missing.is (looked (goal.at.returns-in-Missing c).In_ok-parts))

pub returns-in-Unknown : goal.returns-in-Unknown
returns-in-Unknown c =
    let begins = c.knows.ensures.built_in in
    let long = ap length begins.1 ∙ length-append built_ins begins.0 in
    let count = length (nodes c.args.graph.now) in
    let enough : 14 ≤ count = omega arith in
    let asks = rw c.in-Some.is at c.in_ok-questions.ensures.asks in
    let is = subst (AreParts c.args.self.now c.in-Some.questions.items) c.in-Unknown.is (looked (goal.at.returns-in-Unknown c).In_ok-parts) in
    (refl, is.1, of_each (AsksNodes count) c.in-Some.questions.items c.in-Unknown.question (asks count enough c.requires) is.0)
