use Rattle.std.proofs.Common.{ap, subst, ◌∙◌}
use Rattle.std.proofs.lemmas.Result.{IfOk-weaker}
use Rattle.std.specs.List.{remove}
use Rattle.cd_tasks.specs.Inner.Groups.{IsGroupAt}
use Rattle.cd_tasks.proofs.GroupCases.{are_pair_cases, pair_left}
use Rattle.cd_tasks.proofs.task.PairTask.cases.Goals as goal

pub returns-clause-cases : goal.returns-clause-cases
returns-clause-cases c =
    let left = c.as_slice.ensures.value ∙ ap (λ all. all.items) c.deref.ensures in
    IfOk-weaker c.cases_of.result _ _ (λ cases made. are_pair_cases c.args.self.now c.args.place c.in_ok-group.group cases.items made
    (subst (λ left. IsGroupAt left c.args.place c.in_ok-group.group) left c.in_ok-group.ensures.group)) c.cases_of.ensures

pub returns-clause-taken : goal.returns-clause-taken
returns-clause-taken c =
    let left = c.as_slice.ensures.value ∙ ap (λ all. all.items) c.deref.ensures in
    IfOk-weaker c.cases_of.result _ _ (λ cases made. pair_left c.args.self.now c.args.place c.in_ok-group.group cases.items made
    (c.in_ok-group.ensures.rest ∙ ap (λ left. remove left c.args.place) left)) c.cases_of.ensures
