use Rattle.std.proofs.Common.{◌≡◌, ◌++◌, ◌≤◌, get_or, [], ◌∷◌, ◌∙◌, None, Some, sym, ap, subst, map, length, arith}
use Rattle.std.specs.List.{remove}
use Rattle.cd_needs.specs.RecordType.{record_type, record_types}
use Rattle.cd_needs.specs.PlainReasons.{plain_labels, plain_reasons}
use Rattle.cd_rules.specs.Clauses.{Records}
use Rattle.cd_rules.specs.Rows.{labels_of}
use Rattle.cd_rules.specs.Tasks.{AreCases, Takes, left_of, record_cases}
use Rattle.cd_tasks.specs.LeftWithout.{left_without}
use Rattle.cd_tasks.specs.PlainTask.{plain_task}
use Rattle.cd_tasks.specs.declared.task.Task.TheVariants.{Record}
use Rattle.cd_tasks.proofs.CasesMade.{record_case, record_cases_made, each_of_made}
use Rattle.cd_tasks.proofs.Taken.{takes, takes_mapped, removed_mapped}
use Rattle.cd_tasks.proofs.task.RecordTask.cases.Goals as goal
use Rattle.cd_tasks.proofs.task.RecordTask.cases.Goals.{After-loop-label}

-- the type at the place is not in the rest
rest_is : (c : After-loop-label) → c.in_ok-rest.rest.value.items ≡ remove c.args.self.now.left.value.items c.args.place
rest_is c = c.in_ok-rest.ensures
    ∙ ap (λ items. remove items c.args.place) (c.as_slice.ensures.value ∙ ap (λ all. all.items) c.deref-2.ensures)

-- the cases of all reasons are made, for the labels are those that the task's types name
all_made : (c : After-loop-label) → let self = c.args.self.now in
    map plain_task c.loop-label.cases.items
    ≡ map (record_case (record_types self.wanted.value.items) (record_types self.refused.value.items) (plain_reasons self.given.items)
    (record_types c.in_ok-rest.rest.value.items) (record_type c.index-refused.result.now.now))
    (None ∷ map Some (labels_of (record_types self.wanted.value.items ++ record_types self.refused.value.items)))
all_made c =
    let self = c.args.self.now in
    let labels = c.as_slice-label-items.result.now in
    let past : length labels ≤ c.loop-label.label-index = omega arith in
    record_cases_made (record_types self.wanted.value.items) (record_types self.refused.value.items) (plain_reasons self.given.items)
    (record_types c.in_ok-rest.rest.value.items) (record_type c.index-refused.result.now.now) labels
    c.loop-label.label-index _ c.loop-label.invariant past
    (ap plain_labels (c.as_slice-label-items.ensures.value ∙ ap (λ labels. labels.items) c.deref-3.ensures) ∙ self.labelled)

-- the type is taken out of those left
pub returns-clause-cases : goal.returns-clause-cases
returns-clause-cases c =
    let self = c.args.self.now in
    let type = c.index-refused.result.now in
    subst (AreCases (plain_task (Record self))) (sym (all_made (goal.at.returns-clause-cases c).After-loop-label))
    (record_cases _ _ _ _ _ (record_type type.now) (takes_mapped (λ fields. record_type fields.now) type _ _
    (subst (Takes type self.left.value.items) (sym (rest_is (goal.at.returns-clause-cases c).After-loop-label))
    (takes self.left.value.items c.args.place type (c.index-refused.ensures ∙ ap (λ all. get_or all.items c.args.place type) c.deref.ensures)
    c.requires))))

pub returns-clause-taken : goal.returns-clause-taken
returns-clause-taken c =
    let self = c.args.self.now in
    each_of_made plain_task (record_case (record_types self.wanted.value.items) (record_types self.refused.value.items)
    (plain_reasons self.given.items) (record_types c.in_ok-rest.rest.value.items) (record_type c.index-refused.result.now.now))
    (λ task. left_of task ≡ left_without c.args.place (plain_task (Record self)))
    (λ reason. ap (Records []) (ap record_types (rest_is (goal.at.returns-clause-taken c).After-loop-label)
    ∙ removed_mapped (λ fields. record_type fields.now) self.left.value.items c.args.place))
    _ (None ∷ map Some (labels_of (record_types self.wanted.value.items ++ record_types self.refused.value.items)))
    (all_made (goal.at.returns-clause-taken c).After-loop-label)
