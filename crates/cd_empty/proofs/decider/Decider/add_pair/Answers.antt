use Rattle.std.proofs.Common.{List, ◌∷◌, refl, ap, ◌∙◌}
use Rattle.cd_tasks.specs.declared.task.Task.{Task}
use Rattle.cd_empty.proofs.decider.Decider.add_pair.Goals as goal

pub returns-in_ok-push-in-Some-clause-adds_pair : goal.returns-in_ok-push-in-Some-clause-adds_pair
returns-in_ok-push-in-Some-clause-adds_pair c = (
  c.in-Some.next,
  c.in-Some.ensures,
  c.in_ok-push-in-Some.ensures ∙ ap (λ (rest : List Task). c.in-Some.next ∷ rest) c.clear.ensures,
  refl,
  refl,
  c.in_ok-insert.ensures.items,
)
