-- The steps in turn make what the first one is to make.
use Rattle.std.proofs.Common.{◌≡◌, ℕ, ◌+◌, ◌<◌, ◌≤◌, List, [], ◌∷◌, ◌++◌, length, map, refl, sym, ap, ◌∙◌, subst, arith}
use Rattle.cd_sets.specs.declared.node_id.NodeId.{NodeId}
use Rattle.cd_syntax.specs.Name.{Name}
use Rattle.cd_model.specs.AllOf.{AllOf}
use Rattle.cd_model.specs.Formula.{Graph}
use Rattle.cd_model.specs.Thing.{Thing}
use Rattle.cd_cells.specs.Cells.{thing_at}
use Rattle.cd_cells.specs.declared.cell.ValueId.{ValueId}
use Rattle.cd_asking.specs.Inner.Shapes.{Closed, members, shape_of}
use Rattle.cd_asking.specs.Inner.Tasks.{after, finish, size, weight}
use Rattle.cd_asking.specs.Inner.Asked.{set_at, plain_task, IsTask, IsStep, Grows}
use Rattle.cd_asking.specs.Known.{KnowsOf}
use Rattle.cd_asking.specs.Inner.Running.{finished, total, ArePut, IsRunning, steps_left}
use Rattle.cd_asking.specs.declared.node_sets.SetId.{SetId}
use Rattle.cd_asking.specs.declared.asker.Asker.{Asker}
use Rattle.cd_asking.specs.declared.task.Task.{Task}
use Rattle.cd_asking.specs.declared.task.Next.{Next}
use Rattle.cd_asking.specs.declared.task.Next.TheVariants.{Answer, Ask}
use Rattle.cd_asking.proofs.Kept.{task_stays, task_within, grows_on}
use Rattle.cd_asking.proofs.Members.{each_by}
use Rattle.cd_asking.proofs.Putting.{each_first, total_more, last_done}

less : (a b c d : ℕ) → a ≤ b + c → d < a → d < b + c
less a b c d first second = omega (arith, first, second)

module _ (names : List Name) (table : List Thing) (old new : Asker) (grow : Grows old new) where
  tasks_stay : (tasks : List Task) → AllOf (IsTask names (length table) old) tasks
      → map (plain_task names table new) tasks ≡ map (plain_task names table old) tasks
  tasks_stay [] each = refl
  tasks_stay (task ∷ tasks) each = cc (task_stays old new grow names table task each.0, tasks_stay tasks each.1)

  total_stays : (tasks : List Task) → AllOf (IsTask names (length table) old) tasks
      → total names table new tasks ≡ total names table old tasks
  total_stays [] each = refl
  total_stays (task ∷ tasks) each = cc (task_stays old new grow names table task each.0, total_stays tasks each.1)

  tasks_within : (tasks : List Task) → AllOf (IsTask names (length table) old) tasks → AllOf (IsTask names (length table) new) tasks
  tasks_within tasks each = each_by _ _ tasks (task_within old new grow names (length table)) each

module _ (names : List Name) (graph : Graph) (closed : Closed) (table : List Thing) (start : Asker) (nodes : List NodeId) where
  abbrev Running : Asker → List Task → Next → Type 0
  Running = IsRunning names graph closed table start nodes

  module _ (asker after_it : Asker) (grow : Grows asker after_it) (right : KnowsOf graph names after_it) where
    -- some tasks are left, and a step makes what is to be done first
    on : (tasks : List Task) (answer : List NodeId) (next : Next) (work : ℕ) → Grows start asker
        → AllOf (IsTask names (length table) asker) tasks → finished names table asker graph closed tasks answer ≡ nodes
        → IsStep names graph closed table after_it answer work next → Running after_it tasks next
    on tasks answer next work grew each makes step = record {
      grows = grows_on start asker after_it grew grow;
      right = right;
      each = tasks_within names table asker after_it grow tasks each;
      numbers = step.numbers;
      makes = ap (finished names table after_it graph closed tasks) step.makes
          ∙ ap (λ all. finish graph closed all answer) (tasks_stay names table asker after_it grow tasks each) ∙ makes;
    }

    fewer : (tasks : List Task) (answer : List NodeId) (next : Next) (work most : ℕ)
        → AllOf (IsTask names (length table) asker) tasks
        → IsStep names graph closed table after_it answer work next → total names table asker tasks + work ≤ most
        → steps_left names table after_it tasks next < most
    fewer tasks answer next work most each step bound =
        let same = total_stays names table asker after_it grow tasks each in
        let falls = step.falls in omega (arith, same, falls, bound)

    module _ (tasks new : List Task) (before : Next) (id : ValueId) (set : SetId) (task : Task) (next : Next) (was : Running asker tasks before)
        (before_is : before ≡ Ask id set task) (put : ArePut tasks task new)
        (step : IsStep names graph closed table after_it (members graph (shape_of graph closed (thing_at table id.0)) (set_at asker.sets set))
        (size (thing_at table id.0)) next) where
      running : Running asker tasks (Ask id set task)
      running = subst (Running asker tasks) before_is was

      pub asked : Running after_it new next
      asked =
          let are = put names table asker running.each running.numbers.2 in
          on new _ next _ running.grows are.0
          (are.2 graph closed _ ∙ last_done names table asker graph closed tasks task _ ∙ running.makes) step

      pub asked_falls : steps_left names table after_it new next < steps_left names table asker tasks before
      asked_falls =
          let are = put names table asker running.each running.numbers.2 in
          let bound = are.1 in
          subst (λ before. steps_left names table after_it new next < steps_left names table asker tasks before) (sym before_is)
          (fewer new _ next _ _ are.0 step (omega (arith, bound)))

    module _ (tasks rest : List Task) (task : Task) (before : Next) (answer : SetId) (next : Next) (was : Running asker tasks before)
        (before_is : before ≡ Answer answer) (is : tasks ≡ rest ++ task ∷ [])
        (step : IsStep names graph closed table after_it (after graph closed (plain_task names table asker task) (set_at asker.sets answer))
        (weight (plain_task names table asker task)) next) where
      now_running : Running asker tasks (Answer answer)
      now_running = subst (Running asker tasks) before_is was

      each_is : AllOf (IsTask names (length table) asker) rest × IsTask names (length table) asker task
      each_is = each_first _ rest task (subst (AllOf (IsTask names (length table) asker)) is now_running.each)

      pub answered : Running after_it rest next
      answered = on rest _ next _ now_running.grows each_is.0
          (sym (last_done names table asker graph closed rest task (set_at asker.sets answer))
          ∙ ap (λ tasks. finished names table asker graph closed tasks (set_at asker.sets answer)) (sym is) ∙ now_running.makes) step

      pub answered_falls : steps_left names table after_it rest next < steps_left names table asker tasks before
      answered_falls =
          let all = ap (total names table asker) is ∙ total_more names table asker rest task in
          subst (λ before. steps_left names table after_it rest next < steps_left names table asker tasks before) (sym before_is)
          (fewer rest _ next _ _ each_is.0 step (omega (arith, all)))

  -- the last one is of the values and the sets that there are
  pub last_is : (asker : Asker) (tasks rest : List Task) (task : Task) (next : Next) → Running asker tasks next → tasks ≡ rest ++ task ∷ []
      → IsTask names (length table) asker task
  last_is asker tasks rest task next running is =
      (each_first _ rest task (subst (AllOf (IsTask names (length table) asker)) is running.each)).1
