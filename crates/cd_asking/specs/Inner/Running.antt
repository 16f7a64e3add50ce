-- The steps in turn.
use Rattle.std.specs.Prelude.{◌≡◌, ◌≤◌, ◌+◌, ℕ, zero, suc, List, [], ◌∷◌, ◌++◌, map, length}
use Rattle.cd_sets.specs.declared.node_id.NodeId.{NodeId}
use Rattle.cd_syntax.specs.Name.{Name}
use Rattle.cd_model.specs.AllOf.{AllOf}
use Rattle.cd_model.specs.Formula.{Graph}
use Rattle.cd_model.specs.Thing.{Thing}
use Rattle.cd_asking.specs.Inner.Tasks.{finish, weight}
use Rattle.cd_asking.specs.Inner.Asked.{plain_task, made, left_to_do, IsTask, IsNext, Grows}
use Rattle.cd_asking.specs.Inner.Shapes.{Closed}
use Rattle.cd_asking.specs.Known.{KnowsOf}
use Rattle.cd_asking.specs.declared.asker.Asker.{Asker}
use Rattle.cd_asking.specs.declared.node_sets.SetId.{SetId}
use Rattle.cd_asking.specs.declared.task.Task.{Task}
use Rattle.cd_asking.specs.declared.task.Task.TheVariants.{OfPairs}
use Rattle.cd_asking.specs.declared.task.Next.{Next}

module _ (names : List Name) (table : List Thing) (asker : Asker) where
  -- what the tasks make of an answer
  abbrev pub finished : Graph → Closed → List Task → List NodeId → List NodeId
  finished graph closed tasks answer =
      finish graph closed (map (plain_task names table asker) tasks) answer

  -- how many steps the tasks may take
  abbrev pub total : List Task → ℕ
  total [] = 0
  total (task ∷ tasks) = weight (plain_task names table asker task) + total tasks

-- the new tasks do what the old ones do after this one, in no more steps
abbrev pub ArePut : (old : List Task) → Task → (new : List Task) → Type 0
ArePut old task new = (names : List Name) (table : List Thing) (asker : Asker)
    → AllOf (IsTask names (length table) asker) old → IsTask names (length table) asker task
    → AllOf (IsTask names (length table) asker) new
    × (total names table asker new
    ≤ weight (plain_task names table asker task) + total names table asker old)
    × ((graph : Graph) (closed : Closed) (answer : List NodeId)
    → finished names table asker graph closed new answer
    ≡ finished names table asker graph closed (old ++ task ∷ []) answer)

-- so many pairs in a row as a task, where there are some
abbrev pub pairs_of : (set first : SetId) → ℕ → List Task
pairs_of set first zero = []
pairs_of set first (suc n) = OfPairs set first (suc n) ∷ []

-- what is done next, and then the tasks, make these nodes
pub record IsRunning (names : List Name) (graph : Graph) (closed : Closed) (table : List Thing)
    (start : Asker) (nodes : List NodeId) (asker : Asker) (tasks : List Task) (next : Next)
    : Type 0 where
  pub grows : Grows start asker
  pub right : KnowsOf graph names asker
  pub each : AllOf (IsTask names (length table) asker) tasks
  pub numbers : IsNext names (length table) asker next
  pub makes : finished names table asker graph closed tasks
      (made names graph closed table asker next) ≡ nodes

-- how many steps are left
abbrev pub steps_left : List Name → List Thing → Asker → List Task → Next → ℕ
steps_left names table asker tasks next =
    total names table asker tasks + left_to_do names table asker next
