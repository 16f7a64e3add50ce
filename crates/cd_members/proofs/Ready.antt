-- Elements that are ready for a task: there are as many as questions, and each is of the table.
use Rattle.std.proofs.Common.{◌≡◌, ◌<◌, ℕ, suc, List, [], ◌∷◌, map, length, get_or, refl, ap, arith}
use Rattle.cd_model.specs.Formula.{Graph}
use Rattle.cd_model.specs.Membership.{answers}
use Rattle.cd_model.specs.Thing.{Thing}
use Rattle.cd_rules.specs.InWay.{AreInWay}
use Rattle.cd_rules.specs.Needs.{Way}
use Rattle.cd_rules.specs.Tasks.{Task, IsTask, questions_of}
use Rattle.cd_elements.specs.declared.shape.ElementId.{ElementId}
use Rattle.cd_elements.specs.Table.{Names, element_at}
use Rattle.cd_members.specs.Inner.Ready.{IsReady}
use Rattle.cd_members.proofs.Lists.{each_at}

in_way : (graph : Graph) (table : List Thing) (ids : List ElementId) (way : Way)
    → AreInWay (map (λ id. answers graph (element_at table id)) ids) way → length ids ≡ length way
in_way graph table [] [] are = refl
in_way graph table (id ∷ ids) (question ∷ way) are = ap suc (in_way graph table ids way are.1)
in_way graph table [] (question ∷ way) are = absurd are
in_way graph table (id ∷ ids) [] are = absurd are

module _ {graph : Graph} {table : List Thing} {task : Task} {ids : List ElementId} (ready : IsReady graph table task ids) where
  pub is_task : IsTask task
  is_task = ready.sound.task

  pub as_many : length ids ≡ length (questions_of task)
  as_many = in_way graph table ids (questions_of task) ready.parts

  pub names_at : (place : ℕ) (default : ElementId) → place < length (questions_of task) → Names table (get_or ids place default)
  names_at place default within = let many = as_many in each_at (Names table) ids place default ready.named (omega arith)
