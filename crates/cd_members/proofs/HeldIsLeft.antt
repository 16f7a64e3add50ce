-- A member that holds what was made for a task is one of those left.
use Rattle.std.proofs.Common.{ℕ, ◌<◌, List, [], ◌∷◌}
use Rattle.std.proofs.lemmas.Option.{slice_get_within}
use Rattle.cd_model.specs.Formula.{Graph}
use Rattle.cd_model.specs.Thing.{Thing}
use Rattle.cd_rules.specs.Tasks.{Task, PairTask, XmlTask, ArrowTask, RecordTask, count_left}
use Rattle.cd_members.specs.Held.{IsHeldAt}

pub held_is_left : (graph : Graph) (parts : List Thing) (task : Task) (place : ℕ) → IsHeldAt graph parts task place → place < count_left task
held_is_left graph parts (RecordTask wanted refused given left) place (fields, of_row, held) = slice_get_within left place held.0 held.1
held_is_left graph (first ∷ second ∷ []) (PairTask wanted refused given left) place held = slice_get_within left place held.0 held.1
held_is_left graph (tag ∷ attributes ∷ content ∷ []) (XmlTask wanted refused given left) place held = slice_get_within left place held.0 held.1
held_is_left graph (from ∷ []) (ArrowTask refused wanted given left) place held = slice_get_within left place held.0 held.1
held_is_left graph (from ∷ to ∷ []) (ArrowTask refused wanted given left) place held = slice_get_within left place held.0 held.1
held_is_left graph _ _ place none = absurd none
