use Rattle.std.proofs.Common.{◌≡◌, ◌++◌, map, drop}
use Rattle.cd_shared.specs.Shared.{class_in}
use Rattle.cd_shared.proofs.classes.Classes.classes_of.Given as goal

-- those that were gone over, and those that are left
abbrev pub invariant-loop-id : goal.invariant-loop-id
invariant-loop-id l = l.classes.items ++ map (class_in l.self) (drop l.id-index l.ids)
    ≡ map (class_in l.self) l.ids
