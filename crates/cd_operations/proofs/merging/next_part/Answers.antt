use Rattle.std.proofs.Common.{refl, sym}
use Rattle.cd_operations.proofs.PartsMerged.{next_of_first, next_below, next_above, next_over}
use Rattle.cd_operations.proofs.merging.next_part.Goals as goal

pub returns-in_default-split : goal.returns-in_default-split
returns-in_default-split c = next_of_first _ _ c.requires _ _ _ c.in-Some.ensures c.in_default-split.ensures refl refl

pub returns-in-Less : goal.returns-in-Less
returns-in-Less c =
    next_below _ _ c.requires _ _ _ _ c.in-Some.ensures c.in-Some-split.ensures _ (sym c.in-Less.ensures) refl refl

pub returns-in-Equal : goal.returns-in-Equal
returns-in-Equal c =
    next_over _ _ c.requires _ _ _ _ c.in-Some.ensures c.in-Some-split.ensures _ (sym c.in-Equal.ensures) refl refl

pub returns-in-Greater : goal.returns-in-Greater
returns-in-Greater c =
    next_above _ _ c.requires _ _ _ _ c.in-Some.ensures c.in-Some-split.ensures _ (sym c.in-Greater.ensures) refl refl
