use Rattle.std.proofs.Common.{◌≡◌, ◌++◌, take, drop}
use Rattle.cd_elements.specs.declared.shape.ElementId.{ElementId}
use Rattle.cd_members.specs.Inner.RecordFields.{put}
use Rattle.cd_members.proofs.parts.place_of.Given as goal

-- the label belongs among what is left
abbrev pub invariant-loop-place : goal.invariant-loop-place
invariant-loop-place l = (id : ElementId) → put l.label id l.parts ≡ take l.place l.parts ++ put l.label id (drop l.place l.parts)
