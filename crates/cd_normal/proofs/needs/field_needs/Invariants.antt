use Rattle.cd_model.specs.AllOf.{AllOf}
use Rattle.cd_needs.specs.RecordType.{record_types}
use Rattle.cd_normal.specs.Inner.IsNeed.{IsFieldNeed}
use Rattle.cd_normal.proofs.needs.field_needs.Given as goal

-- each question so far is one of a label for which a type asks
abbrev pub invariant-loop-place : goal.invariant-loop-place
invariant-loop-place l = AllOf (IsFieldNeed (record_types l.types)) l.needs.items
