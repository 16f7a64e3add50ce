use Rattle.cd_model.specs.AllOf.{AllOf}
use Rattle.cd_needs.specs.RecordType.{record_types}
use Rattle.cd_normal.specs.Inner.IsNeed.{IsFieldNeed}
use Rattle.cd_normal.proofs.needs.add_field_needs.Given as goal

-- each question so far is one of a label for which a type asks, where each was before
abbrev pub invariant-loop-label : goal.invariant-loop-label
invariant-loop-label l =
    AllOf (IsFieldNeed (record_types l.types)) l.fn.needs.items → AllOf (IsFieldNeed (record_types l.types)) l.needs.items
