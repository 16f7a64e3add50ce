-- A kind of expression is sound that is in range and has no fault of its labels.
use Rattle.cd_syntax.specs.declared.tokens.Span.{Span}
use Rattle.cd_syntax.specs.TypeTree.{Declarations}
use Rattle.cd_program.specs.Expr.{expr, Kind, Constant, Sequence, Record}
use Rattle.cd_program.specs.WellMade.{IsWellMadeExprKind}
use Rattle.cd_resolve.specs.declared.fault.NameFault.TheVariants.{Twice}
use Rattle.cd_names.specs.ProgramFaults as faults
use Rattle.cd_names.specs.ProgramFaults.{Seen}
use Rattle.cd_names.proofs.FreeOfFaults.{NoFault, labels_differ}
use Rattle.cd_safety.specs.WellWritten.{InRange, HasLabelsOnce, IsSoundKind}

-- its labels differ
pub labels_once : (types : Declarations) (seen : Seen) (span : Span) (kind : Kind) → IsWellMadeExprKind kind
    → NoFault types seen (expr span kind) → HasLabelsOnce kind
labels_once types seen span (Record fields) made none = labels_differ fields
    (λ label at again. none (record { fault = Twice; name = label; at = at })
    (faults.IsFaultOfExpr.label_twice seen span fields label at again))
labels_once types seen span kind made none = tt

pub sound_kind : (kind : Kind) → InRange kind → HasLabelsOnce kind → IsSoundKind kind
sound_kind (Constant is) within once = within
sound_kind (Sequence items) within once = within
sound_kind (Record fields) within once = once
sound_kind kind within once = tt
