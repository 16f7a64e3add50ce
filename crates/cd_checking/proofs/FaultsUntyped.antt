-- A program of which a fault of typing is said has no types.
use Rattle.std.proofs.Common.{◌≡◌, refl}
use Rattle.cd_base.specs.declared.status.Status.TheVariants.{IllTyped}
use Rattle.cd_program.specs.Expr.{Program}
use Rattle.cd_typing.specs.Typed.{IsTyped}
use Rattle.cd_least.proofs.ProgramRefuted.{program_refuted}
use Rattle.cd_replies.specs.Bytes.{Bytes}
use Rattle.cd_replies.specs.Reply.{Reply}
use Rattle.cd_checking.specs.CheckAnswer.{ReportsFault, unmet}

-- a fault that is said has its status, and leaves the program without types
pub fault_status : (file text : Bytes) (program : Program) (reply : Reply) → ReportsFault file text program reply → reply.status ≡ IllTyped
fault_status file text program _ (unmet place rule element fault exists) = refl

pub fault_untyped : (file text : Bytes) (program : Program) (reply : Reply) → ReportsFault file text program reply → IsTyped program → ⊥
fault_untyped file text program _ (unmet place rule element fault exists) typed = program_refuted program place rule element fault typed
