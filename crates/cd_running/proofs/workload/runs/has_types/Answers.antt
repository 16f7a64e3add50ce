use Rattle.std.proofs.Common.{sym, subst}
use Rattle.std.specs.Prelude.{codes}
use Rattle.cd_typing.specs.Typed.{IsTyped}
use Rattle.cd_checking.proofs.FaultsUntyped.{fault_untyped}
use Rattle.cd_replies.specs.Message.{reply_of}
use Rattle.cd_resolved.specs.Resolved.{program_of}
use Rattle.cd_running.specs.Workload.{program_text}
use Rattle.cd_running.proofs.ProgramTyped.{program_is_typed}
use Rattle.cd_running.proofs.workload.runs.has_types.Goals as goal

-- the program has types
pub unreachable-requires : goal.unreachable-requires
unreachable-requires c =
    fault_untyped (codes "work") program_text (program_of c.args.program.now) (reply_of c.in-Some.field-0)
    (rw c.in-Some.is at c.in_ok-no_types.ensures.types) (subst IsTyped (sym c.requires.is) program_is_typed)

pub returns : goal.returns
returns c = rw c.in-None.is at c.in_ok-no_types.ensures.begins
