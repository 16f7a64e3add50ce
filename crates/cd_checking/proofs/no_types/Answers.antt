use Rattle.cd_replies.specs.Message.{reply_of}
use Rattle.cd_empty.specs.Seen.{table_of}
use Rattle.cd_resolved.specs.Resolved.{program_of}
use Rattle.cd_checking.proofs.Programs.{fault_reported}
use Rattle.cd_checking.proofs.no_types.Goals as goal

-- what is said of an error is a fault of the program
pub returns-in_ok-unmet-in-Err-clause-types : goal.returns-in_ok-unmet-in-Err-clause-types
returns-in_ok-unmet-in-Err-clause-types c = fault_reported c.args.file.now c.args.text.now (program_of c.args.program.now) (table_of c.check_types.new.world)
    c.in-Err.error c.in-Err.ensures.fault (reply_of c.in_ok-unmet-in-Err.field-0)
    c.in_ok-unmet-in-Err.ensures
