-- Each answer of `check` is a reply.
use Rattle.std.specs.Prelude.{codes}
use Rattle.cd_program.specs.Expr.{Program}
use Rattle.cd_replies.specs.Bytes.{Bytes}
use Rattle.cd_replies.specs.Reply.{Reply}
use Rattle.cd_replies.specs.Texts.{RefusesProgram}
use Rattle.cd_replies.specs.Disk.{Disk}
use Rattle.cd_checking.specs.CheckAnswer.{CheckAnswer, ProgramAnswer, ReportsFault, unmet, file_refused}
use Rattle.cd_checking.specs.CheckAnswer.{on_program, accepted, ill_typed}
use Rattle.cd_replies.proofs.Replies.{IsReply, line_some, file_is_reply}

pub fault_is_reply : (file text : Bytes) (program : Program) (reply : Reply) → ReportsFault file text program reply → IsReply reply
fault_is_reply file text program _ (unmet place rule element fault exists) = record {
  text = λ out err. line_some _ err;
  status = λ is. cc;
}

program_is_reply : (file text : Bytes) (program : Program) (reply : Reply) → ProgramAnswer file text program reply → IsReply reply
program_is_reply file text program _ (accepted typed) = record {
  text = λ out err. line_some (codes "accepted") out;
  status = λ is. cc;
}
program_is_reply file text program _ (ill_typed reply reports) = fault_is_reply file text program reply reports

pub check_is_reply : (disk : Disk) (file : Bytes) (reply : Reply) → CheckAnswer disk file reply → IsReply reply
check_is_reply disk file _ (file_refused reply refusal) = file_is_reply RefusesProgram disk file reply refusal
check_is_reply disk file _ (on_program text program has reply answers) = program_is_reply file text program reply answers
