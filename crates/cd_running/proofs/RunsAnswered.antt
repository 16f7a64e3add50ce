-- What is found of a program on the value of a document is an answer.
use Rattle.std.proofs.Common.{ℕ}
use Rattle.cd_model.specs.Thing.{Thing}
use Rattle.cd_program.specs.Expr.{FunctionTree, Program}
use Rattle.cd_evaluation.specs.Runs.{Result}
use Rattle.cd_safety.specs.SafeProgram.{IsMain}
use Rattle.cd_replies.specs.Bytes.{Bytes}
use Rattle.cd_replies.specs.Reply.{Reply, not_input as no_input}
use Rattle.cd_running.specs.Ending.{Reports}
use Rattle.cd_running.specs.Input.{IsNoInput}
use Rattle.cd_running.specs.RunAnswer.{not_input, ran}
use Rattle.cd_running.specs.RunsOn.{IsRun}
use Rattle.cd_running.specs.Inner.OnDocument.{OnValue}

module _ (program : Program) (main : FunctionTree) (is_main : IsMain program main) (v : Thing) (units : ℕ) (document : Bytes) where
  -- the program does not take it
  pub refused_answered : IsNoInput program main v → OnValue program units document v (no_input document)
  refused_answered outside disk writes file has =
      not_input (record { program = program; has = has; main = main; is_main = is_main; value = v; writes = writes }) outside

  -- or a run comes to this result
  pub run_answered : (result : Result) → IsRun program main v units result → (reply : Reply) → Reports result.outcome reply
      → OnValue program units document v reply
  run_answered result run reply reports disk writes file has = ran result (record {
    given = record { program = program; has = has; main = main; is_main = is_main; value = v; writes = writes };
    run = run;
  }) reply reports
