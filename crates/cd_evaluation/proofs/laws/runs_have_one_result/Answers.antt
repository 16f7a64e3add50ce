use Rattle.cd_evaluation.specs.ProgramCode.{code_of}
use Rattle.cd_evaluation.proofs.OneResult.{one_meaning}
use Rattle.cd_evaluation.proofs.ProgramTakes.{takes_once}
use Rattle.cd_evaluation.proofs.laws.runs_have_one_result.Goals as goal

pub returns : goal.returns
returns c = λ program. one_meaning (code_of program) (takes_once program)
