use Rattle.std.proofs.Common.{ap, sym, ◌∙◌}
use Rattle.cd_program.specs.PlainExpr.{plain_function}
use Rattle.cd_evaluation.specs.ProgramFunctions.{all_functions, declared_at}
use Rattle.cd_resolved.specs.Resolved.{program_of}
use Rattle.cd_running.proofs.Literals.{main_characters}
use Rattle.cd_running.proofs.MainFound.{found, not_found, all_among}
use Rattle.cd_running.proofs.input.main_of.Goals as goal

pub returns-in-Some-clause-main : goal.returns-in-Some-clause-main
returns-in-Some-clause-main c main is =
    let program = program_of c.args.program.now in
    found program c.in-Some.at _ (sym c.in-Some.is ∙ c.declared.ensures ∙ ap (declared_at program) main_characters) c.function.ensures main is

pub returns-in-Some-clause-among : goal.returns-in-Some-clause-among
returns-in-Some-clause-among c =
    all_among (λ f. plain_function f.now) c.function.result (all_functions (program_of c.args.program.now)) c.in-Some.at c.function.ensures

pub returns-in-None-clause-main : goal.returns-in-None-clause-main
returns-in-None-clause-main c main is =
    let program = program_of c.args.program.now in
    absurd (not_found program (sym c.in-None.is ∙ c.declared.ensures ∙ ap (declared_at program) main_characters) main is)
