use Rattle.std.proofs.Common.{◌≡◌, ◌∙◌, List, map, take, drop, length, ap, sym}
use Rattle.std.proofs.lemmas.List.{take-append-drop, length-map}
use Rattle.cd_program.specs.Expr.{Program}
use Rattle.cd_program.specs.PlainExpr.{plain_function}
use Rattle.cd_evaluation.specs.ProgramFunctions.{within_all}
use Rattle.cd_resolved.specs.Resolved.{function_of, function_nodes, program_of as program_in}
use Rattle.cd_resolved.specs.declared.function_nodes.FunctionNodes.{FunctionNodes}
use Rattle.cd_check.proofs.AtNumbers.{first_are}
use Rattle.cd_check.proofs.program.declared_nodes.Goals as goal

pub returns-clause-functions : goal.returns-clause-functions
returns-clause-functions c =
    let program = c.args.program.now in
    let functions = (program_in program).functions in
    let same : map plain_function c.items-count.result.now ≡ functions =
    c.items-count.ensures ∙ ap (λ (whole : Program). whole.functions) c.program.ensures in
    ap (λ count. map function_of (take count c.interfaces.result.now))
    (sym (length-map c.items-count.result.now plain_function) ∙ ap length same)
    ∙ ap (λ (all : List FunctionNodes). map function_of (take (length functions) all)) c.interfaces.ensures
    ∙ first_are function_of (function_nodes program) functions (within_all functions) c.requires.functions

pub returns-clause-first : goal.returns-clause-first
returns-clause-first c =
    let count = length c.items-count.result.now in (
      drop count c.interfaces.result.now,
      sym c.interfaces.ensures ∙ sym (take-append-drop count c.interfaces.result.now),
    )
