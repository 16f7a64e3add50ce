use Rattle.std.proofs.Common.{◌≡◌, Some, sym, subst}
use Rattle.std.proofs.lemmas.Result.{IfOk-weaker}
use Rattle.std.specs.Prelude.{IfOk, codes}
use Rattle.cd_cells.specs.Cells.{thing_at}
use Rattle.cd_cells.specs.Table.{table}
use Rattle.cd_cells.proofs.GrownTables.{thing_grown}
use Rattle.cd_model.specs.Thing.{Thing}
use Rattle.cd_program.specs.Expr.{FunctionTree, Program}
use Rattle.cd_evaluation.specs.Code.{place_of}
use Rattle.cd_evaluation.specs.ProgramFunctions.{declared_at}
use Rattle.cd_resolved.specs.Resolved.{program_of}
use Rattle.cd_code.specs.Compiled.{program_of as coded}
use Rattle.cd_machine.specs.PlainRan.{plain_ran}
use Rattle.cd_safety.specs.SafeProgram.{IsMain, ComesTo}
use Rattle.cd_running.proofs.on_value.run_by_code.Goals as goal

pub run-requires-clause-main : goal.run-requires-clause-main
run-requires-clause-main c =
    let typed = c.requires.typed in
    let found = c.typed_programs_have_main.ensures (program_of c.args.program) typed.typed typed.reads.sound c.requires.resolved.places_differ in (
      place_of found.0,
      subst (λ (program : Program). declared_at program (codes "main") ≡ Some (place_of found.0)) (sym c.in_ok-code.ensures.program) found.1.declared,
    )

-- the value stands in the table that has grown
pub returns-clause-comes : goal.returns-clause-comes
returns-clause-comes c =
    let new = thing_at (table c.compile.new.values) c.args.value.0 in
    let old = thing_at (table c.args.values.now) c.args.value.0 in
    let stays : new ≡ old = thing_grown c.args.values.now c.compile.new.values c.in_ok-code.ensures.values c.args.value.0 c.requires.value in
    let result = plain_ran (table c.run.new.values) in
    subst (λ (program : Program). IfOk c.run.result
    (λ ran. (main : FunctionTree) → IsMain program main → ComesTo program main old c.args.units (result ran))) c.in_ok-code.ensures.program
    (subst (λ (v : Thing). IfOk c.run.result
    (λ ran. (main : FunctionTree) → IsMain (coded c.in_ok-code.code) main → ComesTo (coded c.in_ok-code.code) main v c.args.units (result ran))) stays
    (IfOk-weaker c.run.result _ _ (λ ran means main is. means main is.declared) c.run.ensures.means))
