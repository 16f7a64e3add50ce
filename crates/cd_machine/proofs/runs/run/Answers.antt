use Rattle.std.proofs.Common.{ap, ◌∙◌, sym, subst}
use Rattle.std.proofs.lemmas.Option.{none-some, same_Some}
use Rattle.cd_model.specs.AllOf.{AllOf}
use Rattle.cd_model.specs.Thing.{Closure, NoField}
use Rattle.cd_cells.specs.Cells.{thing_at}
use Rattle.cd_cells.specs.Table.{table, IsAt}
use Rattle.cd_cells.proofs.TableGrows.{last_at}
use Rattle.cd_code.specs.Compiled.{program_of, ArePartsOf}
use Rattle.cd_evaluation.specs.Code.{place_of}
use Rattle.cd_evaluation.specs.ProgramFunctions.{declared_at}
use Rattle.cd_machine.specs.Inner.CodeIn.{code_in, IsPatternIn}
use Rattle.cd_machine.specs.Inner.Known.{FrameIsKnown}
use Rattle.cd_machine.specs.Inner.PlainFrame.{plain_frames}
use Rattle.cd_machine.proofs.CodeReady.{still_ready}
use Rattle.cd_machine.proofs.KnownProgram.{code_known}
use Rattle.cd_machine.proofs.Literals.{main_characters}
use Rattle.cd_machine.proofs.MachineRuns.{means}
use Rattle.cd_cells.proofs.GrownTables.{thing_grown, within_grown, further}
use Rattle.cd_machine.proofs.runs.run.Goals as goal
use Rattle.cd_machine.proofs.runs.run.Goals.{In_ok-main}

-- `main` is declared
pub unreachable-requires : goal.unreachable-requires
unreachable-requires c = none-some c.requires.main.0
    ((c.in_default.ensures {u = tt}) ∙ ap (declared_at (program_of c.args.code.now)) main_characters ∙ c.requires.main.1)

-- the function `main` of the code, as a value
main_at : (c : In_ok-main) → IsAt (table c.closure.new.self) c.in_ok-main.main.0 (Closure c.in-Some.at NoField)
main_at c = last_at (table c.args.values.now) (table c.closure.new.self) c.in_ok-main.main.0 (Closure c.in-Some.at NoField)
    (c.in_ok-main.ensures {u = tt}).added (c.in_ok-main.ensures {u = tt}).number

pub go-requires : goal.go-requires
go-requires c =
    let code = c.args.code.now in
    let old = c.args.values.now in
    let middle = c.closure.new.self in
    let grows = (c.in_ok-main.ensures {u = tt}).grows in
    let begun = c.in_ok-machine.ensures {u = tt} in record {
      waits = record {
        order = record {
          ready = still_ready old middle code c.requires.ready grows;
          parts = subst (AllOf (ArePartsOf middle)) (sym begun.environments) (tt, tt);
        };
        functions = code_known code c.requires.well_made;
        frames = begun.within middle (main_at (goal.at.go-requires c).In_ok-main).within;
        known = subst (AllOf (FrameIsKnown (IsPatternIn code))) (sym (begun.stack middle)) (tt, tt);
      };
      at_hand = within_grown old middle grows c.args.document.0 c.requires.document;
      known = tt;
    }

pub returns-clause-means : goal.returns-clause-means
unfolding code_in
returns-clause-means c = λ main declared.
    let old = c.args.values.now in
    let middle = c.closure.new.self in
    let begun = c.in_ok-machine.ensures {u = tt} in
    let place = same_Some c.in-Some.at (place_of main)
    ((c.in-Some.ensures {u = tt}) ∙ ap (declared_at (program_of c.args.code.now)) main_characters ∙ declared) in
    means (code_in c.args.code.now) (table c.go.new.values) c.args.units c.in_ok-go.field-0 (Closure (place_of main) NoField)
    (thing_at (table middle) c.in_ok-main.main.0) (thing_at (table old) c.args.document.0) (thing_at (table middle) c.args.document.0)
    (plain_frames middle c.in_ok-machine.machine.environments c.in_ok-machine.machine.stack) (begun.stack middle)
    ((main_at (goal.at.returns-clause-means c).In_ok-main).is ∙ ap (λ at. Closure at NoField) place)
    (thing_grown old middle (c.in_ok-main.ensures {u = tt}).grows c.args.document.0 c.requires.document) (c.in_ok-go.ensures {u = tt}).ran

-- the code stays ready for what was added
pub returns-clause-ready : goal.returns-clause-ready
returns-clause-ready c = c.go.ensures.after.in_order.ready

pub returns-clause-program : goal.returns-clause-program
returns-clause-program c = c.go.ensures.after.program

pub returns-clause-grows : goal.returns-clause-grows
returns-clause-grows c = further c.args.values.now c.closure.new.self c.go.new.values c.closure.ensures.grows c.go.ensures.after.grows

pub returns-in_err-go-clause-ready : goal.returns-in_err-go-clause-ready
returns-in_err-go-clause-ready c = c.go.ensures.after.in_order.ready

pub returns-in_err-go-clause-program : goal.returns-in_err-go-clause-program
returns-in_err-go-clause-program c = c.go.ensures.after.program

pub returns-in_err-go-clause-grows : goal.returns-in_err-go-clause-grows
returns-in_err-go-clause-grows c = further c.args.values.now c.closure.new.self c.go.new.values c.closure.ensures.grows c.go.ensures.after.grows

pub returns-in_err-main-clause-ready : goal.returns-in_err-main-clause-ready
returns-in_err-main-clause-ready c = still_ready c.args.values.now c.closure.new.self c.args.code.now c.requires.ready c.closure.ensures.grows

pub returns-in_err-machine-clause-ready : goal.returns-in_err-machine-clause-ready
returns-in_err-machine-clause-ready c = still_ready c.args.values.now c.closure.new.self c.args.code.now c.requires.ready c.closure.ensures.grows
