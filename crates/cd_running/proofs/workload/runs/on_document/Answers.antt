use Rattle.std.proofs.Common.{◌≡◌, Some, None, option_map, sym, subst, arith}
use Rattle.cd_cells.specs.Cells.{thing_at}
use Rattle.cd_cells.specs.Table.{table}
use Rattle.cd_machine.specs.PlainRan.{plain_ran}
use Rattle.cd_resolved.specs.Resolved.{program_of}
use Rattle.cd_safety.specs.SafeProgram.{IsDocument}
use Rattle.cd_running.specs.TypedProgram.{IsTypedProgram}
use Rattle.cd_running.specs.Workload.{program_text}
use Rattle.cd_running.specs.Inner.WorkProgram.{work_program}
use Rattle.cd_running.specs.Inner.WorkValues.{result}
use Rattle.cd_running.proofs.DocumentIsInput.{is_document}
use Rattle.cd_running.proofs.RunCounted.{gave, left, counted}
use Rattle.cd_running.proofs.RunFound.{run_found_of, end_of}
use Rattle.cd_running.proofs.ProgramReads.{program_reads, program_encoded}
use Rattle.cd_running.proofs.ProgramTyped.{program_is_typed}
use Rattle.cd_running.proofs.workload.runs.on_document.Goals as goal
use Rattle.cd_running.proofs.workload.runs.on_document.Goals.{In_ok-ran}

-- the program was read and has types
pub run_on-requires-clause-typed : goal.run_on-requires-clause-typed
run_on-requires-clause-typed c = subst IsTypedProgram (sym c.requires.is)
    (record { text = program_text; utf8 = program_encoded; reads = program_reads; typed = program_is_typed })

-- the document is data
pub run_on-requires-clause-document : goal.run_on-requires-clause-document
run_on-requires-clause-document c = subst IsDocument (sym c.in_ok-value.ensures.is) (is_document c.args.size c.requires.most)

-- a run is found
found : (c : In_ok-ran) → option_map (plain_ran (table c.run_on.new.values)) c.in_ok-ran.field-0 ≡ Some (end_of c.args.size)
found c =
    run_found_of c.args.size c.requires.most (program_of c.args.program) c.requires.is
    (thing_at (table c.document_value.new.values) c.in_ok-value.value.0) c.in_ok-value.ensures.is
    (option_map (plain_ran (table c.run_on.new.values)) c.in_ok-ran.field-0) c.in_ok-ran.ensures.runs

pub unreachable-requires : goal.unreachable-requires
unreachable-requires c = let is : None ≡ Some (end_of c.args.size) = rw c.in-None.is at (found (goal.at.unreachable-requires c).In_ok-ran) in cc

-- which gives the value
pub counted-requires-clause-gave : goal.counted-requires-clause-gave
counted-requires-clause-gave c =
    (result c.args.size, gave c.args.size (table c.run_on.new.values) c.in-Some.ran (rw c.in-Some.is at (found (goal.at.counted-requires-clause-gave c).In_ok-ran)))

pub counted-requires-clause-left : goal.counted-requires-clause-left
counted-requires-clause-left c =
    let is = left c.args.size (table c.run_on.new.values) c.in-Some.ran (rw c.in-Some.is at (found (goal.at.counted-requires-clause-left c).In_ok-ran)) in
    omega (arith, is)

pub returns : goal.returns
returns c =
    counted c.args.size (table c.run_on.new.values) c.in-Some.ran (rw c.in-Some.is at (found (goal.at.returns c).In_ok-ran)) c.requires.most c.counted.result
    c.counted.ensures.used c.counted.ensures.length
