use Rattle.std.proofs.Common.{ap, sym, subst, map, ◌∙◌}
use Rattle.cd_syntax.specs.WellMadePattern.{IsWellMadePattern}
use Rattle.cd_program.specs.PlainProgram.{plain_program}
use Rattle.cd_model.specs.AllOf.{AllOf}
use Rattle.cd_resolve.specs.Named.{declared_by}
use Rattle.cd_names.specs.ProgramFaults.{IsFaultOfProgram}
use Rattle.cd_variables.specs.VariableFaults.{IsOneIn}
use Rattle.cd_names.specs.Inner.Faults.{IsFaultOfOne, Reports}
use Rattle.cd_resolve.specs.Least.{first_of}
use Rattle.cd_names.specs.Inner.PlainFound.{plain_found, plain_trees}
use Rattle.cd_resolve.specs.PlainReported.{plain_reported}
use Rattle.cd_names.proofs.FirstReported.{list_reported}
use Rattle.cd_names.proofs.FoundMade.{made_program}
use Rattle.cd_names.proofs.ProgramReported.{program_reported}
use Rattle.cd_variables.proofs.VariablesFound.{variables_found}
use Rattle.cd_names.proofs.program.check_program.Goals as goal

-- the trees that are found are well made
pub check_trees-requires : goal.check_trees-requires
check_trees-requires c =
    subst (λ trees. AllOf IsWellMadePattern (plain_trees trees)) (sym c.as_slice-2.ensures.value)
    (subst (λ found. AllOf IsWellMadePattern found.trees) (sym c.in_ok-found.ensures)
    (made_program (plain_program c.args.program.now) c.requires))

-- what is reported of all that is found
reported_of_all : (c : goal.After-drop-found-3)
    → Reports (IsFaultOfProgram (plain_program c.args.program.now)) c.first_of.result
reported_of_all c =
    let program = plain_program c.args.program.now in
    let found = plain_found c.in_ok-found.found in
    let faults = list_reported (map plain_reported c.as_slice.result.now) c.report_least.result
    c.report_least.ensures.sound c.report_least.ensures.fault in
    let one = subst (λ all. Reports (λ f. IsOneIn f (map plain_reported all)) c.report_least.result)
    c.as_slice.ensures.value faults in
    let names = c.in_ok-names.ensures in
    let types = declared_by c.in_ok-names.names in
    let trees : Reports (IsFaultOfOne types (plain_trees c.as_slice-2.result.now))
    c.check_trees.result =
    record { sound = c.check_trees.ensures.sound; fault = c.check_trees.ensures.fault } in
    let of_trees = subst (λ types. Reports (IsFaultOfOne types found.trees) c.check_trees.result)
    names
    (subst (λ all. Reports (IsFaultOfOne types (plain_trees all)) c.check_trees.result)
    c.as_slice-2.ensures.value trees) in
    let all = program_reported variables_found program found c.in_ok-found.ensures
    c.check_declarations-declared.result
    c.report_least.result c.check_trees.result
    (record {
      sound = c.check_declarations-declared.ensures.sound;
      fault =
          c.check_declarations-declared.ensures.fault;
    })
    one of_trees in
    subst (Reports (IsFaultOfProgram program)) (sym (c.first_of.ensures
    ∙ ap (λ first. first_of first c.check_trees.result) c.first_of-reported.ensures)) all

pub returns-clause-sound : goal.returns-clause-sound
returns-clause-sound c = (reported_of_all c).sound

pub returns-clause-fault : goal.returns-clause-fault
returns-clause-fault c = (reported_of_all c).fault
