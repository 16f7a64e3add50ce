-- Steps by which code, values and environments come after others.
use Rattle.std.proofs.Common.{◌≡◌, List, refl, ap, ◌∙◌}
use Rattle.cd_model.specs.AllOf.{AllOf}
use Rattle.cd_cells.specs.Table.{names, Grows}
use Rattle.cd_cells.specs.declared.cell.Part.{Part}
use Rattle.cd_cells.specs.declared.values.Values.{Values}
use Rattle.cd_evaluation.specs.ProgramCode.{code_of}
use Rattle.cd_resolved.specs.Parts.{IsPatternOf}
use Rattle.cd_code.specs.Compiled.{program_of, ArePartsOf, IsReady}
use Rattle.cd_machine.specs.Inner.CodeIn.{code_in, IsPatternIn}
use Rattle.cd_code.specs.declared.code.Code.{Code}
use Rattle.cd_machine.specs.Inner.Nodes.{Longer}
use Rattle.cd_machine.specs.Inner.InOrder.{IsInOrder, IsAfter}
use Rattle.cd_machine.proofs.CodeReady.{still_ready}
use Rattle.cd_machine.proofs.NodesAdded.{longer_same, longer_then}
use Rattle.cd_cells.proofs.GrownTables.{itself, further}
use Rattle.cd_machine.proofs.Staying.{still_each}

pub after_same : (code : Code) (values : Values) (environments : List (List Part)) → IsInOrder code values environments
    → IsAfter code values environments code values environments
after_same code values environments order =
    record { grows = itself values; longer = longer_same environments; program = refl; in_order = order }

pub after_then : (code : Code) (values : Values) (environments : List (List Part)) (code' : Code) (values' : Values) (environments' : List (List Part))
    (code'' : Code) (values'' : Values) (environments'' : List (List Part)) → IsAfter code values environments code' values' environments'
    → IsAfter code' values' environments' code'' values'' environments'' → IsAfter code values environments code'' values'' environments''
after_then code values environments code' values' environments' code'' values'' environments'' one other = record {
  grows = further values values' values'' one.grows other.grows;
  longer = longer_then environments environments' environments'' one.longer other.longer;
  program = other.program ∙ one.program;
  in_order = other.in_order;
}

-- only values were added
pub after_values : (code : Code) (old new : Values) (environments : List (List Part)) → IsInOrder code old environments → Grows old new
    → IsAfter code old environments code new environments
after_values code old new environments order grows = record {
  grows = grows;
  longer = longer_same environments;
  program = refl;
  in_order = record { ready = still_ready old new code order.ready grows; parts = still_each old new grows environments order.parts };
}

-- a pattern was tried
pub after_code : (code code' : Code) (old new : Values) (environments : List (List Part)) → IsInOrder code old environments → Grows old new
    → program_of code' ≡ program_of code → IsReady (names new) code' → IsAfter code old environments code' new environments
after_code code code' old new environments order grows same ready = record {
  grows = grows;
  longer = longer_same environments;
  program = same;
  in_order = record { ready = ready; parts = still_each old new grows environments order.parts };
}

-- environments were added
pub after_environments : (code : Code) (values : Values) (environments longer : List (List Part)) → IsInOrder code values environments
    → Longer environments longer → AllOf (ArePartsOf values) longer → IsAfter code values environments code values longer
after_environments code values environments longer order more each = record {
  grows = itself values;
  longer = more;
  program = refl;
  in_order = record { ready = order.ready; parts = each };
}

-- the same program has the same code and patterns
pub same_code : (code code' : Code) → program_of code' ≡ program_of code → code_in code' ≡ code_in code
unfolding code_in
same_code code code' same = ap code_of same

pub same_patterns : (code code' : Code) → program_of code' ≡ program_of code → IsPatternIn code' ≡ IsPatternIn code
unfolding IsPatternIn
same_patterns code code' same = ap IsPatternOf same
