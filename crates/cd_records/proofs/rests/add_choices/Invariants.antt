use Rattle.std.proofs.Common.{◌≡◌, ◌++◌, drop, map}
use Rattle.cd_needs.specs.RecordTypes.{plain_row}
use Rattle.cd_records.specs.Inner.Plain.{plain_choice, plain_rest}
use Rattle.cd_records.specs.Inner.Rests.{rests_of_choices}
use Rattle.cd_records.proofs.rests.add_choices.Given as goal

-- the rests so far, and those of the choices that are left, are all
abbrev pub invariant-loop-choice : goal.invariant-loop-choice
invariant-loop-choice l = map plain_rest l.rests.items
    ++ rests_of_choices (plain_row l.row) (map plain_choice (drop l.choice-index l.choices))
    ≡ map plain_rest l.fn.rests.items
    ++ rests_of_choices (plain_row l.row) (map plain_choice l.choices)
