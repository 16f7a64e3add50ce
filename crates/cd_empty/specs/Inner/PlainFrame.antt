-- The frames of the code as those of the machine.
use Rattle.std.specs.Prelude.{List, ◌++◌, map}
use Rattle.std.specs.Option.{option_map}
use Rattle.cd_sets.specs.declared.question.Question.{Question}
use Rattle.cd_rules.specs.Machine.{Work, work, State, state}
use Rattle.cd_rules.specs.Machine as machine
use Rattle.cd_normal.specs.Partials.{partials}
use Rattle.cd_normal.specs.PlainClause.{plain_clause}
use Rattle.cd_tasks.specs.PlainTask.{plain_task}
use Rattle.cd_empty.specs.declared.decider.Decider.{Decider}
use Rattle.cd_empty.specs.declared.frame.Frame.{Frame}
use Rattle.cd_empty.specs.Kept.{kept, witnesses}
use Rattle.cd_verdicts.specs.Verdicts.{family}

abbrev pub plain_work : Frame → Work
plain_work frame = work (partials frame.conjuncts) (option_map plain_clause frame.clause)
    (map plain_task frame.later) (map plain_task frame.branches)

abbrev pub plain_frame : Frame → machine.Frame
plain_frame frame = machine.frame frame.place frame.question (plain_work frame)

-- the state of the machine; and the questions that are settled or assumed to have no element
abbrev pub state_of : Decider → List Frame → State
state_of decider frames = state (witnesses decider) decider.list (map plain_frame frames)

abbrev pub settled : Decider → List Question
settled decider = family (kept decider)

abbrev pub known : Decider → List Question
known decider = settled decider ++ decider.list
