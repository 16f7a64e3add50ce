-- Turns to the body of a branch, and to other outcomes.
use Rattle.std.proofs.Common.{◌≡◌, List, [], ◌∷◌, length, Option, Some, None, refl}
use Rattle.cd_cells.specs.Table.{table}
use Rattle.cd_cells.specs.declared.cell.Part.{Part}
use Rattle.cd_cells.specs.declared.values.Values.{Values}
use Rattle.cd_machine.specs.PlainRan.{plain_outcome, IsOutcome}
use Rattle.cd_machine.specs.Inner.Entries.{plain_choice, IsEntry, enters, enters_or}
use Rattle.cd_machine.specs.Inner.PlainFrame.{plain_turn, plain_frame, IsTurn, IsFrame}
use Rattle.cd_machine.specs.Inner.Resuming.{entry_turn}
use Rattle.cd_machine.specs.Inner.Turn.{give, give_to, paid}
use Rattle.cd_machine.specs.declared.branches.Entry.{Entry}
use Rattle.cd_machine.specs.declared.frame.Frame.{Frame}
use Rattle.cd_machine.specs.declared.outcome.Outcome.{Outcome}

module _ (values : Values) (environments : List (List Part)) where
  pub entered_is : (entry : Option Entry) (frame : Frame) (otherwise : Outcome) → plain_turn values environments (enters entry (Some frame) otherwise)
      ≡ paid (entry_turn (plain_choice values environments entry) (plain_frame values environments frame ∷ []) (give (plain_outcome (table values) otherwise)))
  entered_is None frame otherwise = refl
  entered_is (Some entry) frame otherwise = refl

  pub entered_alone : (entry : Option Entry) (otherwise : Outcome) → plain_turn values environments (enters entry None otherwise)
      ≡ paid (entry_turn (plain_choice values environments entry) [] (give (plain_outcome (table values) otherwise)))
  entered_alone None otherwise = refl
  entered_alone (Some entry) otherwise = refl

  pub entered_or_is : (entry : Option Entry) (frame : Frame) (otherwise : Outcome) → plain_turn values environments (enters_or entry frame otherwise)
      ≡ paid (entry_turn (plain_choice values environments entry) (plain_frame values environments frame ∷ [])
      (give_to (plain_frame values environments frame ∷ []) (plain_outcome (table values) otherwise)))
  entered_or_is None frame otherwise = refl
  entered_or_is (Some entry) frame otherwise = refl

  pub entered_within : (entry : Option Entry) (frame : Frame) (otherwise : Outcome) → IsEntry environments entry → IsFrame values environments frame
      → IsOutcome (length (table values)) otherwise → IsTurn values environments (enters entry (Some frame) otherwise)
  entered_within None frame otherwise within is outcome = (outcome, tt)
  entered_within (Some entry) frame otherwise within is outcome = (within, (is, tt))

  pub entered_alone_within : (entry : Option Entry) (otherwise : Outcome) → IsEntry environments entry
      → IsOutcome (length (table values)) otherwise → IsTurn values environments (enters entry None otherwise)
  entered_alone_within None otherwise within outcome = (outcome, tt)
  entered_alone_within (Some entry) otherwise within outcome = (within, tt)

  pub entered_or_within : (entry : Option Entry) (frame : Frame) (otherwise : Outcome) → IsEntry environments entry → IsFrame values environments frame
      → IsOutcome (length (table values)) otherwise → IsTurn values environments (enters_or entry frame otherwise)
  entered_or_within None frame otherwise within is outcome = (outcome, (is, tt))
  entered_or_within (Some entry) frame otherwise within is outcome = (within, (is, tt))
