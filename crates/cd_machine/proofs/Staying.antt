-- Where values and environments are only added, what the code has stays what it is.
use Rattle.std.proofs.Common.{◌≡◌, ◌<◌, ℕ, zero, suc, List, [], ◌∷◌, ◌++◌, length, refl, sym, ap, subst, ◌∙◌, arith}
use Rattle.cd_syntax.specs.Name.{IsLabel}
use Rattle.cd_model.specs.AllOf.{AllOf}
use Rattle.cd_model.proofs.Covered.{each_both}
use Rattle.cd_model.specs.Thing.{IsRecord}
use Rattle.cd_cells.specs.Cells.{name_at, fields_of, IsPart}
use Rattle.cd_cells.specs.Table.{table, names, Grows}
use Rattle.cd_cells.specs.declared.cell.Part.{Part}
use Rattle.cd_cells.specs.declared.cell.ValueId.{ValueId}
use Rattle.cd_cells.specs.declared.values.Values.{Values}
use Rattle.cd_cells.proofs.GrownTables.{within_grown, thing_grown}
use Rattle.cd_cells.proofs.InGrown.{name_in_grown, fields_in_grown}
use Rattle.cd_evaluation.specs.Machine as machine
use Rattle.cd_evaluation.specs.Runs as runs
use Rattle.cd_operations.specs.Along.{items_along}
use Rattle.cd_operations.specs.FieldsOf as record_fields
use Rattle.cd_code.specs.Compiled.{env_of, ArePartsOf}
use Rattle.cd_machine.specs.PlainRan.{plain_outcome, IsOutcome}
use Rattle.cd_machine.specs.Inner.Nodes.{parts_at, Longer}
use Rattle.cd_machine.specs.Inner.PlainFrame.{env_at, items_at, plain_frame, plain_frames, plain_control, IsFrame, IsControl}
use Rattle.cd_machine.specs.declared.environments.EnvId.{EnvId}
use Rattle.cd_machine.specs.declared.frame.Frame.{Frame}
use Rattle.cd_machine.specs.declared.frame.Frame.TheVariants as frame
use Rattle.cd_machine.specs.declared.outcome.Outcome.{Outcome}
use Rattle.cd_machine.specs.declared.outcome.Outcome.TheVariants.{Done, Raised, Overflow, Spent, Stuck}
use Rattle.cd_machine.specs.declared.turn.Control.{Control}
use Rattle.cd_machine.specs.declared.turn.Control.TheVariants.{Evaluating, Returning}
use Rattle.cd_machine.proofs.NodesAdded.{stays, within}

-- a fact of each environment is one of that of a number
pub each_at : (Fact : List Part → Type 0) (all : List (List Part)) (number : ℕ) → AllOf Fact all → Fact [] → Fact (parts_at all number)
each_at Fact [] number each none = none
each_at Fact (first ∷ all) zero each none = each.0
each_at Fact (first ∷ all) (suc number) each none = each_at Fact all number each.1 none

pub parts_of_env : (values : Values) (environments : List (List Part)) (number : ℕ) → AllOf (ArePartsOf values) environments
    → ArePartsOf values (parts_at environments number)
parts_of_env values environments number each = each_at (ArePartsOf values) environments number each tt

-- an environment was added: one more part before those of another one
pub each_added : (values : Values) (all new : List (List Part)) (part : Part) (around : ℕ) → new ≡ all ++ (part ∷ parts_at all around) ∷ []
    → AllOf (ArePartsOf values) all → ArePartsOf values (part ∷ []) → AllOf (ArePartsOf values) new
each_added values all new part around is each one = subst (AllOf (ArePartsOf values)) (sym is)
    (each_both (ArePartsOf values) all ((part ∷ parts_at all around) ∷ []) each ((one.0, parts_of_env values all around each), tt))

module _ (old new : Values) (grows : Grows old new) where
  pub parts_stay : (parts : List Part) → ArePartsOf old parts → env_of new parts ≡ env_of old parts
  parts_stay parts are = ap (λ labels. fields_of labels (table new) parts) grows.labels.1
      ∙ ap (λ all. fields_of (names old ++ grows.labels.0) all parts) grows.things.1
      ∙ fields_in_grown (names old) grows.labels.0 (table old) grows.things.0 parts are

  pub still_part : (bound : ℕ) (part : Part) → bound < suc (length (table old)) → IsPart (names old) bound part
      → IsPart (names new) (length (table new)) part
  still_part bound part less is = (
    subst IsLabel (sym (ap (λ labels. name_at labels part.label) grows.labels.1 ∙ name_in_grown (names old) grows.labels.0 part.label is.0)) is.0,
    within_grown old new grows part.value (omega (arith, is.1)),
  )

  -- parts below a number of the table are parts of it
  pub parts_below : (bound : ℕ) (parts : List Part) → bound < suc (length (table old)) → AllOf (IsPart (names old) bound) parts → ArePartsOf new parts
  parts_below bound [] less are = tt
  parts_below bound (part ∷ parts) less are = (still_part bound part less are.0, parts_below bound parts less are.1)

  pub still_parts : (parts : List Part) → ArePartsOf old parts → ArePartsOf new parts
  still_parts parts are = parts_below (length (table old)) parts (omega arith) are

  pub still_each : (environments : List (List Part)) → AllOf (ArePartsOf old) environments → AllOf (ArePartsOf new) environments
  still_each [] each = tt
  still_each (parts ∷ environments) each = (still_parts parts each.0, still_each environments each.1)

  pub outcome_stays : (outcome : Outcome) → IsOutcome (length (table old)) outcome → plain_outcome (table new) outcome ≡ plain_outcome (table old) outcome
  outcome_stays (Done id) is = ap runs.Done (thing_grown old new grows id.0 is)
  outcome_stays (Raised id) is = ap runs.Raised (thing_grown old new grows id.0 is)
  outcome_stays Overflow is = refl
  outcome_stays Spent is = refl
  outcome_stays Stuck is = refl

  pub still_outcome : (outcome : Outcome) → IsOutcome (length (table old)) outcome → IsOutcome (length (table new)) outcome
  still_outcome (Done id) is = within_grown old new grows id.0 is
  still_outcome (Raised id) is = within_grown old new grows id.0 is
  still_outcome Overflow is = tt
  still_outcome Spent is = tt
  still_outcome Stuck is = tt

  module _ (environments longer : List (List Part)) (more : Longer environments longer) (each : AllOf (ArePartsOf old) environments) where
    pub env_stays : (env : EnvId) → env.0 < length environments → env_at new longer env ≡ env_at old environments env
    env_stays env is = ap (env_of new) (stays environments longer more env.0 is)
        ∙ parts_stay (parts_at environments env.0) (parts_of_env old environments env.0 each)

    pub still_env : (env : EnvId) → env.0 < length environments → env.0 < length longer
    still_env env is = within environments longer more env.0 is

    items_stay : (id : ValueId) → id.0 < length (table old) → items_at new longer id ≡ items_at old environments id
    items_stay id is = ap items_along (thing_grown old new grows id.0 is)

    pub frame_stays : (one : Frame) → IsFrame old environments one → plain_frame new longer one ≡ plain_frame old environments one
    frame_stays (frame.First next rest env) is = cc (env_stays env is)
    frame_stays (frame.Second first) is = cc (thing_grown old new grows first.0 is)
    frame_stays (frame.Iteming done rest env) is = cc (items_stay done is.0, env_stays env is.1)
    frame_stays (frame.Splicing done rest env) is = cc (items_stay done is.0, env_stays env is.1)
    frame_stays (frame.Fielding done label rest env) is = cc (ap record_fields.fields_of (thing_grown old new grows done.0 is.0), env_stays env is.2)
    frame_stays (frame.Tagging attributes content env) is = cc (env_stays env is)
    frame_stays (frame.Attributing tag content env) is = cc (thing_grown old new grows tag.0 is.0, env_stays env is.1)
    frame_stays (frame.Filling tag attributes) is = cc (thing_grown old new grows tag.0 is.0, thing_grown old new grows attributes.0 is.1)
    frame_stays (frame.Called arguments env) is = cc (env_stays env is)
    frame_stays (frame.Argument self arguments env) is = cc (thing_grown old new grows self.0 is.0, env_stays env is.1)
    frame_stays (frame.Matching branches env) is = cc (env_stays env is)
    frame_stays (frame.Trying branches env) is = cc (env_stays env is)
    frame_stays (frame.Letting pattern rest env) is = cc (env_stays env is)
    frame_stays (frame.Asking then_one else_one env) is = cc (env_stays env is)
    frame_stays (frame.Wording word) is = refl
    frame_stays (frame.Tailing tails env) is = cc (env_stays env is)
    frame_stays (frame.Operating op left rest env) is = cc (thing_grown old new grows left.0 is.0, env_stays env is.1)
    frame_stays (frame.Listing branches env) is = cc (env_stays env is)
    frame_stays (frame.Mapping branches env done left) is = cc (env_stays env is.0, items_stay done is.1, items_stay left is.2)
    frame_stays (frame.Sifting branches env) is = cc (env_stays env is)
    frame_stays (frame.Joining branches env done left) is = cc (env_stays env is.0, items_stay done is.1, items_stay left is.2)

    pub frames_stay : (frames : List Frame) → AllOf (IsFrame old environments) frames → plain_frames new longer frames ≡ plain_frames old environments frames
    frames_stay [] are = refl
    frames_stay (one ∷ frames) are = cc (frame_stays one are.0, frames_stay frames are.1)

    pub still_frame : (one : Frame) → IsFrame old environments one → IsFrame new longer one
    still_frame (frame.First next rest env) is = still_env env is
    still_frame (frame.Second first) is = within_grown old new grows first.0 is
    still_frame (frame.Iteming done rest env) is = (within_grown old new grows done.0 is.0, still_env env is.1)
    still_frame (frame.Splicing done rest env) is = (within_grown old new grows done.0 is.0, still_env env is.1)
    still_frame (frame.Fielding done label rest env) is =
        (within_grown old new grows done.0 is.0, subst IsRecord (sym (thing_grown old new grows done.0 is.0)) is.1, still_env env is.2)
    still_frame (frame.Tagging attributes content env) is = still_env env is
    still_frame (frame.Attributing tag content env) is = (within_grown old new grows tag.0 is.0, still_env env is.1)
    still_frame (frame.Filling tag attributes) is = (within_grown old new grows tag.0 is.0, within_grown old new grows attributes.0 is.1)
    still_frame (frame.Called arguments env) is = still_env env is
    still_frame (frame.Argument self arguments env) is = (within_grown old new grows self.0 is.0, still_env env is.1)
    still_frame (frame.Matching branches env) is = still_env env is
    still_frame (frame.Trying branches env) is = still_env env is
    still_frame (frame.Letting pattern rest env) is = still_env env is
    still_frame (frame.Asking then_one else_one env) is = still_env env is
    still_frame (frame.Wording word) is = tt
    still_frame (frame.Tailing tails env) is = still_env env is
    still_frame (frame.Operating op left rest env) is = (within_grown old new grows left.0 is.0, still_env env is.1)
    still_frame (frame.Listing branches env) is = still_env env is
    still_frame (frame.Mapping branches env done left) is = (still_env env is.0, within_grown old new grows done.0 is.1, within_grown old new grows left.0 is.2)
    still_frame (frame.Sifting branches env) is = still_env env is
    still_frame (frame.Joining branches env done left) is = (still_env env is.0, within_grown old new grows done.0 is.1, within_grown old new grows left.0 is.2)

    pub still_frames : (frames : List Frame) → AllOf (IsFrame old environments) frames → AllOf (IsFrame new longer) frames
    still_frames [] are = tt
    still_frames (one ∷ frames) are = (still_frame one are.0, still_frames frames are.1)

    pub control_stays : (control : Control) → IsControl old environments control → plain_control new longer control ≡ plain_control old environments control
    control_stays (Evaluating e env) is = cc (env_stays env is)
    control_stays (Returning outcome) is = ap machine.Returning (outcome_stays outcome is)
