-- Frames, controls and turns as plain data, over the values of a table and environments.
use Rattle.std.specs.Prelude.{◌≡◌, ◌<◌, List, [], ◌∷◌, length, map, Option, Some, None}
use Rattle.cd_syntax.specs.PlainTree.{plain as plain_tree}
use Rattle.cd_model.specs.AllOf.{AllOf}
use Rattle.cd_model.specs.Thing.{Thing, IsRecord}
use Rattle.cd_program.specs.Expr.{exprs_of, items_of, fields_of, tails_of}
use Rattle.cd_program.specs.PlainExpr.{plain, plain_item, plain_field, plain_tail, plain_branches}
use Rattle.cd_cells.specs.Cells.{thing_at}
use Rattle.cd_cells.specs.Table.{table}
use Rattle.cd_cells.specs.declared.cell.Part.{Part}
use Rattle.cd_cells.specs.declared.cell.ValueId.{ValueId}
use Rattle.cd_cells.specs.declared.values.Values.{Values}
use Rattle.cd_evaluation.specs.Environment.{Env}
use Rattle.cd_evaluation.specs.Machine as machine
use Rattle.cd_operations.specs.Along.{items_along}
use Rattle.cd_operations.specs.FieldsOf as record_fields
use Rattle.cd_code.specs.Compiled.{env_of}
use Rattle.cd_machine.specs.PlainRan.{plain_outcome, IsOutcome}
use Rattle.cd_machine.specs.Inner.Nodes.{parts_at}
use Rattle.cd_machine.specs.Inner.Turn as turn
use Rattle.cd_machine.specs.declared.environments.EnvId.{EnvId}
use Rattle.cd_machine.specs.declared.frame.Frame.{Frame}
use Rattle.cd_machine.specs.declared.frame.Frame.TheVariants as frame
use Rattle.cd_machine.specs.declared.turn.Control.{Control}
use Rattle.cd_machine.specs.declared.turn.Control.TheVariants.{Evaluating, Returning}
use Rattle.cd_machine.specs.declared.turn.Turn.{Turn}

-- the frames that a turn pushes, the innermost first
abbrev pub waiting : Option ValueId → List Frame
waiting None = []
waiting (Some id) = frame.Second id ∷ []

abbrev pub before_those : Option Frame → List Frame → List Frame
before_those None frames = frames
before_those (Some one) frames = one ∷ frames

abbrev pub pushed_by : Turn → List Frame
pushed_by turn = before_those turn.frame (waiting turn.first)

module _ (values : Values) (environments : List (List Part)) where
  abbrev pub env_at : EnvId → Env
  env_at env = env_of values (parts_at environments env.0)

  -- a value, the items that it has as a sequence, and the fields that it has as a record
  abbrev pub value_of : ValueId → Thing
  value_of id = thing_at (table values) id.0

  abbrev pub items_at : ValueId → List Thing
  items_at id = items_along (value_of id)

  abbrev pub plain_frame : Frame → machine.Frame
  plain_frame (frame.First next rest env) =
      machine.First (plain next.now) (exprs_of (map plain rest.now)) (env_at env)
  plain_frame (frame.Second first) = machine.Second (value_of first)
  plain_frame (frame.Iteming done rest env) =
      machine.Iteming (items_at done) (items_of (map plain_item rest.now)) (env_at env)
  plain_frame (frame.Splicing done rest env) =
      machine.Splicing (items_at done) (items_of (map plain_item rest.now)) (env_at env)
  plain_frame (frame.Fielding done label rest env) =
      machine.Fielding (record_fields.fields_of (value_of done)) label.now
      (fields_of (map plain_field rest.now)) (env_at env)
  plain_frame (frame.Tagging attributes content env) =
      machine.Tagging (plain attributes.now) (plain content.now) (env_at env)
  plain_frame (frame.Attributing tag content env) =
      machine.Attributing (value_of tag) (plain content.now) (env_at env)
  plain_frame (frame.Filling tag attributes) =
      machine.Filling (value_of tag) (value_of attributes)
  plain_frame (frame.Called arguments env) =
      machine.Called (exprs_of (map plain arguments.now)) (env_at env)
  plain_frame (frame.Argument self arguments env) =
      machine.Argument (value_of self) (exprs_of (map plain arguments.now)) (env_at env)
  plain_frame (frame.Matching branches env) =
      machine.Matching (plain_branches branches.now) (env_at env)
  plain_frame (frame.Trying branches env) =
      machine.Trying (plain_branches branches.now) (env_at env)
  plain_frame (frame.Letting pattern rest env) =
      machine.Letting (plain_tree pattern.now) (plain rest.now) (env_at env)
  plain_frame (frame.Asking then_one else_one env) =
      machine.Asking (plain then_one.now) (plain else_one.now) (env_at env)
  plain_frame (frame.Wording word) = machine.Wording word
  plain_frame (frame.Tailing tails env) =
      machine.Tailing (tails_of (map plain_tail tails.now)) (env_at env)
  plain_frame (frame.Operating op left rest env) =
      machine.Operating op (value_of left) (tails_of (map plain_tail rest.now)) (env_at env)
  plain_frame (frame.Listing branches env) =
      machine.Listing (plain_branches branches.now) (env_at env)
  plain_frame (frame.Mapping branches env done left) =
      machine.Mapping (plain_branches branches.now) (env_at env) (items_at done) (items_at left)
  plain_frame (frame.Sifting branches env) =
      machine.Sifting (plain_branches branches.now) (env_at env)
  plain_frame (frame.Joining branches env done left) =
      machine.Joining (plain_branches branches.now) (env_at env) (items_at done) (items_at left)

  abbrev pub plain_frames : List Frame → List machine.Frame
  plain_frames frames = map plain_frame frames

  abbrev pub plain_control : Control → machine.Control
  plain_control (Evaluating e env) = machine.Evaluating (plain e.now) (env_at env)
  plain_control (Returning outcome) = machine.Returning (plain_outcome (table values) outcome)

  abbrev pub plain_turn : Turn → turn.Turn
  plain_turn turn = record {
    takes = turn.takes;
    control = plain_control turn.control;
    pushed = plain_frames (pushed_by turn);
  }

  -- its numbers are those of values of the table, and of environments
  abbrev pub IsId : ValueId → Type 0
  IsId id = id.0 < length (table values)

  abbrev pub IsEnv : EnvId → Type 0
  IsEnv env = env.0 < length environments

  abbrev pub IsFrame : Frame → Type 0
  IsFrame (frame.First next rest env) = IsEnv env
  IsFrame (frame.Second first) = IsId first
  IsFrame (frame.Iteming done rest env) = IsId done × IsEnv env
  IsFrame (frame.Splicing done rest env) = IsId done × IsEnv env
  IsFrame (frame.Fielding done label rest env) =
      IsId done × IsRecord (value_of done) × IsEnv env
  IsFrame (frame.Tagging attributes content env) = IsEnv env
  IsFrame (frame.Attributing tag content env) = IsId tag × IsEnv env
  IsFrame (frame.Filling tag attributes) = IsId tag × IsId attributes
  IsFrame (frame.Called arguments env) = IsEnv env
  IsFrame (frame.Argument self arguments env) = IsId self × IsEnv env
  IsFrame (frame.Matching branches env) = IsEnv env
  IsFrame (frame.Trying branches env) = IsEnv env
  IsFrame (frame.Letting pattern rest env) = IsEnv env
  IsFrame (frame.Asking then_one else_one env) = IsEnv env
  IsFrame (frame.Wording word) = Unit {0}
  IsFrame (frame.Tailing tails env) = IsEnv env
  IsFrame (frame.Operating op left rest env) = IsId left × IsEnv env
  IsFrame (frame.Listing branches env) = IsEnv env
  IsFrame (frame.Mapping branches env done left) = IsEnv env × IsId done × IsId left
  IsFrame (frame.Sifting branches env) = IsEnv env
  IsFrame (frame.Joining branches env done left) = IsEnv env × IsId done × IsId left

  abbrev pub IsControl : Control → Type 0
  IsControl (Evaluating e env) = IsEnv env
  IsControl (Returning outcome) = IsOutcome (length (table values)) outcome

  abbrev pub IsTurn : Turn → Type 0
  IsTurn turn = IsControl turn.control × AllOf IsFrame (pushed_by turn)

-- whatever the environments are, the turn is what is made of this one
abbrev pub Comes : Values → EnvId → Turn → (Env → turn.Turn) → Type 0
Comes values env turn plain = (all : List (List Part))
    → plain_turn values all turn ≡ plain (env_at values all env)

abbrev pub IsWithin : Values → EnvId → Turn → Type 0
IsWithin values env turn = (all : List (List Part)) → env.0 < length all → IsTurn values all turn
