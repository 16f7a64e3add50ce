-- Where the machine goes at the items of a sequence and at the fields of a record: to the next
-- expression of them.
use Rattle.std.specs.Prelude.{ℕ, List, [], ◌∷◌, map}
use Rattle.cd_model.specs.Thing as thing
use Rattle.cd_model.specs.Thing.{Thing, Character, Record}
use Rattle.cd_matching.specs.Sequences.{sequence_of}
use Rattle.cd_program.specs.Expr.{Items, NoItem, AnItem, One, Splice, Run, Fields, NoField, AField}
use Rattle.cd_evaluation.specs.Runs.{Done}
use Rattle.cd_evaluation.specs.Environment.{Env}
use Rattle.cd_evaluation.specs.Lists.{before}
use Rattle.cd_evaluation.specs.Machine.{State, evaluating, returning}
use Rattle.cd_evaluation.specs.Machine.{Frame, Iteming, Splicing, Fielding}

-- after the items that are done, which are kept from the last
abbrev pub items_next : Items → Env → (done : List Thing) → ℕ → List Frame → State
items_next NoItem env done units stack =
    returning (Done (sequence_of (before done []))) units stack
items_next (AnItem (One e) rest) env done units stack =
    evaluating e env units (Iteming done rest env ∷ stack)
items_next (AnItem (Splice e) rest) env done units stack =
    evaluating e env units (Splicing done rest env ∷ stack)
items_next (AnItem (Run characters) rest) env done units stack =
    items_next rest env (before (map Character characters) done) units stack

-- beside the fields that are done
abbrev pub fields_next : Fields → Env → (done : thing.Fields) → ℕ → List Frame → State
fields_next NoField env done units stack = returning (Done (Record done)) units stack
fields_next (AField label at e rest) env done units stack =
    evaluating e env units (Fielding done label rest env ∷ stack)
