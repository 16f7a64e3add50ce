-- What the contracts of steps say.
use Rattle.std.specs.Prelude.{◌++◌, List, map}
use Rattle.cd_model.specs.Thing.{Thing}
use Rattle.cd_cells.specs.Cells.{fields_of}
use Rattle.cd_cells.specs.Table.{table, names}
use Rattle.cd_cells.specs.declared.cell.Part.{Part}
use Rattle.cd_cells.specs.declared.values.Values.{Values}
use Rattle.cd_graph.specs.Nodes.{nodes}
use Rattle.cd_graph.specs.declared.graph.Graph.{Graph}
use Rattle.cd_asking.specs.Inner.Asked.{set_at, done_by, plain_task, IsStep}
use Rattle.cd_asking.specs.Inner.Shapes.{Shape, Record, members, shape_of, fields_with}
use Rattle.cd_asking.specs.Inner.Tasks.{after, answered, size, size_of_fields, weight}
use Rattle.cd_asking.specs.MappedArrows.{maps_at}
use Rattle.cd_asking.specs.Mappings.{Mappings}
use Rattle.cd_asking.specs.declared.asker.Asker.{Asker}
use Rattle.cd_asking.specs.declared.node_sets.SetId.{SetId}
use Rattle.cd_asking.specs.declared.row.Answered.{Answered}
use Rattle.cd_asking.specs.declared.task.Next.{Next}
use Rattle.cd_asking.specs.declared.task.Task.{Task}

module _ (graph : Graph) (maps : Mappings) (values : Values) (old new : Asker) where
  -- the next step makes those of the nodes of a set that hold a value
  abbrev pub Asks : SetId → Thing → Next → Type 0
  Asks set is next = IsStep (names values) (nodes graph) (maps_at maps) (table values) new
      (members (nodes graph) (shape_of (nodes graph) (maps_at maps) is) (set_at old.sets set))
      (size is) next

  -- that hold a record, of which these fields have answered and those are left
  abbrev pub AsksRecord : SetId → (done : List Answered) → (left : List Part) → Next → Type 0
  AsksRecord set done left next =
      let fields = fields_of (names values) (table values) left in
      let known = answered (map (done_by (names values) old.sets) done) in
      IsStep (names values) (nodes graph) (maps_at maps) (table values) new
      (members (nodes graph) (Record (known ++ fields_with (nodes graph) (maps_at maps) fields))
      (set_at old.sets set)) (size_of_fields fields) next

  -- that hold a value whose parts have answered
  abbrev pub AsksShape : SetId → Shape → Next → Type 0
  AsksShape set is next = IsStep (names values) (nodes graph) (maps_at maps) (table values) new
      (members (nodes graph) is (set_at old.sets set)) 1 next

  -- what a task makes of an answer
  abbrev pub Does : Task → (answer : SetId) → Next → Type 0
  Does task answer next =
      let is = plain_task (names values) (table values) old task in
      IsStep (names values) (nodes graph) (maps_at maps) (table values) new
      (after (nodes graph) (maps_at maps) is (set_at old.sets answer)) (weight is) next
