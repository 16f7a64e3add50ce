-- Two records are merged, field by field.
use Rattle.std.specs.Prelude.{◌≡◌, ◌<◌, ◌+◌, List, None, length}
use Rattle.cd_model.specs.AllOf.{AllOf}
use Rattle.cd_model.specs.Thing.{Fields, Field, LabelsRise}
use Rattle.cd_cells.specs.declared.cell.Part.{Part}
use Rattle.cd_cells.specs.declared.values.Values.{Values}
use Rattle.cd_cells.specs.Cells.{thing_at, name_at, fields_of, IsPart}
use Rattle.cd_cells.specs.Table.{table, names}
use Rattle.cd_evaluation.specs.RecordFields.{merged}
use Rattle.cd_operations.specs.declared.merging.Both.{Both}

-- the fields of these parts
abbrev pub fields_by : Values → List Part → Fields
fields_by values parts = fields_of (names values) (table values) parts

-- the parts are those of a record of the table
pub record AreOfRecord (values : Values) (parts : List Part) : Type 0 where
  pub parts_are : AllOf (IsPart (names values) (length (table values))) parts
  pub rise : LabelsRise None (fields_by values parts)

-- the fields of both records
abbrev pub fields_of_both : Values → Both → Fields
fields_of_both values both =
    merged (fields_by values both.first.now) (fields_by values both.second.now)

abbrev pub AreOfRecords : Values → Both → Type 0
AreOfRecords values both =
    AreOfRecord values both.first.now × AreOfRecord values both.second.now

-- this part is the first of the fields of both, and the others are those of the rest
pub record IsNext (values : Values) (both : Both) (next : Part × Both) : Type 0 where
  pub is : IsPart (names values) (length (table values)) next.0
  pub rest : AreOfRecords values next.1
  pub fields : fields_of_both values both
      ≡ Field (name_at (names values) next.0.label) (thing_at (table values) next.0.value)
      (fields_of_both values next.1)
  pub shorter : length next.1.first.now + length next.1.second.now
      < length both.first.now + length both.second.now
