-- The fields of a record.
use Rattle.cd_model.specs.Thing.{Thing, Record, Fields, NoField}

-- what is no record has none
abbrev pub fields_of : Thing → Fields
fields_of (Record fields) = fields
fields_of _ = NoField
