use Rattle.std.proofs.Common.{List, IfOk, subst}
use Rattle.cd_model.specs.Thing.{Record, NoField}
use Rattle.cd_cells.specs.declared.cell.Part.{Part}
use Rattle.cd_cells.specs.Table.{table, names, IsAt}
use Rattle.cd_documents.specs.Machine.{with_fields}
use Rattle.cd_notation.specs.Open.{names_of, values_of}
use Rattle.cd_notation.proofs.fields.record_of_parts.Goals as goal

pub returns-clause-is : goal.returns-clause-is
returns-clause-is c =
    let all = names c.args.values.now in
    let things = table c.args.values.now in
    subst (λ (parts : List Part). IfOk c.sorted_record.result
    (λ id. IsAt (table c.sorted_record.new.values) id.0 (Record (with_fields (names_of all parts) (values_of things parts) NoField))))
    c.as_mut_slice.ensures.value c.sorted_record.ensures.is
