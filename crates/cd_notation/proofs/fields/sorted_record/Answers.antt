use Rattle.std.proofs.Common.{◌∙◌, IfOk, sym, ap, subst}
use Rattle.cd_model.specs.Thing.{Fields, Record}
use Rattle.cd_cells.specs.Table.{table, names, IsAt}
use Rattle.cd_notation.specs.Open.{LabelsDiffer, fields_read}
use Rattle.cd_notation.proofs.Parts.{differ_reversed, read_back}
use Rattle.cd_notation.proofs.fields.sorted_record.Goals as goal

pub sort_fields-requires-clause-differ : goal.sort_fields-requires-clause-differ
sort_fields-requires-clause-differ c = subst LabelsDiffer (sym c.reverse.ensures.after) (differ_reversed _ c.requires.differ)

pub returns-clause-is : goal.returns-clause-is
returns-clause-is c =
    let all = names c.args.values.now in
    let things = table c.args.values.now in
    let is = c.sort_fields.ensures.fields ∙ ap (fields_read all things) c.reverse.ensures.after ∙ read_back all things c.args.parts.now in
    subst (λ (fields : Fields). IfOk c.record_of.result (λ id. IsAt (table c.record_of.new.self) id.0 (Record fields))) is c.record_of.ensures.is
