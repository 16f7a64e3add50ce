use Rattle.std.proofs.Common.{◌∙◌, sym, ap, subst}
use Rattle.cd_model.specs.Thing as thing
use Rattle.cd_elements.specs.Elements.{table}
use Rattle.cd_elements.specs.Table.{IsShape, fields_of}
use Rattle.cd_elements.specs.declared.shape.Shape.TheVariants.{Record}
use Rattle.cd_members.proofs.RecordAttempts.{parts_shaped, parts_for_row}
use Rattle.cd_members.proofs.record.make_record.Goals as goal

-- the labels of the fields rise
pub of-requires : goal.of-requires
of-requires c = (parts_shaped c.requires c.in_ok-row.ensures c.in_ok-labels.ensures c.in_ok-parts.ensures).0

pub make-requires : goal.make-requires
make-requires c = subst (λ parts. IsShape (table c.args.elements.now) (Record parts)) (sym c.of.ensures)
    (parts_shaped c.requires c.in_ok-row.ensures c.in_ok-labels.ensures c.in_ok-parts.ensures)

-- the record is made for the row
pub returns-clause-made : goal.returns-clause-made
returns-clause-made c =
    let all = table c.args.elements.now in
    let made = c.in_ok-make.ensures.made in (
      made.0,
      made.1,
      (
        fields_of all c.in_ok-parts.parts.items,
        made.2 ∙ ap (λ parts. thing.Record (fields_of all parts)) c.of.ensures,
        parts_for_row c.requires c.in_ok-row.ensures c.in_ok-labels.ensures c.in_ok-parts.ensures,
      ),
    )
