use Rattle.std.proofs.Common.{◌≡◌, ◌∙◌, ap, sym, subst, refl, List, Some, option_map, ◌<◌, length}
use Rattle.std.specs.List.{find}
use Rattle.std.specs.Str.{chars}
use Rattle.cd_syntax.specs.Name.{Name}
use Rattle.cd_model.specs.Thing.{Thing}
use Rattle.cd_matching.specs.Take.{at_label}
use Rattle.cd_cells.specs.declared.cell.Part.{Part}
use Rattle.cd_cells.specs.Cells.{thing_at, fields_of}
use Rattle.cd_cells.specs.FieldOf.{is_of}
use Rattle.cd_cells.specs.Table.{table, names}
use Rattle.cd_cells.proofs.FieldsFound.{value, field_found, found_within}
use Rattle.cd_taking.proofs.fields.value_at.Goals as goal

at_found : (named : List Name) (all : List Thing) (label : Name) (parts : List Part)
    → option_map (value named all label) (find (is_of named label) parts) ≡ at_label (fields_of named all parts) label
at_found named all label parts =
    sym (field_found named all label (λ fields. at_label fields label) refl (λ name v rest. refl) parts)

pub returns-in-Some-clause-is : goal.returns-in-Some-clause-is
returns-in-Some-clause-is c =
    let all = table c.args.values.now in
    let named = names c.args.values.now in
    let label = chars c.args.label.now in
    ap (λ n. Some (thing_at all n)) c.id.ensures ∙ ap (option_map (value named all label)) (sym c.in-Some.is ∙ c.field_of.ensures)
    ∙ at_found named all label c.args.parts.now

pub returns-in-Some-clause-within : goal.returns-in-Some-clause-within
returns-in-Some-clause-within c =
    let all = table c.args.values.now in
    subst (λ n. n < length all) (sym c.id.ensures)
    (found_within (names c.args.values.now) all (chars c.args.label.now) (length all) c.args.parts.now c.in-Some.part c.requires
    (sym c.in-Some.is ∙ c.field_of.ensures))

pub returns-in-None-clause-is : goal.returns-in-None-clause-is
returns-in-None-clause-is c =
    let all = table c.args.values.now in
    let named = names c.args.values.now in
    let label = chars c.args.label.now in
    ap (option_map (value named all label)) (sym c.in-None.is ∙ c.field_of.ensures) ∙ at_found named all label c.args.parts.now
