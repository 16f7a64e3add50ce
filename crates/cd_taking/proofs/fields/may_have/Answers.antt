use Rattle.std.proofs.Common.{◌∙◌, ap, sym, ◌||◌, map}
use Rattle.cd_matching.specs.Kernel.{all_named}
use Rattle.cd_matching.specs.PlainKernel.{plain_kernel_field}
use Rattle.cd_cells.specs.Cells.{fields_of}
use Rattle.cd_cells.specs.Table.{table, names}
use Rattle.cd_taking.proofs.LabelsNamed.{all_named_is}
use Rattle.cd_taking.proofs.fields.may_have.Goals as goal

pub returns-else-more : goal.returns-else-more
returns-else-more c =
    let all = table c.args.values.now in
    let named = names c.args.values.now in
    c.are_named.ensures ∙ all_named_is named all c.args.fields.now c.args.parts.now
    ∙ ap (λ b. b || all_named (map plain_kernel_field c.args.fields.now) (fields_of named all c.args.parts.now)) (sym c.if-more.false)
