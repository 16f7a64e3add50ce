use Rattle.std.proofs.Common.{◌∙◌, ◌++◌, ◌∷◌, ap, sym, take, drop}
use Rattle.cd_model.specs.SortedFields.{inserted}
use Rattle.cd_matching.specs.PlainKernel.{plain_kernel_field}
use Rattle.cd_kernel.specs.Inner.PlainSteps.{plain_kernel_fields}
use Rattle.cd_kernel.proofs.FieldsSorted.{map_inserted}
use Rattle.cd_kernel.proofs.sort.insert.Goals as goal

-- the field stands at its place
pub returns : goal.returns
returns c = let index = c.place_for-index.result in
    ap plain_kernel_fields c.in_ok-insert.ensures.items
    ∙ map_inserted c.args.sorted.now.items index c.args.field
    ∙ ap (λ all. take index (plain_kernel_fields all)
    ++ plain_kernel_field c.args.field ∷ drop index (plain_kernel_fields all))
    (sym c.as_slice.ensures.value)
    ∙ sym c.place_for-index.ensures.put
    ∙ ap (λ all. inserted (plain_kernel_field c.args.field) (plain_kernel_fields all))
    c.as_slice.ensures.value
