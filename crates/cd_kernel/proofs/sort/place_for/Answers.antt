use Rattle.std.proofs.Common.{◌∙◌, ◌++◌, ap, ap₂, sym, drop, ◌∷◌, ◌+◌, get_or}
use Rattle.std.proofs.lemmas.List.{take-map, drop-map, at_drop_more}
use Rattle.cd_model.specs.SortedFields.{inserted}
use Rattle.cd_model.proofs.InsertedFields.{stands_before}
use Rattle.cd_matching.specs.PlainKernel.{plain_kernel_field}
use Rattle.cd_kernel.specs.Inner.Building.{KernelFields}
use Rattle.cd_kernel.specs.Inner.PlainSteps.{plain_kernel_fields}
use Rattle.cd_kernel.proofs.sort.place_for.Goals as goal

-- the field stands before the first whose label is above its own
pub returns-in-Less-clause-put : goal.returns-in-Less-clause-put
returns-in-Less-clause-put c =
    let all = c.args.sorted.now in
    let index = c.loop-index.index in
    let field = plain_kernel_field c.args.field.now in
    let next = at_drop_more plain_kernel_fields all index c.index-sorted-index.result
    c.loop-index-test.true in
    let one = stands_before field
    (plain_kernel_field (get_or all index c.index-sorted-index.result))
    (plain_kernel_fields (drop (index + 1) all)) (sym c.compare.ensures ∙ c.in-Less.is) in
    c.loop-index.invariant
    ∙ ap₂ (λ (before after : KernelFields). before ++ after)
    (sym (take-map plain_kernel_field index all))
    (ap (inserted field) next ∙ one
    ∙ ap (λ (rest : KernelFields). field ∷ rest)
    (sym next ∙ sym (drop-map plain_kernel_field index all)))
