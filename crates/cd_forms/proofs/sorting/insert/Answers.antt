use Rattle.std.proofs.Common.{◌∙◌, ◌++◌, ◌∷◌, ap, sym, take, drop}
use Rattle.cd_model.specs.SortedFields.{inserted}
use Rattle.cd_graph.specs.PlainFormula.{plain_field, plain_named}
use Rattle.cd_forms.proofs.SortedCode.{map_inserted}
use Rattle.cd_forms.proofs.sorting.insert.Goals as goal

-- the field stands at its place
pub returns : goal.returns
returns c = let index = c.place_for-index.result in
    ap plain_named c.in_ok-insert.ensures.items
    ∙ map_inserted c.args.sorted.now.items index (c.args.label, c.args.field)
    ∙ ap (λ all. take index (plain_named all)
    ++ (c.args.label, plain_field c.args.field) ∷ drop index (plain_named all))
    (sym c.as_slice.ensures.value)
    ∙ sym c.place_for-index.ensures.put
    ∙ ap (λ all. inserted (c.args.label, plain_field c.args.field) (plain_named all))
    c.as_slice.ensures.value
