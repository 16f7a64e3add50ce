use Rattle.std.proofs.Common.{◌∙◌, ◌++◌, ap, ap₂, sym, drop, ◌∷◌, ◌+◌, get_or, List}
use Rattle.std.proofs.lemmas.List.{take-map, drop-map, at_drop_more}
use Rattle.cd_syntax.specs.Name.{Name}
use Rattle.cd_model.specs.Formula.{Field}
use Rattle.cd_model.specs.SortedFields.{inserted}
use Rattle.cd_model.proofs.InsertedFields.{stands_before}
use Rattle.cd_graph.specs.PlainFormula.{plain_field, plain_named}
use Rattle.cd_forms.proofs.SortedCode.{plain_one}
use Rattle.cd_forms.proofs.sorting.place_for.Goals as goal

-- the field stands before the first whose label is above its own
pub returns-in-Less-clause-put : goal.returns-in-Less-clause-put
returns-in-Less-clause-put c =
    let all = c.args.sorted.now in
    let index = c.loop-index.index in
    let field : Name × Field = (c.args.label.now, plain_field c.args.field) in
    let next = at_drop_more plain_named all index c.index-sorted-index.result
    c.loop-index-test.true in
    let one = stands_before field
    (plain_one (get_or all index c.index-sorted-index.result))
    (plain_named (drop (index + 1) all)) (sym c.compare.ensures ∙ c.in-Less.is) in
    c.loop-index.invariant
    ∙ ap₂ (λ (before after : List (Name × Field)). before ++ after)
    (sym (take-map plain_one index all))
    (ap (inserted field) next ∙ one
    ∙ ap (λ (rest : List (Name × Field)). field ∷ rest)
    (sym next ∙ sym (drop-map plain_one index all)))
