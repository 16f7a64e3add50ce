use Rattle.std.proofs.Common.{◌∙◌, ◌++◌, ap, ap₂, sym, drop, ◌∷◌, ◌+◌, List, get_or}
use Rattle.std.proofs.lemmas.List.{take-map, drop-map, take-append-drop, at_drop_more}
use Rattle.cd_graph.specs.PlainFormula.{plain_named}
use Rattle.cd_syntax.specs.Name.{Name}
use Rattle.cd_model.specs.Formula.{Field}
use Rattle.cd_resolve.specs.Inner.PlainState.{plain_one}
use Rattle.cd_resolve.specs.Inner.Leaves.{inserted}
use Rattle.cd_resolve.proofs.Inserted.{stands_before, stands_there}
use Rattle.cd_resolve.proofs.sort.place_for.Goals as goal

-- the field stands before the first whose label is above its own
pub returns-in-Less-clause-put : goal.returns-in-Less-clause-put
returns-in-Less-clause-put c =
    let all = c.args.sorted.now in
    let index = c.loop-index.index in
    let field = plain_one c.args.field.now in
    let next = at_drop_more plain_named all index c.index-sorted-index.result c.loop-index-test.true in
    let one = stands_before field (plain_one (get_or all index c.index-sorted-index.result))
    (plain_named (drop (index + 1) all)) (sym c.compare.ensures ∙ c.in-Less.is) in
    c.loop-index.invariant
    ∙ ap₂ (λ (before after : List (Name × Field)). before ++ after) (sym (take-map plain_one index all))
    (ap (inserted field) next ∙ one
    ∙ ap (λ (rest : List (Name × Field)). field ∷ rest) (sym next ∙ sym (drop-map plain_one index all)))

-- and nowhere, where its label stands
pub returns-in-Equal-clause-put : goal.returns-in-Equal-clause-put
returns-in-Equal-clause-put c =
    let all = c.args.sorted.now in
    let index = c.loop-index.index in
    let field = plain_one c.args.field.now in
    let next = at_drop_more plain_named all index c.index-sorted-index.result c.loop-index-test.true in
    let one = stands_there field (plain_one (get_or all index c.index-sorted-index.result))
    (plain_named (drop (index + 1) all)) (sym c.compare.ensures ∙ c.in-Equal.is) in
    c.loop-index.invariant
    ∙ ap₂ (λ (before after : List (Name × Field)). before ++ after) (sym (take-map plain_one index all))
    (ap (inserted field) next ∙ one ∙ sym next ∙ sym (drop-map plain_one index all))
    ∙ take-append-drop index (plain_named all)
