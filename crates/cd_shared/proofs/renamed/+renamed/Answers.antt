use Rattle.std.proofs.Common.{◌≡◌, List, map, rules, sym, ap, ◌∙◌, drop_of_length-le}
use Rattle.std.proofs.Common.{◌++◌, append-nil}
use Rattle.cd_model.specs.Formula.{formulas_of}
use Rattle.cd_graph.specs.PlainFormula.{plain, plain_list}
use Rattle.cd_graph.specs.declared.formula.Formula.{Formula as CodeFormula}
use Rattle.cd_graph.proofs.Sizes.{items_fall}
use Rattle.cd_shared.specs.Shared.{class_in, renamed_formula}
use Rattle.cd_shared.proofs.Renaming.{of_list}
use Rattle.cd_shared.proofs.renamed.+renamed.Goals as goal

-- each item of a list is smaller than the list
pub renamed_list-renamed_formula-requires : goal.renamed_list-renamed_formula-requires
renamed_list-renamed_formula-requires t c =
    let fall = rw c.items-formula-items.ensures at (items_fall c.items-formula-items.result.now
    c.loop-formula.formula-index c.formula-item.result c.formula-item.is c.loop-formula-test.true)
    in
    (search (rules, fall, c.decreases), tt)

-- no formula is left
pub renamed_list-returns : goal.renamed_list-returns
renamed_list-returns t c =
    let class = class_in c.args.classes.now in
    let items = c.items-formula-items.result.now in
    let images = map plain c.loop-formula.images.items in
    let all : images ≡ map (renamed_formula class) (map plain items) =
    sym (append-nil images)
    ∙ ap (λ (left : List CodeFormula).
    images ++ map (renamed_formula class) (map plain left))
    (sym (drop_of_length-le items c.loop-formula-test.false))
    ∙ c.loop-formula.invariant in
    ap formulas_of (c.in_ok-of.ensures ∙ all
    ∙ ap (map (renamed_formula class)) c.items-formula-items.ensures)
    ∙ sym (of_list class (plain_list c.args.formulas.now))
