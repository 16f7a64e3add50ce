use Rattle.std.proofs.Common.{◌≡◌, ◌∷◌, [], ◌++◌, map, length, sym, ap, subst, ◌∙◌}
use Rattle.cd_model.specs.BuiltIns.{node}
use Rattle.cd_model.specs.Formula.{Graph}
use Rattle.cd_graph.specs.PlainFormula.{plain, plain_list}
use Rattle.cd_empty.specs.Seen.{graph_of}
use Rattle.cd_meaning.specs.Sequences.{IsListOf}
use Rattle.cd_meaning.specs.Sets.{◌⊆◌, elements_of}
use Rattle.cd_forms.specs.Inner.ListFormulas.{list_formula}
use Rattle.cd_forms.proofs.ListTypes.{texts_in, only_texts, lists_in, only_lists}
use Rattle.cd_forms.proofs.Outcomes.{both_ok}
use Rattle.cd_forms.proofs.of_sequences.list_type.list_of.Goals as goal
use Rattle.cd_forms.proofs.of_sequences.list_type.list_of.Goals.{After-extend}

pub returns-then-item-clause-has : goal.returns-then-item-clause-has
returns-then-item-clause-has c =
    texts_in (graph_of c.args.world.now) c.graph.ensures.built_in c.args.item c.if-item.true

pub returns-then-item-clause-only : goal.returns-then-item-clause-only
returns-then-item-clause-only c =
    only_texts (graph_of c.args.world.now) c.graph.ensures.built_in c.args.item c.if-item.true

-- the formula that is put in
batch_is : (c : After-extend) → plain_list c.in_ok-of.field-0
    ≡ list_formula c.args.item (node (length (graph_of c.args.world.now))) ∷ []
batch_is c = c.in_ok-of.ensures ∙ ap (map plain) c.in_ok-vec.ensures.items
    ∙ ap (λ f. f ∷ []) (c.in_ok-list.ensures
    ∙ ap (λ (g : Graph). list_formula c.args.item (node (length g))) c.graph-2.ensures.graph)

pub returns-clause-has : goal.returns-clause-has
returns-clause-has c =
    let graph = graph_of c.args.world.now in
    both_ok c.extend.result _ _ _ (λ id first added.
    subst (λ (g : Graph). IsListOf (elements_of graph c.args.item) ⊆ elements_of g id)
    (sym (added ∙ ap (λ all. graph ++ all) (batch_is c)))
    (lists_in graph c.graph.ensures.sound c.args.item c.requires id first))
    c.extend.ensures.first c.extend.ensures.added

pub returns-clause-only : goal.returns-clause-only
returns-clause-only c =
    let graph = graph_of c.args.world.now in
    both_ok c.extend.result _ _ _ (λ id first added.
    subst (λ (g : Graph). elements_of g id ⊆ IsListOf (elements_of graph c.args.item))
    (sym (added ∙ ap (λ all. graph ++ all) (batch_is c)))
    (only_lists graph c.graph.ensures.sound c.args.item c.requires id first))
    c.extend.ensures.first c.extend.ensures.added
