use Rattle.std.proofs.Common.{◌≡◌, ◌∷◌, [], ◌++◌, ◌∙◌, map, sym, ap, subst}
use Rattle.cd_model.specs.Formula.{Graph}
use Rattle.cd_graph.specs.PlainFormula.{plain, plain_list}
use Rattle.cd_meaning.specs.Records.{HasFieldAt}
use Rattle.cd_meaning.specs.Sets.{◌⊆◌, elements_of}
use Rattle.cd_empty.specs.Seen.{graph_of}
use Rattle.cd_operators.proofs.OpenRecords.{open_at, open_only, open_all}
use Rattle.cd_operators.proofs.Outcomes.{both_ok}
use Rattle.cd_operators.proofs.select.with_field.Goals as goal
use Rattle.cd_operators.proofs.select.with_field.Goals.{After-extend}

-- the formula that is put in
batch_is : (c : After-extend)
    → plain_list c.in_ok-of.field-0 ≡ open_at c.args.label.now ∷ []
batch_is c = c.in_ok-of.ensures ∙ ap (map plain) c.in_ok-vec.ensures.items
    ∙ ap (λ formula. formula ∷ []) c.in_ok-record.ensures

pub returns-clause-have : goal.returns-clause-have
returns-clause-have c =
    let graph = graph_of c.args.world.now in
    let label = c.args.label.now in
    both_ok c.extend.result _ _ _ (λ id first added.
    subst (λ (g : Graph). elements_of g id ⊆ HasFieldAt label)
    (sym (added ∙ ap (λ all. graph ++ all) (batch_is c)))
    (open_only graph c.graph.ensures.built_in label c.graph.ensures.sound c.requires.label id first))
    c.extend.ensures.first c.extend.ensures.added

pub returns-clause-all : goal.returns-clause-all
returns-clause-all c =
    let graph = graph_of c.args.world.now in
    let label = c.args.label.now in
    both_ok c.extend.result _ _ _ (λ id first added.
    subst (λ (g : Graph). HasFieldAt label ⊆ elements_of g id)
    (sym (added ∙ ap (λ all. graph ++ all) (batch_is c)))
    (open_all graph c.graph.ensures.built_in label c.graph.ensures.sound c.requires.label id first))
    c.extend.ensures.first c.extend.ensures.added
