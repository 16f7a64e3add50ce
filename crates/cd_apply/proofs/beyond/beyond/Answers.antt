use Rattle.std.proofs.Common.{[], ◌∷◌, length, sym, subst, ap, ◌∙◌}
use Rattle.std.proofs.lemmas.Result.{IfOk-weaker}
use Rattle.cd_rules.specs.Family.{AsksNodes}
use Rattle.cd_rules.specs.Needs.{question}
use Rattle.cd_empty.specs.Seen.{graph_of, table_of}
use Rattle.cd_apply.proofs.ArgumentsBeyond.{beyond_asks, found_beyond}
use Rattle.cd_apply.proofs.beyond.beyond.Goals as goal

pub element_in-requires : goal.element_in-requires
element_in-requires c =
    subst (AsksNodes (length (graph_of c.args.world.now)))
    (sym (c.in_ok-question.ensures ∙ ap (λ ids. question (c.args.argument ∷ []) ids)
    (c.as_slice.ensures.value ∙ c.in_ok-refused.ensures)))
    (beyond_asks c.args.argument c.args.arrows.now (length (graph_of c.args.world.now))
    c.requires.argument c.requires.arrows)

pub returns-clause-found : goal.returns-clause-found
returns-clause-found c = IfOk-weaker c.element_in.result _ _
    (λ found is. found_beyond c.args.argument c.args.arrows.now (graph_of c.args.world.now)
    (table_of c.element_in.new.world) c.in_ok-question.question
    (c.in_ok-question.ensures ∙ ap (λ ids. question (c.args.argument ∷ []) ids)
    (c.as_slice.ensures.value ∙ c.in_ok-refused.ensures)) found is)
    c.element_in.ensures.found
