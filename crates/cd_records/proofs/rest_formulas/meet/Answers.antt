use Rattle.std.proofs.Common.{◌++◌, ◌∷◌, [], map, ap, ◌∙◌}
use Rattle.std.proofs.lemmas.List.{map-append}
use Rattle.cd_graph.specs.Nodes.{nodes}
use Rattle.cd_graph.specs.PlainFormula.{plain, plain_list}
use Rattle.cd_records.specs.Inner.Plain.{plain_questions, plain_said}
use Rattle.cd_records.proofs.RestFormulas.{meet_made}
use Rattle.cd_records.proofs.rest_formulas.meet.Goals as goal

pub returns-clause-holding : goal.returns-clause-holding
returns-clause-holding c =
    let others = c.in_ok-others.others.items in
    meet_made (nodes c.args.graph.now) (map plain c.args.batch.now.items)
    (map plain c.others_of.new.batch.items) c.in_ok-others.ensures.adds
    (map plain_said c.args.said.now) (plain c.args.records) (plain_questions c.args.left.now)
    (map plain others) c.in_ok-others.ensures.holding (plain_list c.in_ok-of.field-0)
    (c.in_ok-of.ensures ∙ (ap (map plain) (c.in_ok-append.ensures.items
    ∙ ap (λ all. all ++ others) c.in_ok-all.ensures.items)))
    (plain c.and.result) c.and.ensures
