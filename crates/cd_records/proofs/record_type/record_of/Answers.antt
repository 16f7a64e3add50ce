use Rattle.std.proofs.Common.{map, ◌∙◌, ap}
use Rattle.cd_model.specs.Formula.{Record}
use Rattle.cd_graph.specs.Nodes.{nodes}
use Rattle.cd_graph.specs.PlainFormula.{plain, plain_named}
use Rattle.cd_records.specs.Inner.Plain.{plain_questions, plain_said}
use Rattle.cd_records.proofs.FieldsMade.{named_rise, record_made}
use Rattle.cd_records.proofs.record_type.record_of.Goals as goal

pub of-requires : goal.of-requires
of-requires c = named_rise (nodes c.args.graph.now) (map plain c.fields_of.new.batch.items)
    (map plain_said c.args.said.now) (plain_named c.in_ok-named.named.items)
    c.in_ok-named.ensures.fields c.requires.rising

pub returns-clause-holding : goal.returns-clause-holding
returns-clause-holding c = record_made (nodes c.args.graph.now)
    (map plain c.fields_of.new.batch.items) (map plain c.node_of.new.batch.items)
    c.in_ok-rest.ensures.adds (map plain_said c.args.said.now)
    (plain_questions c.args.every.now) (plain_named c.in_ok-named.named.items) c.in_ok-rest.rest
    c.in_ok-named.ensures.fields c.requires.rising c.in_ok-rest.ensures.holding
    (plain c.record.result)
    (c.record.ensures ∙ ap (λ named. Record (plain_named named) c.in_ok-rest.rest)
    c.in_ok-named-2.ensures)
