use Rattle.std.proofs.Common.{List, None, ap, map, subst, sym, ◌∙◌}
use Rattle.cd_syntax.specs.Name.{Name}
use Rattle.cd_model.specs.Formula.{AreRisingLabels, Field, Not, Record}
use Rattle.cd_graph.specs.Nodes.{nodes}
use Rattle.cd_graph.specs.PlainFormula.{plain, plain_named}
use Rattle.cd_records.specs.Inner.Plain.{plain_said}
use Rattle.cd_records.proofs.FieldsMade.{open_rise, other_made}
use Rattle.cd_records.proofs.record_type.other_of.Goals as goal

pub of-requires : goal.of-requires
of-requires c = subst (λ (named : List (Name × Field)). AreRisingLabels None named)
    (sym c.in_ok-open_fields.ensures)
    (open_rise (map plain_said c.args.said.now) c.requires.rising)

pub returns-clause-holding : goal.returns-clause-holding
returns-clause-holding c = let known = c.knows.ensures in
    other_made (nodes c.args.graph.now) known.built_in.0 known.built_in.1
    (map plain c.outside.new.batch.items) (map plain_said c.args.said.now) c.requires.rising
    c.args.question.now c.in_ok-rest.rest c.in_ok-rest.ensures.holding
    (plain_named c.in_ok-open_fields.field-0.items) c.in_ok-open_fields.ensures
    (plain c.record-others.result) (plain c.not.result)
    (c.record-others.ensures ∙ ap (λ named. Record (plain_named named) c.in_ok-rest.rest)
    c.in_ok-named.ensures)
    (c.not.ensures ∙ ap (λ one. Not (plain one)) c.in_ok-new.ensures.ok)
