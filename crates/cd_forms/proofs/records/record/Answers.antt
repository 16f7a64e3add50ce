use Rattle.std.proofs.Common.{◌≡◌, ◌∙◌, None, map, length, sym, ap, subst}
use Rattle.cd_model.specs.BuiltIns.{EMPTY}
use Rattle.cd_model.specs.Formula.{Formula, Record, IsFormula, AreRisingLabels}
use Rattle.cd_graph.specs.PlainFormula.{plain, plain_named}
use Rattle.cd_program.specs.Expr.{fields_of}
use Rattle.cd_program.specs.PlainExpr.{plain_field}
use Rattle.cd_typing.specs.Results.{IsRecordOf}
use Rattle.cd_typing.specs.Typ.{typ}
use Rattle.cd_empty.specs.Seen.{graph_of}
use Rattle.cd_forms.proofs.PutHolds.{put_has, put_only}
use Rattle.cd_forms.proofs.RecordsHold.{in_order, labels_rise, record_sound, record_has}
use Rattle.cd_forms.proofs.RecordsHold.{record_only}
use Rattle.cd_forms.proofs.RecordsHold.{some_node, count_labels}
use Rattle.cd_forms.proofs.records.record.Goals as goal
use Rattle.cd_forms.proofs.records.record.Goals.{After-record}

pub of-requires : goal.of-requires
of-requires c = subst (AreRisingLabels None) (sym c.in_ok-fields_in_order.ensures)
    (labels_rise (fields_of (map plain_field c.args.fields.now)) c.args.parts.now c.requires.labels
    c.requires.differ)

-- the formula
formula_is : (c : After-record) → plain c.record.result
    ≡ Record (in_order (fields_of (map plain_field c.args.fields.now)) c.args.parts.now) EMPTY
formula_is c = c.record.ensures
    ∙ ap (λ named. Record (plain_named named) EMPTY) c.in_ok-named.ensures
    ∙ ap (λ named. Record named EMPTY) c.in_ok-fields_in_order.ensures

pub put-requires : goal.put-requires
put-requires c = let graph = graph_of c.args.world.now in
    subst (λ (f : Formula). IsFormula (length graph) f)
    (sym (formula_is (goal.at.put-requires c).After-record))
    (record_sound (length graph) (fields_of (map plain_field c.args.fields.now)) c.args.parts.now
    c.requires.labels c.requires.differ c.requires.parts
    (some_node graph c.graph.ensures.built_in.0 c.graph.ensures.built_in.1))

pub returns-clause-has : goal.returns-clause-has
returns-clause-has c = let graph = graph_of c.args.world.now in
    let fields = fields_of (map plain_field c.args.fields.now) in
    put_has graph (graph_of c.put.new.world) (plain c.record.result)
    (Record (in_order fields c.args.parts.now) EMPTY)
    (formula_is (goal.at.returns-clause-has c).After-record) c.put.result c.put.ensures.holds
    (IsRecordOf fields (map (typ graph) c.args.parts.now))
    (λ e element is. record_has graph c.graph.ensures.built_in.0 c.graph.ensures.built_in.1 fields
    c.args.parts.now c.requires.differ e is)

pub returns-clause-only : goal.returns-clause-only
returns-clause-only c = let graph = graph_of c.args.world.now in
    let fields = fields_of (map plain_field c.args.fields.now) in
    put_only graph (graph_of c.put.new.world) (plain c.record.result)
    (Record (in_order fields c.args.parts.now) EMPTY)
    (formula_is (goal.at.returns-clause-only c).After-record) c.put.result c.put.ensures.holds
    (IsRecordOf fields (map (typ graph) c.args.parts.now))
    (λ e element is. record_only graph c.graph.ensures.built_in.0 c.graph.ensures.built_in.1 fields
    c.args.parts.now c.requires.differ
    (count_labels c.args.fields.now c.args.parts.now c.requires.count) e element is)
