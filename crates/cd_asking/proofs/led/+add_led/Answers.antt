use Rattle.std.proofs.Common.{rules, List, sym, ap, ◌∙◌, subst}
use Rattle.cd_model.specs.Formula.{Formula, AreFormulas, formulas_of}
use Rattle.cd_model.specs.Formula as formula
use Rattle.cd_graph.specs.PlainFormula.{plain, plain_named}
use Rattle.cd_graph.proofs.Reading.{plain_pair, plain_xml, plain_record}
use Rattle.cd_graph.proofs.Sizes.{items_fall}
use Rattle.cd_asking.specs.Inner.Asked.{child_by}
use Rattle.cd_asking.proofs.Leading.{next_formula, item_sound, asked_below, pair_below, xml_below, record_below}
use Rattle.cd_asking.proofs.led.+add_led.Goals as goal

-- each item of a list is smaller than the list
pub add_all_led-add_led-requires : goal.add_all_led-add_led-requires
add_all_led-add_led-requires t c =
    let fall = rw c.items-formula-items.ensures at (items_fall c.items-formula-items.result.now c.loop-formula.formula-index
    c.formula-item.result c.formula-item.is c.loop-formula-test.true) in
    (search (rules, fall, c.decreases), tt)

pub add_all_led-loop-formula-preserved : goal.add_all_led-loop-formula-preserved
add_all_led-loop-formula-preserved t c = (
  λ final more rest. c.loop-formula.invariant.0 final (λ id there. more id (c.add_led.ensures.grows id there))
      (next_formula (child_by c.args.label.now c.args.child) c.add_led.new.next final c.items-formula-items.result.now
      c.loop-formula.formula-index c.formula-item.result c.formula-item.is c.loop-formula-test.true more c.in_ok-add_led.ensures.added rest),
  λ id there. c.add_led.ensures.grows id (c.loop-formula.invariant.1 id there),
  λ bound are below. c.add_led.ensures.below bound (item_sound bound c.items-formula-items.result.now c.loop-formula.formula-index
      c.formula-item.result c.formula-item.is c.loop-formula-test.true (subst (λ (list : List Formula). AreFormulas bound (formulas_of list)) (sym c.items-formula-items.ensures) are)) (c.loop-formula.invariant.2 bound are below),
)

-- a formula of a graph asks at nodes of it
pub add_led-returns-in-Pair-clause-below : goal.add_led-returns-in-Pair-clause-below
add_led-returns-in-Pair-clause-below t c bound sound =
    let child = child_by c.args.label.now c.args.child in
    c.add_one.ensures.below bound (asked_below bound child _ (formula.Pair c.in-Pair.first c.in-Pair.second) _
    (pair_below bound child c.in-Pair.first c.in-Pair.second) (ap plain c.in-Pair.is ∙ plain_pair c.in-Pair.first c.in-Pair.second)
    (c.led_of_pair.ensures c.args.label.now) sound)

pub add_led-returns-in-Xml-clause-below : goal.add_led-returns-in-Xml-clause-below
add_led-returns-in-Xml-clause-below t c bound sound =
    let child = child_by c.args.label.now c.args.child in
    c.add_one-in-Xml.ensures.below bound (asked_below bound child _ (formula.Xml c.in-Xml.tag c.in-Xml.attributes c.in-Xml.content) _
    (xml_below bound child c.in-Xml.tag c.in-Xml.attributes c.in-Xml.content)
    (ap plain c.in-Xml.is ∙ plain_xml c.in-Xml.tag c.in-Xml.attributes c.in-Xml.content) (c.led_of_xml.ensures c.args.label.now) sound)

pub add_led-returns-in-Record-clause-below : goal.add_led-returns-in-Record-clause-below
add_led-returns-in-Record-clause-below t c bound sound =
    let child = child_by c.args.label.now c.args.child in
    c.add_one-in-Record.ensures.below bound (asked_below bound child _ (formula.Record (plain_named c.in-Record.fields.named) c.in-Record.fields.rest) _
    (record_below bound child (plain_named c.in-Record.fields.named) c.in-Record.fields.rest)
    (ap plain c.in-Record.is ∙ plain_record c.in-Record.fields) c.led_of_record.ensures sound)

pub add_all_led-returns-in_err-add_led-clause-below : goal.add_all_led-returns-in_err-add_led-clause-below
add_all_led-returns-in_err-add_led-clause-below t c = λ bound are below. c.add_led.ensures.below bound (item_sound bound c.items-formula-items.result.now
    c.loop-formula.formula-index c.formula-item.result c.formula-item.is c.loop-formula-test.true
    (subst (λ (list : List Formula). AreFormulas bound (formulas_of list)) (sym c.items-formula-items.ensures) are)) (c.loop-formula.invariant.2 bound are below)
