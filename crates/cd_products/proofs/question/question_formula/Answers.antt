use Rattle.std.proofs.Common.{sym, ap, ◌∙◌}
use Rattle.std.proofs.lemmas.Result.{IfOk-weaker}
use Rattle.cd_graph.specs.Nodes.{nodes}
use Rattle.cd_graph.specs.PlainFormula.{plain}
use Rattle.cd_products.specs.Inner.Basic.{one_node_is_basic}
use Rattle.cd_products.proofs.SetsHold.{formula_of_question, copied}
use Rattle.cd_products.proofs.question.question_formula.Goals as goal

pub returns-then-one_node_is_basic : goal.returns-then-one_node_is_basic
returns-then-one_node_is_basic c =
    let graph = nodes c.args.graph.now in
    let sets = c.in_ok-basics.ensures in
    IfOk-weaker c.of_sets.result _ _
    (λ is of. formula_of_question graph c.args.question.now c.in_ok-basics.field-0 (plain is) of
    (sym (ap (one_node_is_basic graph) c.ids.ensures.value) ∙ sym c.one_node_is_basic.ensures
    ∙ c.if-one_node_is_basic.true) sets.integers sets.characters sets.atoms) c.of_sets.ensures

pub returns : goal.returns
returns c = let made = c.formula_of.ensures in copied (nodes c.args.graph.now) c.args.question.now
    c.formula_of.result made.elements made.values made.sound
