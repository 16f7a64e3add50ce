use Rattle.std.proofs.Common.{Result, IfOk, lit<}
use Rattle.std.proofs.lemmas.Result.{IfOk-weaker}
use Rattle.cd_sets.specs.declared.node_id.NodeId.{NodeId}
use Rattle.cd_model.specs.BuiltIns.{BOOL, INT}
use Rattle.cd_model.specs.Formula.{Graph}
use Rattle.cd_program.specs.declared.operator.Op.{Op}
use Rattle.cd_program.specs.declared.operator.Op.TheVariants as op
use Rattle.cd_meaning.specs.Sets.{Set, elements_of}
use Rattle.cd_typing.specs.Typ.{BuiltIn}
use Rattle.cd_empty.specs.Seen.{graph_of}
use Rattle.cd_operators.specs.declared.misfit.Stop.{Stop}
use Rattle.cd_operators.specs.ResultTypes.{IsLeastResult}
use Rattle.cd_operators.proofs.BuiltInNodes.{type_stays, node_within}
use Rattle.cd_operators.proofs.Operated.{second_least, truths_least, product_least}
use Rattle.cd_operators.proofs.Operated.{unequal_like_equal, mod_like_div}
use Rattle.cd_operators.proofs.Outcomes.{of_either}
use Rattle.cd_operators.proofs.operators.operate.Goals as goal

-- the node that is given holds the least type that the operator gives
abbrev IsLeast : (first second : Set) → Graph → Result NodeId Stop → Op → Type 0
IsLeast first second graph given is =
    IfOk given (λ id. IsLeastResult is first second (elements_of graph id))

pub returns-in-Or-clause-least : goal.returns-in-Or-clause-least
returns-in-Or-clause-least c =
    let graph = graph_of c.args.world.now in
    second_least c.args.op c.in-Or.is (elements_of graph c.args.first)
    (elements_of graph c.args.second)

pub returns-in-Equal-clause-least : goal.returns-in-Equal-clause-least
returns-in-Equal-clause-least c =
    let first = elements_of (graph_of c.args.world.now) c.args.first in
    let second = elements_of (graph_of c.args.world.now) c.args.second in
    let new = graph_of c.compare.new.world in
    of_either (IsLeast first second new c.compare.result) c.args.op op.Equal op.Unequal
    c.in-Equal.is c.compare.ensures.least
    (IfOk-weaker c.compare.result _ _
    (λ id. unequal_like_equal first second (elements_of new id)) c.compare.ensures.least)

pub returns-in_ok-integers-in-Less-clause-least : goal.returns-in_ok-integers-in-Less-clause-least
returns-in_ok-integers-in-Less-clause-least c =
    let graph = graph_of c.args.world.now in
    let begins = c.graph.ensures.built_in in
    let last = graph_of c.integers.new.world in
    let same = c.in_ok-integers-in-Less.ensures.graph in
    truths_least (elements_of graph c.args.first) (elements_of graph c.args.second)
    (elements_of last BOOL) c.in_ok-integers-in-Less.ensures.within c.args.op c.in-Less.is
    (type_stays graph begins BOOL (lit< tt) last same)
    (node_within graph begins BOOL (lit< tt) last same (BuiltIn BOOL) (λ e element inside. inside))

pub returns-in-Concat-clause-least : goal.returns-in-Concat-clause-least
returns-in-Concat-clause-least c = rw c.in-Concat.is c.concatenate.ensures.least

pub returns-in-Plus-clause-least : goal.returns-in-Plus-clause-least
returns-in-Plus-clause-least c = rw c.in-Plus.is c.add.ensures.least

pub returns-in-Minus-clause-least : goal.returns-in-Minus-clause-least
returns-in-Minus-clause-least c = rw c.in-Minus.is c.subtract.ensures.least

pub returns-in_ok-integers-in-Times-clause-least : goal.returns-in_ok-integers-in-Times-clause-least
returns-in_ok-integers-in-Times-clause-least c =
    let graph = graph_of c.args.world.now in
    let begins = c.graph.ensures.built_in in
    let last = graph_of c.integers-in-Times.new.world in
    let same = c.in_ok-integers-in-Times.ensures.graph in
    rw c.in-Times.is
    (product_least (elements_of graph c.args.first) (elements_of graph c.args.second)
    (elements_of last INT) c.in_ok-integers-in-Times.ensures.within
    (type_stays graph begins INT (lit< tt) last same)
    (node_within graph begins INT (lit< tt) last same (BuiltIn INT) (λ e element inside. inside)))

pub returns-in-Div-clause-least : goal.returns-in-Div-clause-least
returns-in-Div-clause-least c =
    let first = elements_of (graph_of c.args.world.now) c.args.first in
    let second = elements_of (graph_of c.args.world.now) c.args.second in
    let new = graph_of c.divide.new.world in
    of_either (IsLeast first second new c.divide.result) c.args.op op.Div op.Mod c.in-Div.is
    c.divide.ensures.least
    (IfOk-weaker c.divide.result _ _
    (λ id. mod_like_div first second (elements_of new id)) c.divide.ensures.least)
