use Rattle.std.proofs.Common.{◌≡◌, List, length, sym, subst}
use Rattle.std.proofs.lemmas.Result.{IfOk-weaker}
use Rattle.cd_sets.specs.declared.question.Question.{Question}
use Rattle.cd_model.specs.AllOf.{AllOf}
use Rattle.cd_model.specs.Formula.{Graph}
use Rattle.cd_rules.specs.Family.{AsksNodes}
use Rattle.cd_empty.specs.Seen.{graph_of}
use Rattle.cd_builders.specs.Unions.{HoldsUnion}
use Rattle.cd_builders.proofs.UnionNodes.{union_by_form, union_alike}
use Rattle.cd_builders.proofs.unions.outer_union.Goals as goal
use Rattle.cd_builders.proofs.unions.outer_union.Goals.{In_ok-left}

-- the questions that are left are of the graph
left_ask : (c : In_ok-left) (shown : List Question) → shown ≡ c.in_ok-left.left.items
    → AllOf (AsksNodes (length (graph_of c.args.world.now))) shown
left_ask c shown same = subst (AllOf (AsksNodes (length (graph_of c.args.world.now)))) (sym same)
    c.in_ok-left.ensures.same.asks

-- they have one node
pub returns-in-Some-clause-union : goal.returns-in-Some-clause-union
returns-in-Some-clause-union c =
    let graph = graph_of c.args.world.now in
    let at = (goal.at.returns-in-Some-clause-union c).In_ok-left in
    subst (λ (g : Graph). HoldsUnion graph c.args.questions.now g c.in-Some.id)
    (sym c.in_ok-left.ensures.graph)
    (union_alike graph graph c.args.questions.now c.in_ok-left.left.items c.as_slice.result.now
    c.in_ok-left.ensures.same c.as_slice.ensures.value c.in-Some.id
    (union_by_form graph c.graph.ensures.built_in.0 c.graph.ensures.built_in.1
    c.as_slice.result.now (left_ask at c.as_slice.result.now c.as_slice.ensures.value) c.in-Some.id
    c.in-Some.ensures))

-- or one is made
pub made_node-requires : goal.made_node-requires
made_node-requires c =
    let at = (goal.at.made_node-requires c).In_ok-left in
    subst (λ (g : Graph). AllOf (AsksNodes (length g)) c.as_slice-in-None.result.now)
    (sym c.in_ok-left.ensures.graph)
    (left_ask at c.as_slice-in-None.result.now c.as_slice-in-None.ensures.value)

pub returns-clause-union : goal.returns-clause-union
returns-clause-union c =
    let graph = graph_of c.args.world.now in
    IfOk-weaker c.made_node.result _ _ (λ id holds. union_alike graph
    (graph_of c.made_node.new.world) c.args.questions.now c.in_ok-left.left.items
    c.as_slice-in-None.result.now c.in_ok-left.ensures.same c.as_slice-in-None.ensures.value id
    (subst (λ (g : Graph). HoldsUnion g c.as_slice-in-None.result.now
    (graph_of c.made_node.new.world) id) c.in_ok-left.ensures.graph holds))
    c.made_node.ensures.union
