use Rattle.std.proofs.Common.{◌∷◌, [], refl, subst}
use Rattle.cd_model.specs.Formula.{Graph}
use Rattle.cd_graph.specs.PlainFormula.{plain}
use Rattle.cd_empty.specs.Seen.{graph_of}
use Rattle.cd_builders.specs.Unions.{IsFormulaOfUnion}
use Rattle.cd_builders.proofs.AloneNodes.{still_below}
use Rattle.cd_builders.proofs.UnionNodes.{union_as_put}
use Rattle.cd_builders.proofs.unions.made_node.Goals as goal
use Rattle.cd_builders.proofs.unions.made_node.Goals.{In_ok-formula}
use Rattle.std.proofs.Common.{length}

-- the formula is one of the graph of the world
made : (c : In_ok-formula) → IsFormulaOfUnion (graph_of c.args.world.now) c.args.questions.now
    (plain c.in_ok-formula.formula)
made c = subst (λ (g : Graph). IsFormulaOfUnion g c.args.questions.now
    (plain c.in_ok-formula.formula)) c.graph-2.ensures.graph c.in_ok-formula.ensures

pub put-requires : goal.put-requires
put-requires c = (made (goal.at.put-requires c).In_ok-formula).sound

pub smaller-requires-clause-others : goal.smaller-requires-clause-others
smaller-requires-clause-others c = still_below (graph_of c.args.world.now)
    (plain c.in_ok-formula.formula ∷ []) (graph_of c.put.new.world) c.in_ok-made.ensures.added
    c.asked_by_one.result.now c.asked_by_one.result.now refl
    (c.asked_by_one.ensures (length (graph_of c.args.world.now)) c.requires)

pub returns-clause-union : goal.returns-clause-union
returns-clause-union c = union_as_put (graph_of c.args.world.now) (graph_of c.put.new.world)
    (graph_of c.smaller.new.world) c.args.questions.now (plain c.in_ok-formula.formula)
    (made (goal.at.returns-clause-union c).In_ok-formula) c.in_ok-made.made c.smaller.result
    c.in_ok-made.ensures.holds c.smaller.ensures.holds c.smaller.ensures.node
