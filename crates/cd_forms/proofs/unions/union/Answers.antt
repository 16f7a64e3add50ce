use Rattle.std.proofs.Common.{◌≡◌, ◌∙◌, ◌<◌, List, map, length, sym, ap, subst}
use Rattle.std.proofs.lemmas.Result.{IfOk-weaker}
use Rattle.cd_sets.specs.declared.node_id.NodeId.{NodeId}
use Rattle.cd_model.specs.AllOf.{AllOf}
use Rattle.cd_rules.specs.Family.{AsksNodes}
use Rattle.cd_empty.specs.Seen.{graph_of}
use Rattle.cd_forms.specs.Inner.Asking.{asking}
use Rattle.cd_forms.proofs.MembersOfUnions.{each_member}
use Rattle.cd_forms.proofs.UnionsHold.{ask_nodes, union_has, union_only}
use Rattle.cd_forms.proofs.unions.union.Goals as goal
use Rattle.cd_forms.proofs.unions.union.Goals.{In_ok-questions}

-- the questions are those of the members
asked : (c : In_ok-questions) → c.in_ok-questions.questions.items
    ≡ map asking c.in_ok-members.members
asked c = c.in_ok-questions.ensures
    ∙ ap (λ (ids : List NodeId). map asking ids) c.ids.ensures.value

pub union-requires : goal.union-requires
union-requires c =
    let at = (goal.at.union-requires c).In_ok-questions in
    let graph = graph_of c.args.world.now in
    subst (AllOf (AsksNodes (length graph))) (sym (c.as_slice.ensures.value ∙ asked at))
    (ask_nodes graph c.in_ok-members.members
    (each_member c.args.parts.now c.in_ok-members.members c.in_ok-members.ensures
    (λ id. id.0 < length graph) c.requires))

pub returns-clause-has : goal.returns-clause-has
returns-clause-has c =
    let at = (goal.at.returns-clause-has c).In_ok-questions in
    union_has (graph_of c.args.world.now) c.graph.ensures.built_in.0 c.graph.ensures.built_in.1
    c.args.parts.now c.in_ok-members.members c.in_ok-members.ensures c.as_slice.result.now
    (c.as_slice.ensures.value ∙ asked at) (graph_of c.union.new.world) c.union.result
    c.union.ensures.union

pub returns-clause-only : goal.returns-clause-only
returns-clause-only c =
    let at = (goal.at.returns-clause-only c).In_ok-questions in
    union_only (graph_of c.args.world.now) c.graph.ensures.built_in.0 c.graph.ensures.built_in.1
    c.args.parts.now c.in_ok-members.members c.in_ok-members.ensures c.as_slice.result.now
    (c.as_slice.ensures.value ∙ asked at) (graph_of c.union.new.world) c.union.result
    c.union.ensures.union

pub returns-clause-node : goal.returns-clause-node
returns-clause-node c = IfOk-weaker c.union.result _ _ (λ id holds. holds.node)
    c.union.ensures.union
