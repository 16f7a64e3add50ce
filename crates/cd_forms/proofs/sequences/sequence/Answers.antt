use Rattle.std.proofs.Common.{map, subst, sym, ◌∙◌, ap}
use Rattle.cd_sets.specs.declared.node_id.NodeId.{NodeId}
use Rattle.cd_program.specs.Expr.{items_of}
use Rattle.cd_program.specs.PlainExpr.{plain_item}
use Rattle.cd_typing.specs.Results.{IsSequenceOf}
use Rattle.cd_typing.specs.Typ.{typ}
use Rattle.cd_empty.specs.Seen.{graph_of}
use Rattle.cd_forms.specs.Inner.Putting.{HoldsJust, whole}
use Rattle.cd_forms.proofs.ItemsPut.{whole_holds}
use Rattle.cd_forms.proofs.sequences.sequence.Goals as goal
use Rattle.cd_forms.proofs.sequences.sequence.Goals.{After-whole}

-- the node that is found
held : (c : After-whole) → HoldsJust (graph_of c.put_items.new.world) c.whole.result
    (IsSequenceOf (items_of (map plain_item c.args.items.now))
    (map (typ (graph_of c.args.world.now)) c.args.parts.items))
held c = subst (λ (id : NodeId). HoldsJust (graph_of c.put_items.new.world) id
    (IsSequenceOf (items_of (map plain_item c.args.items.now))
    (map (typ (graph_of c.args.world.now)) c.args.parts.items)))
    (sym (c.whole.ensures ∙ ap (λ left. whole c.in_ok-found.found left c.empty.result)
    c.as_slice.ensures.value))
    (whole_holds (graph_of c.args.world.now) (graph_of c.put_items.new.world)
    (map plain_item c.args.items.now) c.args.parts.items c.put_items.new.parts.items
    c.empty.result c.empty.ensures.holds c.empty.ensures.node c.in_ok-found.found
    c.in_ok-found.ensures.put)

pub returns-clause-has : goal.returns-clause-has
returns-clause-has c = (held (goal.at.returns-clause-has c).After-whole).has

pub returns-clause-only : goal.returns-clause-only
returns-clause-only c = (held (goal.at.returns-clause-only c).After-whole).only

pub returns-clause-node : goal.returns-clause-node
returns-clause-node c = (held (goal.at.returns-clause-node c).After-whole).node
