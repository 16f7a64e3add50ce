use Rattle.std.proofs.Common.{List, Vec, Global, ap, ◌∙◌}
use Rattle.cd_sets.specs.declared.node_id.NodeId.{NodeId}
use Rattle.cd_empty.specs.Seen.{graph_of, table_of}
use Rattle.cd_empty.proofs.GrowingWorlds.{and_further}
use Rattle.cd_apply.specs.Inner.PlainClauses.{plain_function_clause}
use Rattle.cd_apply.proofs.ImagesGathered.{fails_as_found, added_as_found}
use Rattle.cd_apply.proofs.image.add_clause.Goals as goal

abbrev arrow_list : Vec (NodeId × NodeId) Global → List (NodeId × NodeId)
arrow_list arrows = arrows.items

pub returns-in-Some-clause-added : goal.returns-in-Some-clause-added
returns-in-Some-clause-added c =
    fails_as_found (graph_of c.args.world.now) c.args.argument
    (plain_function_clause c.args.clause.now) c.in_ok-has_function.field-0
    c.in_ok-has_function.ensures.has c.if-not-branch.false c.as_slice-wanted.result.now
    (c.as_slice-wanted.ensures.value ∙ ap arrow_list c.deref.ensures)
    (graph_of c.has_function.new.world) c.in_ok-has_function.ensures.graph
    (table_of c.beyond.new.world) c.in_ok-element.field-0 c.in_ok-element.ensures.found
    c.in-Some.element c.in-Some.is

pub returns-in_err-add_image-clause-grows : goal.returns-in_err-add_image-clause-grows
returns-in_err-add_image-clause-grows c = and_further _ _ _ c.in_ok-has_function.ensures.grows
    (and_further _ _ _ c.in_ok-element.ensures.grows c.in_err-add_image.ensures.grows)

pub returns-clause-added : goal.returns-clause-added
returns-clause-added c =
    added_as_found (graph_of c.args.world.now) c.args.argument
    (plain_function_clause c.args.clause.now) c.in_ok-has_function.field-0
    c.in_ok-has_function.ensures.has c.if-not-branch.false c.as_slice-wanted.result.now
    (c.as_slice-wanted.ensures.value ∙ ap arrow_list c.deref.ensures)
    (graph_of c.has_function.new.world) c.in_ok-has_function.ensures.graph
    (table_of c.beyond.new.world) c.in_ok-element.field-0 c.in_ok-element.ensures.found
    c.in_default.is (graph_of c.beyond.new.world) c.in_ok-element.ensures.graph
    c.args.questions.now.items c.add_image.new.questions.items c.in_ok-add_image.ensures.exact
    c.in_ok-add_image.ensures.asks

pub returns-clause-grows : goal.returns-clause-grows
returns-clause-grows c = and_further _ _ _ c.in_ok-has_function.ensures.grows
    (and_further _ _ _ c.in_ok-element.ensures.grows c.in_ok-add_image.ensures.grows)
