use Rattle.std.proofs.Common.{List, Vec, Global, refl, sym, ap, ◌∙◌}
use Rattle.std.proofs.lemmas.Bool.{true≢false}
use Rattle.cd_sets.specs.declared.node_id.NodeId.{NodeId}
use Rattle.cd_empty.specs.Seen.{graph_of}
use Rattle.cd_empty.proofs.GrowingWorlds.{and_further}
use Rattle.cd_apply.specs.Inner.PlainClauses.{plain_function_clause}
use Rattle.cd_apply.proofs.RefusedArrows.{has_function, has_no_function, refused_further}
use Rattle.cd_apply.proofs.TakenThings.{read_at}
use Rattle.cd_apply.proofs.refusing.has_function.Goals as goal

abbrev arrow_list : Vec (NodeId × NodeId) Global → List (NodeId × NodeId)
arrow_list arrows = arrows.items

pub returns-then-not-branch-clause-has : goal.returns-then-not-branch-clause-has
returns-then-not-branch-clause-has c =
    let shown = c.as_slice-refused-items.result.now in
    let place = c.loop-refused.refused-index in (
      λ is. absurd (true≢false (sym is)),
      λ has. absurd (has_no_function (graph_of c.args.world.now)
          (plain_function_clause c.args.clause.now) shown
          (c.as_slice-refused-items.ensures.value ∙ ap arrow_list c.deref.ensures) place _
          c.loop-refused-test.true (read_at shown place _ c.loop-refused-test.true)
          c.as_slice.result.now
          (c.as_slice.ensures.value ∙ ap arrow_list c.deref-in-loop-refused.ensures)
          (graph_of c.loop-refused.world) c.loop-refused.invariant.graph c.in_ok-can_refuse.field-0
          c.in_ok-can_refuse.ensures.can c.if-not-branch.true has),
    )

pub loop-refused-preserved : goal.loop-refused-preserved
loop-refused-preserved c =
    let shown = c.as_slice-refused-items.result.now in
    let place = c.loop-refused.refused-index in
    let so_far = c.loop-refused.invariant in record {
      each = refused_further (graph_of c.args.world.now) (plain_function_clause c.args.clause.now)
          shown (c.as_slice-refused-items.ensures.value ∙ ap arrow_list c.deref.ensures) place _
          c.loop-refused-test.true (read_at shown place _ c.loop-refused-test.true)
          c.as_slice.result.now
          (c.as_slice.ensures.value ∙ ap arrow_list c.deref-in-loop-refused.ensures)
          (graph_of c.loop-refused.world) so_far.graph c.in_ok-can_refuse.field-0
          c.in_ok-can_refuse.ensures.can c.if-not-branch.false so_far.each;
      graph = c.in_ok-can_refuse.ensures.graph ∙ so_far.graph;
      grows = and_further _ _ _ so_far.grows c.in_ok-can_refuse.ensures.grows;
    }

pub returns-clause-has : goal.returns-clause-has
returns-clause-has c = (
  λ is. has_function (graph_of c.args.world.now) (plain_function_clause c.args.clause.now)
      c.as_slice-refused-items.result.now
      (c.as_slice-refused-items.ensures.value ∙ ap arrow_list c.deref.ensures)
      c.loop-refused.refused-index c.loop-refused-test.false c.loop-refused.invariant.each,
  λ has. refl,
)
