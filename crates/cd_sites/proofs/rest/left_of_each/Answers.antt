use Rattle.std.proofs.Common.{◌+◌, map, option_map, arith, subst, sym, ◌∙◌}
use Rattle.cd_model.specs.BuiltIns.{node}
use Rattle.cd_model.specs.Formula.{Graph}
use Rattle.cd_graph.specs.PlainFormula.{plain}
use Rattle.cd_empty.specs.Seen.{graph_of}
use Rattle.cd_empty.proofs.GrowingWorlds.{and_further}
use Rattle.cd_sites.specs.Inner.Differences.{IsRest, AreLeft}
use Rattle.cd_sites.proofs.MembersLeft.{with_rest}
use Rattle.cd_sites.proofs.rest.left_of_each.Goals as goal

pub loop-number-preserved : goal.loop-number-preserved
loop-number-preserved c =
    let before = c.loop-number.invariant in
    let number = c.loop-number.number in
    let more = c.loop-number-test.true in
    let end = before.end in
    let rest = option_map plain c.in_ok-rest_of.field-0 in
    record {
      graph = c.rest_of.ensures.graph ∙ before.graph;
      sound = c.rest_of.ensures.sound;
      grows = and_further c.args.world.now c.loop-number.world c.rest_of.new.world before.grows
          c.rest_of.ensures.grows;
      end = before.end;
      least = omega (arith, before.least);
      most = omega (arith, more, end);
      left = subst (AreLeft (graph_of c.args.world.now) c.args.other c.args.first.0 (number + 1))
          (sym c.in_ok-add.ensures)
          (with_rest (graph_of c.args.world.now) c.args.other c.args.first.0 number
          (map plain c.loop-number.left.items) before.left before.least rest
          (subst (λ (g : Graph). IsRest g (node number) c.args.other rest) before.graph
          c.in_ok-rest_of.ensures.rest));
    }
