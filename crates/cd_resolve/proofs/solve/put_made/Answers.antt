use Rattle.cd_graph.specs.Nodes.{nodes}
use Rattle.cd_resolve.proofs.Filling.{put_is}
use Rattle.cd_resolve.proofs.solve.put_made.Goals as goal

pub returns-in_ok-formula-in-Some-clause-made : goal.returns-in_ok-formula-in-Some-clause-made
returns-in_ok-formula-in-Some-clause-made c =
    put_is (nodes c.args.old.now) c.args.first c.args.number c.args.formulas.items _ _ c.in_ok-formula-in-Some.formula
    c.in-Some.equation c.args.equation.now c.in-Some.is c.as_slice.ensures.value c.put.ensures
    c.in_ok-formula-in-Some.ensures
