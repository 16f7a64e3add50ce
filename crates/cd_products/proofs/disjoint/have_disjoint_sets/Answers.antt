use Rattle.std.proofs.Common.{sym, ◌∙◌}
use Rattle.cd_graph.specs.Nodes.{nodes}
use Rattle.cd_products.proofs.DisjointSets.{atoms_apart}
use Rattle.cd_products.proofs.disjoint.have_disjoint_sets.Goals as goal

-- no atom is in both sets
pub returns-in_ok-intersect-in-Some-Some : goal.returns-in_ok-intersect-in-Some-Some
returns-in_ok-intersect-in-Some-Some c none =
    atoms_apart (nodes c.args.graph.now) c.args.one c.args.other c.in-Some-Some.atoms.now c.in-Some-Some.others.now
    c.in_ok-intersect-in-Some-Some.field-0 (sym c.formula.ensures.formula ∙ c.in-Some-Some.ensures)
    (sym c.formula-2.ensures.formula ∙ c.in-Some-Some.ensures')
    c.in_ok-intersect-in-Some-Some.ensures (c.is_empty-in-Some-Some.ensures.0 none)
