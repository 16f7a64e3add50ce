use Rattle.std.proofs.Common.{List, map, sym, subst, ap, ◌∙◌}
use Rattle.std.specs.List.{All}
use Rattle.cd_sets.specs.Atoms.{Atoms, IsAtom}
use Rattle.cd_sets.specs.Interval.{HoldsNothing}
use Rattle.cd_model.specs.Formula as formula
use Rattle.cd_model.specs.Formula.{Formula, formulas_of}
use Rattle.cd_graph.specs.PlainFormula.{plain}
use Rattle.cd_graph.specs.declared.formula.Formula.{Formula as CodeFormula}
use Rattle.cd_products.specs.Inner.Sets.{IsOfSets, Adds}
use Rattle.cd_products.proofs.SetsMade.{is_of_sets}
use Rattle.cd_products.proofs.sets.of_sets.Goals as goal

pub returns : goal.returns
returns c =
    let sets = c.args.sets in
    let first = map plain c.add_integers.new.members.items in
    subst (IsOfSets sets) (sym (c.or.ensures
    ∙ ap (λ (all : List Formula). formula.Or (formulas_of all)) c.in_ok-of.ensures))
    (is_of_sets sets
    (subst (λ (set : Atoms). All IsAtom set.names) c.atoms.view_is c.atoms.invariant.each)
    first (map plain c.add_characters.new.members.items)
    (map plain c.add_atoms.new.members.items)
    (subst (λ (all : List CodeFormula). Adds (formula.Ints sets.integers)
    (HoldsNothing sets.integers) (map plain all) first) c.new-members.ensures.items
    c.in_ok-add_integers.ensures) c.in_ok-add_characters.ensures c.in_ok-add_atoms.ensures)
