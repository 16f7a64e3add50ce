use Rattle.std.proofs.Common.{◌≡◌, [], map, drop}
use Rattle.cd_syntax.specs.TypeTree.{trees_of}
use Rattle.cd_resolve.specs.Wanted.{wanted_tree}
use Rattle.cd_shared.specs.Equation.{plain_equations}
use Rattle.cd_resolve.specs.Inner.PlainBase.{names_outside}
use Rattle.cd_resolve.specs.Inner.Walk.{walked_trees}
use Rattle.cd_resolve.proofs.read.walk_types.Given as goal

-- what is left leads from here to what all lead to
abbrev pub invariant-loop-one : goal.invariant-loop-one
invariant-loop-one l =
    walked_trees l.base.first (names_outside l.base) [] (trees_of (map wanted_tree (drop l.one-index l.wanted)))
    l.roots.items (plain_equations l.state.equations.items)
    ≡ walked_trees l.base.first (names_outside l.base) [] (trees_of (map wanted_tree l.wanted)) []
    (plain_equations l.fn.state.equations.items)
