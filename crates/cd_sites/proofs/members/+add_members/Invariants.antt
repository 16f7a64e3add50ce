use Rattle.std.proofs.Common.{◌≡◌, ◌++◌, map, drop}
use Rattle.cd_model.specs.Formula.{formulas_of}
use Rattle.cd_graph.proofs.Sizes.{size, size_list}
use Rattle.cd_graph.specs.PlainFormula.{plain, plain_list}
use Rattle.cd_sites.specs.Inner.Members.{all_other_members, all_basic_members}
use Rattle.cd_sites.proofs.members.+add_members.Given as goal

-- each formula is smaller than the one or the list that it stands in
abbrev pub decreases-add_members : goal.decreases-add_members
decreases-add_members l = size (plain l.formula.now)

abbrev pub decreases-add_members_of_all : goal.decreases-add_members_of_all
decreases-add_members_of_all l = size_list (formulas_of (plain_list l.all.now))

-- the members so far, with those of the formulas that are left, are all
abbrev pub invariant-add_members_of_all-loop-formula :
    goal.invariant-add_members_of_all-loop-formula
invariant-add_members_of_all-loop-formula l = record {
  others : map plain l.others.items
      ++ all_other_members (formulas_of (map plain (drop l.formula-index l.formula-items)))
      ≡ map plain l.fn.others.items ++ all_other_members (formulas_of (plain_list l.fn.all));
  basic : map plain l.basic.items
      ++ all_basic_members (formulas_of (map plain (drop l.formula-index l.formula-items)))
      ≡ map plain l.fn.basic.items ++ all_basic_members (formulas_of (plain_list l.fn.all));
}
