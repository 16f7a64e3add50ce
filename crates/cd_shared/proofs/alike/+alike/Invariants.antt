use Rattle.std.proofs.Common.{◌≡◌, ◌+◌, map, drop}
use Rattle.cd_model.specs.Formula.{formulas_of}
use Rattle.cd_graph.specs.PlainFormula.{plain, plain_formulas}
use Rattle.cd_graph.proofs.Sizes.{size, size_list}
use Rattle.cd_shared.specs.Shared.{class_in, renamed_formulas}
use Rattle.cd_shared.proofs.alike.+alike.Given as goal

-- each formula is smaller than the one or the list that it stands in
abbrev pub decreases-are_alike_formulas : goal.decreases-are_alike_formulas
decreases-are_alike_formulas l = size (plain l.one.now) + size (plain l.one.now)

abbrev pub decreases-are_meets : goal.decreases-are_meets
decreases-are_meets l = size_list (plain_formulas l.formulas.now) + size_list (plain_formulas l.formulas.now) + 1

abbrev pub decreases-are_unions : goal.decreases-are_unions
decreases-are_unions l = size_list (plain_formulas l.formulas.now) + size_list (plain_formulas l.formulas.now) + 1

abbrev pub decreases-are_complements : goal.decreases-are_complements
decreases-are_complements l = size (plain l.negated.now) + size (plain l.negated.now) + 1

abbrev pub decreases-are_alike_lists : goal.decreases-are_alike_lists
decreases-are_alike_lists l = size_list (plain_formulas l.some.now) + size_list (plain_formulas l.some.now)

-- the lists are alike where what is left of them is
abbrev pub invariant-are_alike_lists-loop-index : goal.invariant-are_alike_lists-loop-index
invariant-are_alike_lists-loop-index l = l.joined.one ≡ l.joined.other →
    renamed_formulas (class_in l.classes) (formulas_of (map plain (drop l.index l.items)))
    ≡ renamed_formulas (class_in l.classes) (formulas_of (map plain (drop l.index l.next)))
    → renamed_formulas (class_in l.classes) (plain_formulas l.some)
    ≡ renamed_formulas (class_in l.classes) (plain_formulas l.others)
