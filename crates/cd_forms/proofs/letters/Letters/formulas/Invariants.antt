use Rattle.std.proofs.Common.{◌≡◌, ◌++◌, ◌-◌, map, drop, length}
use Rattle.cd_graph.specs.PlainFormula.{plain}
use Rattle.cd_model.specs.Leaves.{one_character}
use Rattle.cd_forms.proofs.letters.Letters.formulas.Given as goal

-- the formulas so far, and those of the characters that are left, are all
abbrev pub invariant-loop-c : goal.invariant-loop-c
invariant-loop-c l = map plain l.formulas.items
    ++ map one_character (drop (length l.formulas.items) l.self) ≡ map one_character l.self

abbrev pub decreases-loop-c : goal.decreases-loop-c
decreases-loop-c l = length l.self - length l.formulas.items
