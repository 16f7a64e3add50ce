use Rattle.std.proofs.Common.{◌≡◌, ◌++◌, drop}
use Rattle.cd_rules.specs.Clauses.{parts_in, arrow_of}
use Rattle.cd_normal.specs.Inner.PlainConjunct.{plain_conjunct}
use Rattle.cd_normal.proofs.side.arrows.Given as goal

-- the parts so far, and those of the literals that are left, are all
abbrev pub invariant-loop-literal : goal.invariant-loop-literal
invariant-loop-literal l =
    l.parts.items ++ parts_in arrow_of l.wanted (plain_conjunct (drop l.literal-index l.conjunct))
    ≡ parts_in arrow_of l.wanted (plain_conjunct l.conjunct)
