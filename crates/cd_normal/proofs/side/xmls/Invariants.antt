use Rattle.std.proofs.Common.{◌≡◌, ◌++◌, true, false, drop}
use Rattle.cd_rules.specs.Clauses.{parts_in, xml_of}
use Rattle.cd_normal.specs.Inner.PlainConjunct.{plain_conjunct}
use Rattle.cd_normal.proofs.side.xmls.Given as goal

-- the parts so far, and those of the literals that are left, are all
abbrev pub invariant-loop-literal : goal.invariant-loop-literal
invariant-loop-literal l =
    (l.wanted.items ++ parts_in xml_of true (plain_conjunct (drop l.literal-index l.conjunct)) ≡ parts_in xml_of true (plain_conjunct l.conjunct))
    × (l.refused.items ++ parts_in xml_of false (plain_conjunct (drop l.literal-index l.conjunct)) ≡ parts_in xml_of false (plain_conjunct l.conjunct))
