-- Conjuncts in the making as those of the rules.
use Rattle.std.specs.Prelude.{List, map, reverse}
use Rattle.cd_graph.specs.PlainFormula.{plain}
use Rattle.cd_rules.specs.PartialConjuncts.{Partial, Signed, partial}
use Rattle.cd_normal.specs.declared.partial.PartialConjunct.{PartialConjunct}
use Rattle.cd_normal.specs.declared.literal.Literal.{Literal}
use Rattle.cd_normal.specs.Inner.PlainConjunct.{plain_conjunct}
use Rattle.cd_normal.specs.Inner.PlainKind.{plain_kind}

abbrev pub signed : Literal → Signed
signed literal = (plain literal.formula.now, literal.wanted)

-- what comes next stands last in the code
abbrev pub plain_left : List Literal → List Signed
plain_left left = map signed (reverse left)

abbrev pub plain_partial : PartialConjunct → Partial
plain_partial is = partial (plain_kind is.kind) (plain_conjunct is.conjunct.items)
    (plain_left is.left.items)

abbrev pub plain_partials : List PartialConjunct → List Partial
plain_partials conjuncts = map plain_partial (reverse conjuncts)
