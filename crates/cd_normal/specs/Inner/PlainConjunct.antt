-- The literals and conjuncts of the code as plain data.
use Rattle.std.specs.Prelude.{List, map}
use Rattle.std.specs.declared.alloc.Global.{Global}
use Rattle.std.specs.declared.vec.Vec.{Vec}
use Rattle.cd_graph.specs.PlainFormula.{plain}
use Rattle.cd_rules.specs.Dnf.{Conjunct, Literal}
use Rattle.cd_normal.specs.declared.literal.Literal.{Literal as CodeLiteral}

abbrev pub plain_literal : CodeLiteral → Literal
plain_literal literal = record { wanted = literal.wanted; is = plain literal.formula.now }

abbrev pub plain_conjunct : List CodeLiteral → Conjunct
plain_conjunct literals = map plain_literal literals

abbrev pub plain_conjuncts : List (Vec CodeLiteral Global) → List Conjunct
plain_conjuncts conjuncts = map (λ conjunct. plain_conjunct conjunct.items) conjuncts
