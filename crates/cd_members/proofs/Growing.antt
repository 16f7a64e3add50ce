-- A table that only grows: facts stay right while it does.
use Rattle.std.proofs.Common.{◌≡◌, List, [], ◌++◌, sym, subst, append-nil}
use Rattle.cd_model.specs.Thing.{Thing}
use Rattle.cd_model.specs.Formula.{Graph, IsGraph}
use Rattle.cd_facts.specs.Facts.{Fact, AreRight}
use Rattle.cd_facts.proofs.FactsKept.{right_in_more}

-- the table has the same elements, and more after them
abbrev pub Grown : (old new : List Thing) → Type 0
Grown old new = (more : List Thing) × (new ≡ old ++ more)

pub facts_stay : (graph : Graph) → IsGraph graph → (old new : List Thing) → Grown old new → (facts : List Fact)
    → AreRight graph old facts → AreRight graph new facts
facts_stay graph sound old new (more, grown) facts right =
    subst (λ (table : List Thing). AreRight graph table facts) (sym grown)
    (subst (λ (graph : Graph). AreRight graph (old ++ more) facts) (append-nil graph)
    (right_in_more graph [] old more facts sound right))
