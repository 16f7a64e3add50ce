-- What is done with conjuncts in the making, which are a list from the top on.
use Rattle.std.specs.Prelude.{◌≡◌, ℕ, List, [], ◌∷◌, ◌++◌}
use Rattle.cd_sets.specs.declared.question.Question.{Question}
use Rattle.cd_model.specs.AllOf.{AllOf}
use Rattle.cd_model.specs.Formula.{IsFormula}
use Rattle.cd_model.specs.Kinds.{Kind}
use Rattle.cd_rules.specs.Dnf.{Conjunct}
use Rattle.cd_rules.specs.Family.{IsSubsumed}
use Rattle.cd_rules.specs.PartialConjuncts.{Partial, GoesOn, PartialFails, partial, clause_by}
use Rattle.cd_normal.specs.declared.advance.Advance.{Advance}
use Rattle.cd_normal.specs.declared.advance.Advance.TheVariants.{Nothing, Went, Complete}
use Rattle.cd_normal.specs.PlainClause.{plain_clause}

-- each formula of a conjunct is one of a graph of so many nodes
abbrev pub IsOfNodes : ℕ → Partial → Type 0
IsOfNodes nodes is = AllOf (λ literal. IsFormula nodes literal.is) is.conjunct
    × AllOf (λ one. IsFormula nodes one.0) is.left

-- the conjunct on the top goes on by its next formula
abbrev pub TopGoesOn : (before after : List Partial) → Type 0
TopGoesOn before after = (first : Partial) × (more : List Partial) × (rest : List Partial)
    × (before ≡ first ∷ rest) × (after ≡ more ++ rest) × GoesOn first more

-- what is done where this is answered: nothing, as there is no conjunct; the conjunct on the top
-- goes on; or it is complete and is taken away, and this is its clause
abbrev pub GoesBy : (before after : List Partial) → Advance → Type 0
GoesBy before after (Complete clause) = (kind : Kind) × (conjunct : Conjunct)
    × (before ≡ partial kind conjunct [] ∷ after) × (plain_clause clause ≡ clause_by kind conjunct)
GoesBy before after Went = TopGoesOn before after
GoesBy before after Nothing = (before ≡ []) × (after ≡ [])

-- the conjunct on the top fails where this question is subsumed
abbrev pub IsNeededByTop : List Partial → Question → Type 0
IsNeededByTop conjuncts question = (first : Partial) × (rest : List Partial)
    × (conjuncts ≡ first ∷ rest)
    × ((family : List Question) → IsSubsumed question family → PartialFails family first)
