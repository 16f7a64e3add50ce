-- Simpler forms of meets and unions.
use Rattle.std.specs.Prelude.{◌≡◌, Bool, true, false, List, [], ◌∷◌, ◌++◌}
use Rattle.std.specs.List.{list_any}
use Rattle.cd_model.specs.Formula as formula
use Rattle.cd_model.specs.Formula.{Formula, Formulas, NoFormula, AFormula, formulas_of}

-- whether a formula is that of everything
abbrev pub is_everything : Formula → Bool
is_everything formula.Everything = true
is_everything other = false

-- formulas as a list
abbrev pub listed : Formulas → List Formula
listed NoFormula = []
listed (AFormula first rest) = first ∷ listed rest

-- the formulas of a meet, and any other formula alone
abbrev pub conjuncts : Formula → List Formula
conjuncts (formula.And formulas) = listed formulas
conjuncts other = other ∷ []

-- The second formula is the first one, or a simpler form of it: a meet with Everything is the other
-- formula, and a meet of meets is one of all their formulas. A union with Everything is Everything,
-- and a union of one formula is that one. So it holds what the first one holds, and names no nodes
-- but those of the first
pub data IsSimpler : Formula → Formula → Type 0 where
  as_it_is : (f : Formula) → IsSimpler f f
  meet_before_all : (f : Formula)
      → IsSimpler (formula.And (formulas_of (f ∷ formula.Everything ∷ []))) f
  meet_after_all : (f : Formula)
      → IsSimpler (formula.And (formulas_of (formula.Everything ∷ f ∷ []))) f
  meet_of_meets : (f g : Formula) → IsSimpler (formula.And (formulas_of (f ∷ g ∷ [])))
      (formula.And (formulas_of (conjuncts f ++ conjuncts g)))
  union_with_all : (formulas : List Formula) → list_any is_everything formulas ≡ true
      → IsSimpler (formula.Or (formulas_of formulas)) formula.Everything
  union_of_one : (f : Formula) → IsSimpler (formula.Or (formulas_of (f ∷ []))) f
