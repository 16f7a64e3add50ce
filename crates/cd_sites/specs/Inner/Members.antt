-- The members of a union, and of the unions in it. Those that are basic sets stand together, as one
-- union, so that they stay few.
use Rattle.std.specs.Prelude.{List, [], ◌∷◌, ◌++◌}
use Rattle.cd_model.specs.Formula as formula
use Rattle.cd_model.specs.Formula.{Formula, Formulas, NoFormula, AFormula, formulas_of}

abbrev mutual
  pub basic_members : Formula → List Formula
  basic_members (formula.Ints set) = formula.Ints set ∷ []
  basic_members (formula.Chars set) = formula.Chars set ∷ []
  basic_members (formula.Atoms set) = formula.Atoms set ∷ []
  basic_members (formula.Or all) = all_basic_members all
  basic_members f = []

  pub all_basic_members : Formulas → List Formula
  all_basic_members NoFormula = []
  all_basic_members (AFormula f rest) = basic_members f ++ all_basic_members rest

abbrev mutual
  pub other_members : Formula → List Formula
  other_members formula.Nothing = []
  other_members (formula.Ints set) = []
  other_members (formula.Chars set) = []
  other_members (formula.Atoms set) = []
  other_members (formula.Or all) = all_other_members all
  other_members f = f ∷ []

  pub all_other_members : Formulas → List Formula
  all_other_members NoFormula = []
  all_other_members (AFormula f rest) = other_members f ++ all_other_members rest

abbrev pub with_union : (others basic : List Formula) → List Formula
with_union others [] = others
with_union others (f ∷ basic) = others ++ (formula.Or (formulas_of (f ∷ basic)) ∷ [])

abbrev pub members_of : Formula → List Formula
members_of f = with_union (other_members f) (basic_members f)
