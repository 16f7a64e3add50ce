-- Formulas that by their form hold integers, characters and atoms alone.
use Rattle.std.specs.Prelude.{Bool, true, false, ◌&&◌, ◌||◌, List, [], ◌∷◌}
use Rattle.cd_sets.specs.declared.node_id.NodeId.{NodeId}
use Rattle.cd_model.specs.Formula as formula
use Rattle.cd_model.specs.Formula.{Formula, Formulas, NoFormula, AFormula, Graph, formula_at}

abbrev mutual
  pub is_basic : Formula → Bool
  is_basic formula.Nothing = true
  is_basic (formula.Ints set) = true
  is_basic (formula.Chars set) = true
  is_basic (formula.Atoms set) = true
  is_basic (formula.And formulas) = one_is_basic formulas
  is_basic (formula.Or formulas) = all_are_basic formulas
  is_basic _ = false

  pub one_is_basic : Formulas → Bool
  one_is_basic NoFormula = false
  one_is_basic (AFormula is rest) = is_basic is || one_is_basic rest

  pub all_are_basic : Formulas → Bool
  all_are_basic NoFormula = true
  all_are_basic (AFormula is rest) = is_basic is && all_are_basic rest

abbrev pub one_node_is_basic : Graph → List NodeId → Bool
one_node_is_basic graph [] = false
one_node_is_basic graph (id ∷ ids) =
    is_basic (formula_at graph id) || one_node_is_basic graph ids
