-- The formula of all sequences of items.
use Rattle.std.specs.Prelude.{[], ◌∷◌, codes}
use Rattle.cd_sets.specs.declared.node_id.NodeId.{NodeId}
use Rattle.cd_model.specs.BuiltIns.{atoms_of}
use Rattle.cd_model.specs.Formula.{Formula, Pair, Or, formulas_of}

abbrev pub nil_formula : Formula
nil_formula = atoms_of (codes "nil" ∷ [])

-- the pairs of an item and a list, and the end
abbrev pub list_formula : (item list : NodeId) → Formula
list_formula item list = Or (formulas_of (Pair item list ∷ nil_formula ∷ []))
