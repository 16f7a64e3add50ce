-- The formulas of built-in nodes in graphs that begin with these nodes.
use Rattle.std.proofs.Common.{◌≡◌, [], ◌∷◌, ◌++◌, ap, ◌∙◌, codes}
use Rattle.cd_sets.specs.Atoms.{listing}
use Rattle.cd_syntax.specs.declared.builtin.BuiltinName.{BuiltinName}
use Rattle.cd_model.specs.BuiltIns.{built_in, built_ins, node_named, EMPTY, ANY, NIL}
use Rattle.cd_model.specs.Formula as formula
use Rattle.cd_model.specs.Formula.{Graph, formula_at}
use Rattle.cd_model.proofs.BuiltInsStand.{formula_is}

-- a graph that begins with the built-in nodes
abbrev pub Begins : Graph → Type 0
Begins graph = (more : Graph) × (graph ≡ built_ins ++ more)

pub formula_of_name : (graph : Graph) → Begins graph → (name : BuiltinName)
    → formula_at graph (node_named name) ≡ built_in node_named name
formula_of_name graph begins name = ap (λ graph. formula_at graph (node_named name)) begins.1 ∙ formula_is begins.0 name

-- the nodes of nothing, of everything and of the empty text
pub formula_of_empty : (graph : Graph) → Begins graph → formula_at graph EMPTY ≡ formula.Nothing
formula_of_empty graph begins = ap (λ graph. formula_at graph EMPTY) begins.1

pub formula_of_any : (graph : Graph) → Begins graph → formula_at graph ANY ≡ formula.Everything
formula_of_any graph begins = ap (λ graph. formula_at graph ANY) begins.1

pub formula_of_nil : (graph : Graph) → Begins graph
    → formula_at graph NIL ≡ formula.Atoms (listing (codes "nil" ∷ []))
formula_of_nil graph begins = ap (λ graph. formula_at graph NIL) begins.1
